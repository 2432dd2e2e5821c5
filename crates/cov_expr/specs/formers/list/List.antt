-- How a `List` splits into its items, so that a recursive type may lead through it.
use mathlib.Core.Path.{◌≡◌, refl, sym}
use mathlib.Core.List.{List, []}
use mathlib.Core.Former.{Former, this, list, via, children}
use base.Stored.{code_map}
use denote.RattleType.{RattleType}
use denote.HoleLaws.{Alike}
use denote.HolePlaces.{Recodes, struct_places, laid}
use denote.Hole.Carrier.{listed, list-listed}
use denote.Hole.Fix.{over}
use denote.Param.Weighed.{Weighed, w_list}
use denote.Model.Placed.{view_places}
use Rattle.std.specs.formers.vec.Vec as vec
use Rattle.std.specs.declared.alloc.Global.{Global}
use Rattle.std.specs.contracts.alloc.Global as heap
use Rattle.std.specs.contracts.impls.GlobalAllocator.TheImpl.{ghosts}
use Rattle.cov_expr.specs.declared.list.List.TheInside.{Inside}
use Rattle.cov_expr.specs.declared.list.List.TheView.{view, invariant}
use Rattle.cov_expr.specs.contracts.list.List as owner
use Rattle.cov_expr.specs.contracts.list.List.TheInside as inside

abbrev pub the_former : Former {0} → Former {0}
the_former g = list g

abbrev pub the_weighed : {g : Former {0}} → Weighed g → Weighed (the_former g)
the_weighed w = w_list w

pub the_empty : List ⊥
the_empty = []

abbrev pub the_items : (X : Type 0) → List X → List X
the_items X items = items

pub the_items_listed : (X : Type 0) (items : List X) → listed _ (children (the_former this) X items) ≡ the_items X items
the_items_listed X items = list-listed X items

-- the fields, one vector, as what they own
abbrev fields : Former {0}
fields = via (vec.the_former this Global) Inside (λ X l. l.inner) (λ X v. record { inner = v }) (λ X l. refl) (λ X v. refl)

module _ (R R' : RattleType) (h : R.Denot → R'.Denot) where
  pub the_places : Alike R R' h → Alike (owner.the_row R) (owner.the_row R') ((the_former this).map R.Denot R'.Denot h)
  the_places alike = view_places fields (list this) view (λ X Y k l. refl) (λ X l. refl) R.Denot R'.Denot h (owner.the_row R).coded (owner.the_row R').coded
      (invariant R.Denot) (invariant R'.Denot) (λ l p q. refl) (λ l p q. refl) (λ l e. tt) (λ l e. tt)
      (over (inside.the_row R)) (over (inside.the_row R'))
      (struct_places (inside.the_type R) (inside.the_type R') (vec.mapped h, tt) _ (λ d. refl) refl (laid _ _ _ (vec.the_places heap.the_row ghosts R R' h alike), tt))

  pub the_codes_placed : Recodes R R' h → Recodes (owner.the_row R) (owner.the_row R') ((the_former this).map R.Denot R'.Denot h)
  the_codes_placed recodes items = sym (code_map R.coded.code R'.coded.code h (λ x. sym (recodes x)) items)
