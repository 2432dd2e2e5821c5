-- A name has an id exactly where it is declared as what it is used.
use Rattle.std.proofs.Common.{◌≡◌, ℕ, ◌<◌, List, get_or, Bool, true, false, length, refl, sym, ◌∙◌, cond}
use Rattle.std.specs.Prelude.{nat_lt}
use Rattle.std.specs.Str.{bytes_eq}
use Rattle.std.proofs.lemmas.List.{length-map}
use Rattle.std.proofs.lemmas.Option.{get_or_from_slice_get, slice_get-get_or}
use Rattle.cov_ast.specs.declared.parsed.NameUse.{NameUse}
use Rattle.cov_ast.specs.Syntax.{Parsed}
use Rattle.policy_class.specs.declared.ids.Ids.{Ids}
use Rattle.policy_class.specs.Inside.Ids.{AreIdsOf, has_id, var_in, lock_in}
use Rattle.policy_class.specs.Resolved.{is_declared, is_among, text_of, var_names, lock_names}
use Rattle.policy_class.proofs.PositionLaws.{is_inside}

-- an item, whatever stands past the end
pub item_is : {X : Type 0} (xs : List X) (i : ℕ) (d : X) → i < length xs → get_or xs i d ≡ get_or xs i (get_or xs i d)
item_is xs i d inside = sym (get_or_from_slice_get xs i (get_or xs i d) (get_or xs i d) (slice_get-get_or xs i d inside))

pub has_is_declared : (p : Parsed) (t : Ids) (u : NameUse) → AreIdsOf p t → has_id t u ≡ is_declared p u
has_is_declared p t u h =
    (λ i. cond u.lock (as_lock i) (as_variable i)) ∙ go u.lock
  where
    as_variable : nat_lt (var_in t u.name) t.var_count ≡ is_among (var_names p) (text_of p u.name)
    as_variable =
        (λ i. nat_lt (h.variables u.name i) ((h.var_count ∙ sym (length-map p.vars (λ v. v.name))) i))
        ∙ is_inside (bytes_eq (text_of p u.name)) (var_names p)

    as_lock : nat_lt (lock_in t u.name) t.lock_count ≡ is_among (lock_names p) (text_of p u.name)
    as_lock =
        (λ i. nat_lt (h.locks u.name i) ((h.lock_count ∙ sym (length-map p.locks (λ l. l.name))) i))
        ∙ is_inside (bytes_eq (text_of p u.name)) (lock_names p)

    go : (b : Bool) → cond b (is_among (lock_names p) (text_of p u.name)) (is_among (var_names p) (text_of p u.name))
        ≡ is_among (cond b (lock_names p) (var_names p)) (text_of p u.name)
    go true = refl
    go false = refl
