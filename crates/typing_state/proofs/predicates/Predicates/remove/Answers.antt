use Rattle.std.proofs.Common.{◌≡◌, map, not, refl, subst, arith, if◌then◌else◌}
use Rattle.std.specs.Prelude.{IfSome}
use Rattle.cov_expr.specs.View.{term}
use Rattle.typing_state.specs.Keys.{key}
use Rattle.point_law.specs.Terms.{is_false, is_small}
use Rattle.typing_state.proofs.DropLaws.{counted_less}
use Rattle.typing_state.proofs.OnceLaws.{distinct_dropped, keys_left}
use Rattle.typing_state.proofs.predicates.Predicates.remove.Goals as goal

pub false_without-self-inside-requires : goal.false_without-self-inside-requires
false_without-self-inside-requires c =
    let e = c.remove-e.result in
    let less = counted_less is_false c.self.inside.list c.remove-e.new.self c.args.index e (if is_false (term e) then 1 else 0) c.remove-e.ensures.item c.remove-e.ensures.rest refl in
    omega (arith, c.self.invariant.2, less)

pub large_without-self-inside-requires : goal.large_without-self-inside-requires
large_without-self-inside-requires c =
    let e = c.remove-e.result in
    let less = counted_less (λ t. not (is_small t)) c.self.inside.list c.remove-e.new.self c.args.index e (if not (is_small (term e)) then 1 else 0) c.remove-e.ensures.item
    c.remove-e.ensures.rest refl in
    omega (arith, c.self.invariant.3, less)

pub invariant_of-self : goal.invariant_of-self
invariant_of-self c =
    let list = c.self.inside.list in
    let new = c.remove-e.new.self in
    let e = c.remove-e.result in
    let item = c.remove-e.ensures.item in
    let false_less = counted_less is_false list new c.args.index e (if is_false (term e) then 1 else 0) item c.remove-e.ensures.rest refl in
    let large_less = counted_less (λ t. not (is_small t)) list new c.args.index e (if not (is_small (term e)) then 1 else 0) item c.remove-e.ensures.rest refl in (
      distinct_dropped list c.self.invariant.0 new c.args.index c.remove-e.ensures.rest,
      subst (λ ks. IfSome c.drop_key.new.keys (λ i. i.keys ≡ ks)) (keys_left list new c.args.index c.remove-e.ensures.rest)
          (c.drop_key.ensures (map key (map term list)) c.self.invariant.1),
      omega (arith, c.self.invariant.2, false_less, c.false_without-self-inside.ensures),
      omega (arith, c.self.invariant.3, large_less, c.large_without-self-inside.ensures),
    )
