use Rattle.std.proofs.Common.{◌≡◌, ◌∙◌, ap, sym, map, not, subst}
use Rattle.std.specs.List.{IsDistinct, count_by}
use Rattle.std.specs.Prelude.{IfSome}
use Rattle.std.specs.Str.{bytes_eq}
use Rattle.cov_expr.specs.View.{term}
use Rattle.typing_state.specs.Keys.{key}
use Rattle.point_law.specs.Terms.{is_false, is_small}
use Rattle.typing_state.proofs.predicates.Predicates.copy.Goals as goal

pub invariant_of-result : goal.invariant_of-result
invariant_of-result c =
    let list = c.self.inside.list in
    let same : map term list ≡ map term c.in_ok-copy_preds.field-0 = ap (map term) (sym c.as_slice.ensures) ∙ sym c.in_ok-copy_preds.ensures in (
      subst (λ es. IsDistinct bytes_eq (map key es)) same c.self.invariant.0,
      subst (λ es. IfSome c.in_ok-copy_keys.field-0 (λ i. i.keys ≡ map key es)) same (c.in_ok-copy_keys.ensures (map key (map term list)) c.self.invariant.1),
      c.self.invariant.2 ∙ ap (count_by is_false) same,
      c.self.invariant.3 ∙ ap (count_by (λ e. not (is_small e))) same,
    )
