use Rattle.std.proofs.Common.{ap, map, sym, not}
use Rattle.std.specs.List.{count_by}
use Rattle.cov_expr.specs.View.{term}
use Rattle.point_law.specs.Terms.{is_false, is_small}
use Rattle.typing_state.proofs.OnceLaws.{distinct_none}
use Rattle.typing_state.proofs.predicates.Predicates.new.Goals as goal

pub invariant_of-result : goal.invariant_of-result
invariant_of-result c =
    let none = c.new.ensures in (
      distinct_none c.new.result none,
      tt,
      ap (λ l. count_by is_false (map term l)) (sym none),
      ap (λ l. count_by (λ e. not (is_small e)) (map term l)) (sym none),
    )
