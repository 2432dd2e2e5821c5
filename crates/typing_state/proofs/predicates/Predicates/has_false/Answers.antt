use Rattle.std.proofs.Common.{◌∙◌, ap, map, nat_lt}
use Rattle.std.specs.List.{list_any}
use Rattle.cov_expr.specs.View.{term}
use Rattle.point_law.specs.Terms.{is_false}
use Rattle.typing_state.proofs.DropLaws.{any_counted}
use Rattle.typing_state.proofs.predicates.Predicates.has_false.Goals as goal

pub returns : goal.returns
returns c =
    ap (nat_lt 0) c.self.invariant.2 ∙ any_counted is_false (map term c.self.inside.list) ∙ ap (λ es. list_any is_false (map term es)) c.self.view_is
