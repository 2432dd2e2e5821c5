use Rattle.std.proofs.Common.{◌∙◌, ap, map, nat_eq}
use Rattle.std.specs.List.{list_all}
use Rattle.cov_expr.specs.View.{term}
use Rattle.point_law.specs.Terms.{is_small}
use Rattle.typing_state.proofs.DropLaws.{all_counted}
use Rattle.typing_state.proofs.predicates.Predicates.are_small.Goals as goal

pub returns : goal.returns
returns c =
    ap (λ n. nat_eq n 0) c.self.invariant.3 ∙ all_counted is_small (map term c.self.inside.list) ∙ ap (λ es. list_all is_small (map term es)) c.self.view_is
