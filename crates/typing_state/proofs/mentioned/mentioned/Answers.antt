use Rattle.std.proofs.Common.{◌∙◌, ap}
use Rattle.cov_expr.specs.Trees.{occurrences}
use Rattle.cov_expr.specs.View.{term}
use Rattle.cov_ast.specs.Tables.{with_all}
use Rattle.typing_state.proofs.GroupLaws.{all_mentioned}
use Rattle.typing_state.proofs.mentioned.mentioned.Goals as goal

pub returns : goal.returns
returns c =
    let e = term c.args.e.now in
    c.add_variables.ensures ∙ ap (λ m. with_all m (occurrences e)) c.new-found.ensures ∙ all_mentioned 256 e
