use Rattle.std.proofs.Common.{◌∙◌, ap}
use Rattle.cov_expr.specs.Trees.{mentions}
use Rattle.cov_expr.specs.View.{term}
use Rattle.cov_ast.specs.Tables.{has}
use Rattle.cov_ast.proofs.TableLaws.{table_at}
use Rattle.typing_state.proofs.types.Type.mentions.Goals as goal

pub returns : goal.returns
returns c =
    c.has.ensures ∙ ap (λ m. has m c.args.x) c.self.invariant.2 ∙ table_at 256 (mentions (term c.self.inside.expr)) c.args.x c.requires
    ∙ ap (λ e. mentions (term e) c.args.x) c.self.view_is
