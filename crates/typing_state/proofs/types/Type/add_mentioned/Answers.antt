use Rattle.std.proofs.Common.{◌∙◌, ◌||◌, ap, length, sym}
use Rattle.cov_expr.specs.Trees.{mentions}
use Rattle.cov_expr.specs.View.{term}
use Rattle.cov_ast.specs.Tables.{has}
use Rattle.cov_ast.proofs.TableLaws.{table_at, table_length}
use Rattle.typing_state.proofs.types.Type.add_mentioned.Goals as goal

pub insert_set-requires : goal.insert_set-requires
insert_set-requires c = ap length c.self.invariant.2 ∙ table_length 256 (mentions (term c.self.inside.expr)) ∙ sym c.requires

pub returns-clause-mentioned : goal.returns-clause-mentioned
returns-clause-mentioned c x lt =
    let f = mentions (term c.self.inside.expr) in
    let is = c.self.invariant.2 in
    c.insert_set.ensures.numbers x
    ∙ ap (λ b. has c.args.set.now x || b) (ap (λ m. has m x) is ∙ table_at 256 f x lt ∙ ap (λ e. mentions (term e) x) c.self.view_is)
