use Rattle.std.proofs.Common.{◌∙◌, ap, sym, length}
use Rattle.std.specs.Prelude.{◌&&◌}
use Rattle.cov_ast.specs.Declarations.{is_control}
use Rattle.cov_ast.specs.Tables.{has}
use Rattle.cov_ast.proofs.TableLaws.{table_at}
use Rattle.refusal_names.proofs.sets.is_stable_control.Goals as goal

pub returns-then-stable : goal.returns-then-stable
returns-then-stable c p t held modes controls inside =
    let stable = sym c.if-stable.true ∙ c.stable.ensures p t held modes inside in
    let control = c.has.ensures ∙ ap (λ marks. has marks c.args.x) controls ∙ table_at (length p.vars) (is_control p) c.args.x inside in
    control ∙ (λ i. stable i && is_control p c.args.x)
