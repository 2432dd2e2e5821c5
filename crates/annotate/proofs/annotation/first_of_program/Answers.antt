use Rattle.std.proofs.Common.{◌∙◌, [], ap, sym}
use Rattle.std.proofs.lemmas.List.{append-nil}
use Rattle.cov_ast.specs.Obligations.{first_false}
use Rattle.cov_ast.specs.View as view
use Rattle.typing_law.specs.Accepted.{program_obligations}
use Rattle.annotate.proofs.NameLaws.{first_behind}
use Rattle.annotate.proofs.annotation.first_of_program.Goals as goal

pub returns-in-Ok : goal.returns-in-Ok
returns-in-Ok c =
    let os = program_obligations (view.program c.args.program.now) in
    sym (ap first_false (sym (append-nil os)) ∙ first_behind os [] c.in-Ok.ensures.answer.1)
