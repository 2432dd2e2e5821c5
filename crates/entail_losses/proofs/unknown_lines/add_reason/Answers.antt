use Rattle.std.proofs.Common.{◌++◌, ◌∙◌, ap, append-nil, sym}
use Rattle.cov_ast.specs.Plain.{plain}
use Rattle.cov_ast.specs.View as view
use Rattle.entail_losses.specs.UnknownLines.{reason_text}
use Rattle.entail_losses.specs.Unknowns.{seen}
use Rattle.entail_losses.proofs.unknown_lines.add_reason.Goals as goal

pub returns-in-Known : goal.returns-in-Known
returns-in-Known c =
    sym (append-nil c.args.text.now)
    ∙ ap (λ r. c.args.text.now ++ reason_text (plain (view.program c.args.p.now)) c.args.names.now c.args.bytes.now (seen r)) (sym c.in-Known.is)
