use Rattle.std.proofs.Common.{◌++◌, ◌∙◌, ap, append_assoc, codes}
use Rattle.std.proofs.lemmas.Result.{on_ok_weaker}
use Rattle.cov_ast.specs.Declarations.{name_of}
use Rattle.cov_ast.specs.Plain.{plain}
use Rattle.cov_ast.specs.View as view
use Rattle.entail_origins.proofs.type_lines.add_retype.Goals as goal

pub returns : goal.returns
returns c =
    let name = name_of (plain (view.program c.args.p.now)) c.args.z in
    on_ok_weaker c.add_variable_name.result
    (λ is. is ∙ ap (λ s. s ++ name) c.in_ok-extend_from_slice.ensures.ok ∙ append_assoc c.args.text.now (codes "; another is set by a store to it in front, or by `retype ") name)
    c.add_variable_name.ensures
