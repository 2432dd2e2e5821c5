use Rattle.std.proofs.Common.{◌++◌, ◌∙◌, ap, append_assoc, codes}
use Rattle.std.proofs.lemmas.Result.{on_ok_weaker}
use Rattle.cov_ast.specs.View as view
use Rattle.text_parts.specs.VariableNames.{variable_names}
use Rattle.entail_refused.specs.AskedBy.{listed_name}
use Rattle.entail_refused.proofs.asked_by.add_listed.Goals as goal

pub returns : goal.returns
returns c =
    let p = view.program c.args.p.now in
    let bytes = c.args.bytes.now in
    let z = c.args.z in
    let v = view.var c.args.var.now in
    let rest = listed_name bytes (variable_names p.vars) p z v in
    on_ok_weaker c.add_listed_name.result
    (λ is. is ∙ ap (λ names. c.extend_from_slice.new.self ++ listed_name bytes names p z v) c.in_ok-names.ensures
    ∙ ap (λ s. s ++ rest) c.in_ok-extend_from_slice.ensures.ok ∙ append_assoc c.args.text.now (codes "  asked by:     the type listed for ") rest)
    c.add_listed_name.ensures
