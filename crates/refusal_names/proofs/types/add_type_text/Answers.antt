use Rattle.std.proofs.Common.{◌≡◌, ◌++◌, ◌∙◌, ap, subst, codes, OnOk}
use Rattle.cov_ast.specs.Tables.{has}
use Rattle.cov_expr.specs.View.{term}
use Rattle.cov_print.specs.Spelling.{name, whole}
use Rattle.refusal_names.specs.NameLines.{part_word, part_fault}
use Rattle.refusal_names.proofs.LineLaws.{six_pieces}
use Rattle.refusal_names.proofs.types.add_type_text.Goals as goal

pub returns : goal.returns
returns c =
    let control = has c.args.controls.now c.args.x in
    let word : c.part_word.result.now ≡ part_word control = c.part_word.ensures ∙ ap part_word c.has-control.ensures in
    let fault : c.part_fault.result.now ≡ part_fault control = c.part_fault.ensures ∙ ap part_fault c.has-control.ensures in
    six_pieces c.extend_from_slice-4.result c.args.text.now (codes "  the type `") (whole c.args.names.now (term c.args.q.now)) (codes "` has the ")
    c.extend_from_slice.new.self c.add_expr.new.out c.extend_from_slice-2.new.self
    c.in_ok-extend_from_slice.ensures.ok c.in_ok-add_expr.ensures
    (part_word control) (name c.args.names.now c.args.x) c.extend_from_slice-3.new.self c.add_variable.new.text
    c.in_ok-extend_from_slice-2.ensures.ok (c.in_ok-extend_from_slice-3.ensures.ok ∙ ap (λ w. c.extend_from_slice-2.new.self ++ w) word)
    (part_fault control) c.extend_from_slice-4.new.self c.in_ok-add_variable.ensures
    (subst (λ w. OnOk c.extend_from_slice-4.result (c.extend_from_slice-4.new.self ≡ c.add_variable.new.text ++ w)) fault c.extend_from_slice-4.ensures.ok)
