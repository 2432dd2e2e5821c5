use Rattle.std.proofs.Common.{◌++◌, ◌∙◌, ap, codes}
use Rattle.cov_expr.specs.View.{term}
use Rattle.cov_print.specs.Spelling.{whole}
use Rattle.refusal_names.proofs.LineLaws.{five_pieces}
use Rattle.refusal_names.proofs.added.add_invariant.Goals as goal

pub returns : goal.returns
returns c =
    five_pieces c.extend_from_slice-4.result c.args.text.now (codes "  one too many is the invariant of ") c.args.lock (codes ": `")
    c.extend_from_slice.new.self c.extend_from_slice-2.new.self c.extend_from_slice-3.new.self
    c.in_ok-extend_from_slice.ensures.ok (c.in_ok-extend_from_slice-2.ensures.ok ∙ ap (λ n. c.extend_from_slice.new.self ++ n) c.text.ensures.text)
    (whole c.args.names.now (term c.args.e.now)) (codes "`\n") c.add_expr.new.out c.extend_from_slice-4.new.self c.in_ok-extend_from_slice-3.ensures.ok c.in_ok-add_expr.ensures c.extend_from_slice-4.ensures.ok
