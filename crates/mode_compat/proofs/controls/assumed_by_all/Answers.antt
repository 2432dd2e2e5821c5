use Rattle.std.proofs.Common.{◌∙◌, length, map}
use Rattle.std.specs.List.{list_all, range_with_len}
use Rattle.cov_ast.specs.Tables.{has}
use Rattle.cov_ast.specs.View as view
use Rattle.mode_compat.proofs.ModeLaws.{all_assumed, seen_sets}
use Rattle.mode_compat.proofs.controls.assumed_by_all.Goals as goal

pub returns : goal.returns
returns c =
    let p = view.program c.args.p.now in
    let n = length c.args.p.now.vars in
    c.from_marks.ensures ∙ c.in_ok-marks.ensures
    ∙ (λ i. map (λ x. list_all (λ s. has s x) (c.as_slice.ensures i)) (range_with_len 0 (c.len.ensures i)))
    ∙ all_assumed p n c.in_ok-sets.sets (c.in_ok-sets.ensures ∙ seen_sets n c.args.p.now.threads)
