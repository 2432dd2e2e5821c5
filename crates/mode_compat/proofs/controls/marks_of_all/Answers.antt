use Rattle.std.proofs.Common.{◌≡◌, ◌∙◌, sym, map, ◌++◌, ◌∷◌, [], zero-add}
use Rattle.std.specs.List.{list_all, range_with_len}
use Rattle.std.proofs.lemmas.List.FromFn.{map-range_with_len_more}
use Rattle.cov_ast.specs.Tables.{has}
use Rattle.mode_compat.proofs.controls.marks_of_all.Goals as goal

pub loop-x-preserved : goal.loop-x-preserved
loop-x-preserved c =
    let kept : c.loop-x.marks ≡ map (λ x. list_all (λ s. has s x) c.args.sets.now) (range_with_len 0 c.loop-x.x) = c.loop-x.invariant in
    c.in_ok-push.ensures.ok ∙ (λ i. kept i ++ c.is_in_all.ensures i ∷ [])
    ∙ sym (map-range_with_len_more (λ x. list_all (λ s. has s x) c.args.sets.now) 0 c.loop-x.x c.loop-x.x (zero-add c.loop-x.x))
