use Rattle.std.proofs.Common.{◌∙◌, ap, map}
use Rattle.level_text.specs.Inside.GivenBy.{level_by}
use Rattle.level_text.specs.TextViews as views
use Rattle.level_text.proofs.FindLaws.{push_step}
use Rattle.level_text.proofs.given.below_of.Goals as goal

pub loop-level-preserved : goal.loop-level-preserved
loop-level-preserved c =
    push_step (λ v. map (λ n. level_by c.args.declared.now n.0) v.lower) views.level c.args.levels.now c.loop-level.level-index c.level-item.result _ c.loop-level.made c.push.new.self c.in_ok-lower.lower
    c.loop-level-test.true c.level-item.is (c.in_ok-lower.ensures ∙ ap (λ xs. map (λ n. level_by c.args.declared.now n.0) (map views.named xs)) c.as_slice.ensures) c.in_ok-push.ensures.ok
    ∙ c.loop-level.invariant
