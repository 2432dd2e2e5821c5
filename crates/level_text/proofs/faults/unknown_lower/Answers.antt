use Rattle.std.proofs.Common.{◌∙◌, rules, sym, map}
use Rattle.std.proofs.lemmas.List.{at_drop_all}
use Rattle.level_text.specs.TextFaults as spec
use Rattle.level_text.specs.TextViews as views
use Rattle.level_text.proofs.PlaceLaws.{lower_step, sooner_none}
use Rattle.level_text.proofs.faults.unknown_lower.Goals as goal

pub loop-level-preserved : goal.loop-level-preserved
loop-level-preserved c =
    lower_step views.level c.args.levels.now c.loop-level.level-index c.level-item.result _ c.loop-level.before c.push.new.self c.loop-level.found c.sooner-found.result c.loop-level-test.true c.level-item.is (search rules) c.in_ok-push.ensures.ok
    ∙ c.loop-level.invariant

pub returns : goal.returns
returns c =
    sym (sooner_none c.loop-level.found)
    ∙ sym (at_drop_all (λ ys. spec.sooner c.loop-level.found (spec.unknown_lower c.loop-level.before (map views.level ys))) c.args.levels.now c.loop-level.level-index c.loop-level-test.false)
    ∙ c.loop-level.invariant
