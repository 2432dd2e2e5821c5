use Rattle.std.proofs.Common.{◌∙◌, ◌<◌, length, rules, sym, map}
use Rattle.std.proofs.lemmas.List.{at_drop_all}
use Rattle.cov_ast.proofs.WellFormedLaws.{seen_item}
use Rattle.cov_ast.specs.View as program_view
use Rattle.level_text.specs.TextFaults as spec
use Rattle.level_text.specs.TextViews as views
use Rattle.level_text.proofs.PlaceLaws.{found_step, sooner_none}
use Rattle.level_text.proofs.markers.first_barred.Goals as goal

pub loop-level-preserved : goal.loop-level-preserved
loop-level-preserved c =
    found_step (λ v. spec.barred c.args.names.now (program_view.parsed c.args.p.now) (map views.named c.args.variables.now) v.name) views.level c.args.levels.now
    c.loop-level.level-index c.level-item.result _ c.loop-level.found c.sooner-found.result c.loop-level-test.true c.level-item.is (search rules)
    ∙ c.loop-level.invariant

pub returns : goal.returns
returns c =
    sym (sooner_none c.loop-level.found)
    ∙ sym (at_drop_all (λ ys. spec.sooner c.loop-level.found (spec.first_barred c.args.names.now (program_view.parsed c.args.p.now) (map views.named c.args.variables.now) (map views.level ys)))
    c.args.levels.now c.loop-level.level-index c.loop-level-test.false)
    ∙ c.loop-level.invariant

pub barred-requires : goal.barred-requires
barred-requires c =
    seen_item views.level (λ v. v.name.0 < length c.args.names.now) c.args.levels.now c.loop-level.level-index c.level-item.result c.requires c.loop-level-test.true c.level-item.is
