use Rattle.std.proofs.Common.{◌∙◌, ◌<◌, [], length, sym}
use Rattle.std.proofs.lemmas.Option.{get_or_from_slice_get}
use Rattle.cov_ast.proofs.WellFormedLaws.{seen_item}
use Rattle.cov_text.specs.GivenTrees.{name_of}
use Rattle.level_text.specs.TextViews as views
use Rattle.level_text.proofs.FindLaws.{push_step}
use Rattle.level_text.proofs.given.names_of.Goals as goal

pub name-requires : goal.name-requires
name-requires c =
    seen_item views.level (λ v. v.name.0 < length c.args.names.now) c.args.levels.now c.loop-level.level-index c.level-item.result c.requires c.loop-level-test.true c.level-item.is

pub loop-level-preserved : goal.loop-level-preserved
loop-level-preserved c =
    push_step (λ v. name_of c.args.names.now v.name.0) views.level c.args.levels.now c.loop-level.level-index c.level-item.result _ c.loop-level.made c.push.new.self c.name.result
    c.loop-level-test.true c.level-item.is (sym (get_or_from_slice_get c.args.names.now c.level-item.result.name.name c.name.result [] c.name.ensures)) c.in_ok-push.ensures.ok
    ∙ c.loop-level.invariant
