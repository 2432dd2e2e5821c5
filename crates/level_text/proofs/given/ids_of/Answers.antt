use Rattle.std.proofs.Common.{◌∙◌, get_or, refl}
use Rattle.level_text.specs.Inside.GivenBy.{level_by}
use Rattle.level_text.specs.TextViews as views
use Rattle.level_text.proofs.FindLaws.{push_step, no_name}
use Rattle.level_text.proofs.given.ids_of.Goals as goal

pub loop-named-preserved : goal.loop-named-preserved
loop-named-preserved c =
    push_step (λ n. level_by c.args.declared.now n.0) views.named c.args.lower.now c.loop-named.named-index (get_or c.args.lower.now c.loop-named.named-index no_name) no_name c.loop-named.made c.push.new.self c.level_id.result
    c.loop-named-test.true refl c.level_id.ensures c.in_ok-push.ensures.ok
    ∙ c.loop-named.invariant
