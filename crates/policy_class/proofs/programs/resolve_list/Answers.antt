use Rattle.std.proofs.Common.{◌<◌, ◌∙◌, ap, arith, get_or, length, set}
use Rattle.std.proofs.lemmas.List.{get_or_default}
use Rattle.std.proofs.lemmas.List.Edits.{map_over_more}
use Rattle.policy_class.specs.Inside.Ids.{var_in, lock_in}
use Rattle.policy_class.specs.Resolved.{resolved_var}
use Rattle.policy_class.proofs.programs.resolve_list.Goals as goal

pub loop-x-preserved : goal.loop-x-preserved
loop-x-preserved c =
    let here : c.loop-x.x-index < length c.loop-x.xs = omega (arith, c.loop-x.auto.xs, c.loop-x-test.true) in
    ap (set c.loop-x.xs c.loop-x.x-index) c.resolved_var.ensures
    ∙ map_over_more (resolved_var (var_in c.args.ids.now) (lock_in c.args.ids.now)) c.args.xs.now c.loop-x.xs c.loop-x.x-index
    (get_or c.loop-x.xs c.loop-x.x-index 0) (omega (arith, c.loop-x.auto.xs, c.loop-x-test.true)) c.loop-x.invariant
    (get_or_default c.loop-x.xs c.loop-x.x-index 0 _ here)
