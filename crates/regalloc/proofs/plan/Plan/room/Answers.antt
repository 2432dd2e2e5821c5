use Rattle.std.proofs.Common.{◌≡◌, le_refl, rules}
use Rattle.regalloc.specs.Plan.{room}
use Rattle.regalloc.proofs.PartLaws.{room_has_parts}
use Rattle.regalloc.proofs.PlanLaws.{room_is}
use Rattle.regalloc.proofs.plan.Plan.room.Goals as goal

pub loop-r-init : goal.loop-r-init
loop-r-init c = (room_is c.args.self.now c.args.n, le_refl 7)

pub returns-after-loop-r-clause-parts : goal.returns-after-loop-r-clause-parts
returns-after-loop-r-clause-parts c =
    let done : c.loop-r.self ≡ room c.args.self.now c.args.n = search rules in
    room_has_parts c.args.self.now c.loop-r.self c.args.n done
