use Rattle.std.proofs.Common.{◌∙◌, ap, arith, sym}
use Rattle.std.proofs.lemmas.List.{at_drop_all}
use Rattle.regalloc.specs.Plan.{held_from, held}
use Rattle.regalloc.proofs.plan.Plan.held.Goals as goal

pub returns : goal.returns
returns c =
    sym (at_drop_all (λ os. held_from c.loop-r.r os c.args.x) c.self.inside.kept c.loop-r.r (omega (arith, c.self.invariant, c.loop-r-test.false)))
    ∙ c.loop-r.invariant ∙ ap (λ plan. held plan c.args.x) c.self.view_is
