use Rattle.std.proofs.Common.{◌∙◌, ap, ap₂, arith, sym, true, false}
use Rattle.regalloc.specs.Plan.{meet}
use Rattle.regalloc.specs.declared.plan.Plan.TheInside.{Inside}
use Rattle.regalloc.proofs.PlanLaws.{meet_more, meet_all}
use Rattle.regalloc.proofs.plan.Plan.meet.Goals as goal
use Rattle.regalloc.proofs.plan.Plan.meet.Goals.{then-ne, else-ne}

pub loop-r-preserved : goal.loop-r-preserved
loop-r-preserved c = elim c.if-ne.branch [
  | then-ne w ↦
      meet_more c.self.inside.kept c.other.inside.kept c.loop-r.self-inside.kept _ c.loop-r.r true (omega (arith, c.self.invariant, c.loop-r-test.true))
      (c.self.invariant ∙ sym c.other.invariant) c.loop-r.invariant (sym c.ne.ensures ∙ w.if-ne.true) (ap (λ (s : Inside). s.kept) w.self-inside-is)
  | else-ne w ↦
      meet_more c.self.inside.kept c.other.inside.kept c.loop-r.self-inside.kept _ c.loop-r.r false (omega (arith, c.self.invariant, c.loop-r-test.true))
      (c.self.invariant ∙ sym c.other.invariant) c.loop-r.invariant (sym c.ne.ensures ∙ w.if-ne.false) (ap (λ (s : Inside). s.kept) w.self-inside-is)
]

pub returns : goal.returns
returns c =
    meet_all c.self.inside.kept c.other.inside.kept c.loop-r.self-inside.kept c.loop-r.r (omega (arith, c.self.invariant, c.loop-r-test.false))
    (c.self.invariant ∙ sym c.other.invariant) c.loop-r.invariant ∙ ap₂ meet c.self.view_is c.other.view_is
