use Rattle.std.proofs.Common.{◌∙◌, ap, arith, sym, true, false}
use Rattle.regalloc.specs.declared.plan.Plan.TheInside.{Inside}
use Rattle.regalloc.proofs.PlanLaws.{stored_more}
use Rattle.regalloc.proofs.plan.Plan.stored.Goals as goal
use Rattle.regalloc.proofs.plan.Plan.stored.Goals.{then-eq, else-eq}

pub loop-r-preserved : goal.loop-r-preserved
loop-r-preserved c = elim c.if-eq.branch [
  | then-eq w ↦
      stored_more c.self.inside.kept c.loop-r.self-inside.kept _ c.args.x c.loop-r.r true (omega (arith, c.self.invariant, c.loop-r-test.true)) c.loop-r.invariant
      (sym c.eq.ensures ∙ w.if-eq.true) (ap (λ (s : Inside). s.kept) w.self-inside-is)
  | else-eq w ↦
      stored_more c.self.inside.kept c.loop-r.self-inside.kept _ c.args.x c.loop-r.r false (omega (arith, c.self.invariant, c.loop-r-test.true)) c.loop-r.invariant
      (sym c.eq.ensures ∙ w.if-eq.false) (ap (λ (s : Inside). s.kept) w.self-inside-is)
]
