use Rattle.std.proofs.Common.{slice_get, drop, ◌+◌, sym, ◌∙◌, ap, ap₂, not, true, false}
use Rattle.regalloc.specs.Plan.{part, free_among, below_seven}
use Rattle.regalloc.proofs.PartLaws.{is_for_part}
use Rattle.regalloc.proofs.PlanLaws.{frees_is, free_more, rank_more}
use Rattle.regalloc.proofs.plan.Plan.part.Goals as goal
use Rattle.regalloc.proofs.plan.Plan.part.Goals.{then-is_none+else-left-eq0, else-is_none}

pub loop-r-init : goal.loop-r-init
loop-r-init c = ap (λ rs. slice_get rs c.args.depth) (sym (frees_is c.self.inside.kept))

pub returns-then-left-eq0-clause-part : goal.returns-then-left-eq0-clause-part
returns-then-left-eq0-clause-part c =
    let e = free_more c.self.inside.kept c.loop-r.r false c.loop-r-test.true (c.is_none.ensures ∙ ap not c.if-is_none.true) in
    sym (ap (λ plan. part plan c.args.depth) (sym c.self.view_is) ∙ c.loop-r.invariant ∙ ap₂ slice_get e c.if-left-eq0.true)

pub returns-then-left-eq0-clause-own : goal.returns-then-left-eq0-clause-own
returns-then-left-eq0-clause-own c = is_for_part c.args.self.now c.args.depth c.loop-r.r (sym (returns-then-left-eq0-clause-part c))

pub loop-r-preserved : goal.loop-r-preserved
loop-r-preserved c = elim c.if-is_none.branch [
  | then-is_none+else-left-eq0 w ↦
      let e = free_more c.self.inside.kept c.loop-r.r false c.loop-r-test.true (c.is_none.ensures ∙ ap not w.if-is_none.true) in
      c.loop-r.invariant ∙ rank_more _ (free_among c.self.inside.kept (drop (c.loop-r.r + 1) below_seven)) c.loop-r.r c.loop-r.left c.if-is_none.left e w.if-left-eq0.false w.left-is
  | else-is_none w ↦
      let e = free_more c.self.inside.kept c.loop-r.r true c.loop-r-test.true (c.is_none.ensures ∙ ap not w.if-is_none.false) in
      c.loop-r.invariant ∙ ap₂ slice_get e (sym w.left-is)
]
