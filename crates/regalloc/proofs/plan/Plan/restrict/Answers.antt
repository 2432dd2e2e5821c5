use Rattle.std.proofs.Common.{◌≡◌, ℕ, ◌<◌, ◌∙◌, ap, arith, get_or, length, length-set, subst, sym, Some, None, true, false}
use Rattle.mode_state.specs.Sets.{is_stable}
use Rattle.regalloc.specs.Plan.{only, restrict}
use Rattle.regalloc.specs.Stable.{KeepsBelow}
use Rattle.regalloc.specs.declared.plan.Plan.TheInside.{Inside}
use Rattle.regalloc.proofs.PlanLaws.{here_still, restrict_past, restrict_more, walked_all}
use Rattle.regalloc.proofs.plan.Plan.restrict.Goals as goal
use Rattle.regalloc.proofs.plan.Plan.restrict.Goals.{in-Some+then-not-stable, in-Some+else-not-stable, in_default}

pub loop-r-preserved : goal.loop-r-preserved
loop-r-preserved c =
    let r = c.loop-r.r in
    let old = c.self.inside.kept in
    let now = c.loop-r.self-inside.kept in
    let next = c.match-self-r.self-inside.kept in
    let kept = λ (s : Inside). s.kept in
    let inside : r < length old = omega (arith, c.self.invariant, c.loop-r-test.true) in
    record {
      long = elim c.match-self-r.branch [
        | in-Some+then-not-stable w ↦ ap length (ap kept w.self-inside-is) ∙ length-set now r _ ∙ c.loop-r.invariant.long
        | in-Some+else-not-stable w ↦ ap length (ap kept w.self-inside-is) ∙ c.loop-r.invariant.long
        | in_default w ↦ ap length (ap kept w.self-inside-is) ∙ c.loop-r.invariant.long
      ];
      walked = λ p t held is below.
          let test = is_stable p t held in
          let walked = c.loop-r.invariant.walked p t held is below in
          let in_range : (x : ℕ) → get_or now r None ≡ Some x → x < length p.vars = λ x e. below r x (sym (here_still (only test) old now r walked) ∙ e) in
          elim c.match-self-r.branch [
            | in-Some+then-not-stable w ↦
                restrict_more test old now next r inside walked w.in-Some.x false w.in-Some.is
                (sym (w.stable.ensures p t held is (in_range w.in-Some.x w.in-Some.is)) ∙ w.if-not-stable.true) (ap kept w.self-inside-is)
            | in-Some+else-not-stable w ↦
                restrict_more test old now next r inside walked w.in-Some.x true w.in-Some.is
                (sym (w.stable.ensures p t held is (in_range w.in-Some.x w.in-Some.is)) ∙ w.if-not-stable.false) (ap kept w.self-inside-is)
            | in_default w ↦ restrict_past test old now next r inside walked w.in_default.is (ap kept w.self-inside-is)
          ];
    }

pub returns : goal.returns
returns c p t held is below =
    walked_all (only (is_stable p t held)) c.self.inside.kept c.loop-r.self-inside.kept c.loop-r.r (omega (arith, c.self.invariant, c.loop-r-test.false))
    (c.loop-r.invariant.walked p t held is (subst (KeepsBelow (length p.vars)) (sym c.self.view_is) below))
    ∙ ap (restrict (is_stable p t held)) c.self.view_is
