use Rattle.std.proofs.Common.{◌≡◌, ◌+◌, ◌∷◌, All, map, drop, length, sym, ap, ◌∙◌, subst}
use Rattle.std.proofs.lemmas.List.{at_drop_more}
use Rattle.std.proofs.lemmas.List.Elements.{All-head, All-tail}
use Rattle.statement_paths.specs.Paths.{step}
use Rattle.typing_points.specs.Traces.{KeepsAny, plain_of}
use Rattle.typing_points.specs.PointsBehind.{IsStepInRange, behind_step, behind_steps, point_behind}
use Rattle.typing_points.proofs.Reached.{reached}
use Rattle.typing_points.proofs.passing.Trace.point_behind.Goals as goal

pub pass_step-requires-clause-range : goal.pass_step-requires-clause-range
pass_step-requires-clause-range c =
    let p = c.args.self.now.program.now in
    let steps = c.args.steps.now in
    let i = c.loop-next.next-index in
    let s = c.next-item.result in
    let next : map step (drop i steps) ≡ step s ∷ map step (drop (i + 1) steps) =
    at_drop_more (map step) steps i s c.loop-next-test.true ∙ ap (λ y. map step (y ∷ drop (i + 1) steps)) (sym c.next-item.is) in
    All-head (IsStepInRange (length p.vars) (length p.locks)) (step s) (map step (drop (i + 1) steps)) (subst (All (IsStepInRange (length p.vars) (length p.locks))) next c.loop-next.invariant.0)

pub loop-next-preserved : goal.loop-next-preserved
loop-next-preserved c =
    let w = c.args.self.now in
    let p = plain_of w in
    let steps = c.args.steps.now in
    let i = c.loop-next.next-index in
    let s = c.next-item.result in
    let rest = map step (drop (i + 1) steps) in
    let ranged = IsStepInRange (length w.program.now.vars) (length w.program.now.locks) in
    let next : map step (drop i steps) ≡ step s ∷ rest =
    at_drop_more (map step) steps i s c.loop-next-test.true ∙ ap (λ y. map step (y ∷ drop (i + 1) steps)) (sym c.next-item.is) in
    let r = c.loop-next.invariant.1 in
    let is = subst (λ ss. behind_steps p w.thread ss r.0 ≡ point_behind p w.thread (map step steps)) next r.1.1 in
    let kept = subst (λ o. KeepsAny p w.thread (behind_step p w.thread (step s) r.0) o) c.in-Some.is (c.in_ok-point.ensures r.0 r.1.0) in (
      All-tail ranged (step s) rest (subst (All ranged) next c.loop-next.invariant.0),
      reached p w.thread (behind_step p w.thread (step s) r.0) (λ b. behind_steps p w.thread rest b) (point_behind p w.thread (map step steps)) c.in-Some.point kept is,
    )
