use Rattle.std.proofs.Common.{◌≡◌, ◌+◌, ◌∷◌, Some, map, drop, length, refl, sym, ap, ◌∙◌, subst}
use Rattle.std.specs.Prelude.{option_and_then}
use Rattle.std.proofs.lemmas.List.{at_drop_more}
use Rattle.std.proofs.lemmas.List.Elements.{All-head, All-tail}
use Rattle.point_law.specs.After.{start}
use Rattle.statement_paths.specs.Paths.{place_of, step}
use Rattle.typing_points.specs.PointsBehind.{IsStepInRange, behind_step}
use Rattle.typing_points.specs.Traces.{AreInRange, plain_of}
use Rattle.entail_origins.specs.TypeChanges.{change_after_step, change_after_steps, change_along, changed_by, seen, type_there, unless_set, watched, with_change}
use Rattle.entail_origins.specs.TypeOrigins.{set_by}
use Rattle.entail_origins.proofs.Watched.{watched_enough}
use Rattle.entail_origins.proofs.type_changes.change_along.Goals as goal

pub loop-index-init : goal.loop-index-init
loop-index-init c = (c.requires.range, (Some (start (plain_of c.args.trace.now) c.args.trace.now.thread), (c.in_ok-start.ensures, refl)))

pub pass-requires-clause-range : goal.pass-requires-clause-range
pass-requires-clause-range c =
    let w = c.args.trace.now in
    let p = w.program.now in
    let steps = c.args.steps.now in
    let i = c.loop-index.index in
    let s = c.index-steps-index.result in
    let next : map step (drop i steps) ≡ step s ∷ map step (drop (i + 1) steps) =
    at_drop_more (map step) steps i s c.loop-index-test.true ∙ ap (λ y. map step (y ∷ drop (i + 1) steps)) (sym c.index-steps-index.is) in
    All-head (IsStepInRange (length p.vars) (length p.locks)) (step s) (map step (drop (i + 1) steps)) (subst (AreInRange w) next c.loop-index.invariant.0)

pub loop-index-preserved : goal.loop-index-preserved
loop-index-preserved c =
    let w = c.args.trace.now in
    let p = plain_of w in
    let t = w.thread in
    let z = c.args.z in
    let cs = c.args.controls.now in
    let ls = c.args.locks.now in
    let steps = c.args.steps.now in
    let i = c.loop-index.index in
    let l = c.loop-index.later in
    let s = c.index-steps-index.result in
    let rest = map step (drop (i + 1) steps) in
    let ranged = IsStepInRange (length w.program.now.vars) (length w.program.now.locks) in
    let next : map step (drop i steps) ≡ step s ∷ rest =
    at_drop_more (map step) steps i s c.loop-index-test.true ∙ ap (λ y. map step (y ∷ drop (i + 1) steps)) (sym c.index-steps-index.is) in
    let r = c.loop-index.invariant.1 in
    let a = r.0 in
    let b = option_and_then (behind_step p t (step s)) a in
    let kept = c.in_ok-here.ensures a r.1.0 in
    let known : c.seen-known.result ≡ seen (watched (changed_by cs (step s)) z a) (type_there z b) =
    c.seen-known.ensures p t b kept
    ∙ ap (λ f. seen f (type_there z b)) (c.in_ok-front.ensures p t a r.1.0 ∙ ap (λ y. watched y z a) c.changed_by.ensures) in
    let later : c.change_after_step-later.result ≡ change_after_step p t cs ls z (i + 1) (step s) a b l =
    c.change_after_step-later.ensures
    ∙ ap (λ k. unless_set (set_by cs ls z (step s)) (with_change (i + 1) (place_of (step s)) (changed_by cs (step s)) k l)) known
    ∙ ap (unless_set (set_by cs ls z (step s))) (watched_enough (i + 1) (place_of (step s)) (changed_by cs (step s)) z a (type_there z b) l) in
    let is = subst (λ ss. change_after_steps p t cs ls z i a ss l ≡ change_along p t cs ls z (map step steps)) next r.1.1 in (
      All-tail ranged (step s) rest (subst (AreInRange w) next c.loop-index.invariant.0),
      (b, (kept, ap (change_after_steps p t cs ls z (i + 1) b rest) later ∙ is)),
    )
