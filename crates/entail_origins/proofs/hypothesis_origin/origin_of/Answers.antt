use Rattle.std.proofs.Common.{◌≡◌, ◌+◌, ◌-◌, ◌<◌, ◌∷◌, Some, length, map, drop, take, ap, sym, ◌∙◌, arith}
use Rattle.std.specs.Option.{option_or}
use Rattle.std.proofs.lemmas.List.{at_drop_more, map-append, take-append-drop}
use Rattle.cov_expr.specs.View.{term}
use Rattle.cov_ast.specs.Plain.{plain}
use Rattle.cov_ast.specs.View as view
use Rattle.statement_paths.specs.Paths as paths
use Rattle.entail_origins.specs.Origins as spec
use Rattle.entail_origins.proofs.LastOrigin.{last_counts}
use Rattle.entail_origins.proofs.hypothesis_origin.origin_of.Goals as goal

pub returns-in-Some : goal.returns-in-Some
returns-in-Some c =
    let p = plain (view.program c.args.p.now) in
    let h = term c.args.hypothesis.now in
    let steps = c.args.steps.now in
    let x = c.index-steps-i.result in
    let i = c.loop-i.i - 1 in
    let next : i + 1 ≡ c.loop-i.i = omega (arith, c.loop-i-test.true) in
    let inside : i < length steps = omega (arith, c.loop-i-test.true, c.loop-i.auto.i) in
    let there : spec.origin p (map paths.step (drop i steps)) h ≡ Some c.in-Some.found
    = at_drop_more (λ ss. spec.origin p (map paths.step ss) h) steps i x inside
    ∙ ap (λ y. spec.origin p (map paths.step (y ∷ drop (i + 1) steps)) h) (sym c.index-steps-i.is)
    ∙ ap (λ o. option_or o (spec.origin_at p (paths.step x) h)) (ap (λ n. spec.origin p (map paths.step (drop n steps)) h) next ∙ c.loop-i.invariant)
    ∙ sym c.in_ok-found.ensures ∙ c.in-Some.is in
    sym (
    ap (λ ss. spec.origin p (map paths.step ss) h) (sym (take-append-drop i steps))
    ∙ ap (λ ss. spec.origin p ss h) (map-append paths.step (take i steps) (drop i steps))
    ∙ last_counts p h (map paths.step (take i steps)) (map paths.step (drop i steps)) c.in-Some.found there
    )
