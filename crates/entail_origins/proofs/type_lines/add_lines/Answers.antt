use Rattle.std.proofs.Common.{◌+◌, ◌++◌, ◌∷◌, ◌∙◌, ap, drop, map, get_or, sym, arith}
use Rattle.std.proofs.lemmas.List.{at_drop_more}
use Rattle.std.proofs.lemmas.Result.{on_ok_weaker}
use Rattle.statement_paths.specs.Paths as paths
use Rattle.typing_points.specs.Traces.{plain_of}
use Rattle.entail_origins.specs.FollowedTypes.{at_point}
use Rattle.entail_origins.specs.TypeLines as spec
use Rattle.entail_origins.proofs.type_lines.add_lines.Goals as goal

pub returns-then-left-eq0 : goal.returns-then-left-eq0
returns-then-left-eq0 c =
    let lines = spec.lines_of (plain_of c.args.trace.now) c.args.trace.now.thread c.args.names.now c.args.bytes.now (map paths.step c.args.steps.now) in
    let i = c.loop-v.v-index in
    let all = c.args.variables.now in
    let x = at_point 0 0 in
    on_ok_weaker c.extend_from_slice.result
    (λ is. is
    ∙ ap (λ t. c.loop-v.text ++ t)
    (sym (at_drop_more (lines c.loop-v.left) all i x (omega (arith, c.loop-v-test.true)) ∙ ap (λ n. lines n (get_or all i x ∷ drop (i + 1) all)) c.if-left-eq0.true))
    ∙ c.loop-v.invariant)
    c.extend_from_slice.ensures.ok
