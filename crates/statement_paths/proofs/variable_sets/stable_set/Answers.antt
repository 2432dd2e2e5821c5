use Rattle.std.proofs.Common.{◌<◌, [], ◌∷◌, ◌++◌, ◌∙◌, ap, sym, length, map, arith}
use Rattle.std.specs.List.{range_with_len}
use Rattle.std.proofs.lemmas.List.{length-map}
use Rattle.std.proofs.lemmas.List.FromFn.{map-range_with_len_more}
use Rattle.cov_ast.specs.Plain.{plain}
use Rattle.cov_ast.specs.View as view
use Rattle.mode_state.specs.Sets.{is_stable}
use Rattle.statement_paths.proofs.variable_sets.stable_set.Goals as goal

pub loop-x-preserved : goal.loop-x-preserved
loop-x-preserved c t held is =
    let vars = c.args.p.now.vars in
    let p = plain (view.program c.args.p.now) in
    let x = c.loop-x.x in
    let f = is_stable p t held in
    let inside : x < length (map view.var vars) = omega (arith, length-map vars view.var, c.loop-x-test.true, c.len-x-end.ensures) in
    c.in_ok-push.ensures.ok
    ∙ ap (λ marks. marks ++ c.stable.result ∷ []) (c.loop-x.invariant t held is)
    ∙ ap (λ b. map f (range_with_len 0 x) ++ b ∷ []) (c.stable.ensures p t held is inside)
    ∙ sym (map-range_with_len_more f 0 x x (omega arith))
