use Rattle.std.proofs.Common.{◌<◌, ◌+◌, ◌++◌, ◌∙◌, length, map, take, drop, get_or, sym, ap, arith}
use Rattle.std.proofs.lemmas.List.{length-map, map-set, get_or-map}
use Rattle.cov_ast.specs.View as view
use Rattle.level_text.specs.Views as level_view
use Rattle.levels.specs.Projection.{shown_var, shown_vars}
use Rattle.levels.proofs.ShowLaws.{classes_more}
use Rattle.levels.proofs.classes.show_classes.Goals as goal

pub loop-x-preserved : goal.loop-x-preserved
loop-x-preserved c =
    let seen = c.args.seen.now in
    let l = level_view.levels c.args.l.now in
    let vars = c.loop-x.vars in
    let x = c.loop-x.x in
    let r = c.index-vars-x.result in
    let it = get_or vars x r in
    let here : x < length vars = omega (arith, c.loop-x.auto.vars, c.loop-x-test.true) in
    let inside : x < length (map view.var vars) = omega (arith, length-map vars view.var, here) in
    let shown = ap (λ k. record { name = it.name; at = it.at; class = k }) c.in_ok-show_class.ensures ∙ ap (shown_var seen l x) (sym (get_or-map view.var vars x r (view.var r) here)) in
    ap (λ vs. take (x + 1) vs ++ shown_vars seen l (x + 1) (drop (x + 1) vs)) (map-set view.var vars x _)
    ∙ classes_more seen l (map view.var vars) x (view.var r) _ inside shown
    ∙ c.loop-x.invariant
