use Rattle.std.proofs.Common.{◌≡◌, ◌<◌, Some, ap, sym, ◌∙◌, length, option_map, arith}
use Rattle.std.proofs.lemmas.List.{length-map}
use Rattle.cov_ast.specs.View as view
use Rattle.mode_compat.specs.Compatible.{no_thread, numbered}
use Rattle.statement_paths.specs.Paths.{way, way_to}
use Rattle.typing_points.proofs.Ranges.{found_in_range}
use Rattle.typing_trace.proofs.points.add_statement.Goals as goal

pub add_way-requires-clause-range : goal.add_way-requires-clause-range
add_way-requires-clause-range c =
    let p = c.args.trace.now.program.now in
    let q = view.program p in
    let t = c.args.trace.now.thread in
    let w = way c.in-Some.way in
    let inside : t < length q.threads = omega (arith, length-map p.threads view.thread, c.requires.thread) in
    let found : way_to (numbered q t).body c.args.at ≡ Some w
    = ap (λ b. way_to b c.args.at) (sym (c.body_of.ensures no_thread)) ∙ sym c.in_ok-way.ensures ∙ ap (option_map way) c.in-Some.is in
    (found_in_range (length q.vars) (length q.locks) (length p.vars) (length p.locks) (numbered q t).body c.args.at w (c.requires.formed.ids.of_threads t no_thread inside).body found
    (length-map p.vars view.var) (length-map p.locks view.lock)).0

pub add_way-requires-clause-statement : goal.add_way-requires-clause-statement
add_way-requires-clause-statement c =
    let p = c.args.trace.now.program.now in
    let q = view.program p in
    let t = c.args.trace.now.thread in
    let w = way c.in-Some.way in
    let inside : t < length q.threads = omega (arith, length-map p.threads view.thread, c.requires.thread) in
    let found : way_to (numbered q t).body c.args.at ≡ Some w
    = ap (λ b. way_to b c.args.at) (sym (c.body_of.ensures no_thread)) ∙ sym c.in_ok-way.ensures ∙ ap (option_map way) c.in-Some.is in
    (found_in_range (length q.vars) (length q.locks) (length p.vars) (length p.locks) (numbered q t).body c.args.at w (c.requires.formed.ids.of_threads t no_thread inside).body found
    (length-map p.vars view.var) (length-map p.locks view.lock)).1
