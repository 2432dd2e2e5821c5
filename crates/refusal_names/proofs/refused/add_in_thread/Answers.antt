use Rattle.std.proofs.Common.{◌≡◌, ◌<◌, ◌∙◌, ap, sym, length, option_map, Some, arith}
use Rattle.std.proofs.lemmas.List.{length-map}
use Rattle.cov_ast.specs.View as view
use Rattle.mode_compat.specs.Compatible.{no_thread, numbered}
use Rattle.statement_paths.specs.Paths.{way, way_to}
use Rattle.entail_origins.proofs.InRange.{statement_in_range}
use Rattle.refusal_names.proofs.refused.add_in_thread.Goals as goal

pub add_of_way-requires-clause-range : goal.add_of_way-requires-clause-range
add_of_way-requires-clause-range c =
    let p = c.args.p.now in
    let q = view.program p in
    let t = c.args.t in
    let place = c.args.refusal.now.place in
    let inside : t < length q.threads = omega (arith, length-map p.threads view.thread, c.requires.thread) in
    let found : way_to (numbered q t).body place ≡ Some (way c.in-Some.found)
    = ap (λ b. way_to b place) (sym (c.body_of.ensures no_thread)) ∙ sym c.in_ok-found.ensures ∙ ap (option_map way) c.in-Some.is in
    statement_in_range (length q.vars) (length q.locks) (length p.vars) (length p.locks) (numbered q t).body place (way c.in-Some.found)
    (c.requires.formed.ids.of_threads t no_thread inside).body found (length-map p.vars view.var) (length-map p.locks view.lock)
