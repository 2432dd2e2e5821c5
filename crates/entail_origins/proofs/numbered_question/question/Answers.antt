use Rattle.std.proofs.Common.{◌≡◌, ◌<◌, ◌∙◌, ap, refl, sym, length, map, option_map, Some, arith}
use Rattle.std.proofs.lemmas.List.{length-map}
use Rattle.cov_ast.specs.Plain.{plain}
use Rattle.cov_ast.specs.Tables.{has}
use Rattle.cov_ast.specs.View as view
use Rattle.cov_ast.specs.WellFormed.{IsStmInRange}
use Rattle.mode_compat.specs.Compatible.{no_thread, numbered}
use Rattle.mode_state.specs.Sets.{is_hidden}
use Rattle.statement_paths.specs.Paths.{step, way, way_to}
use Rattle.cov_ast.specs.LocksAlong.{no_locks}
use Rattle.statement_paths.specs.LocksHeld.{held_along}
use Rattle.statement_paths.specs.VariableSets.{hidden}
use Rattle.entail_origins.specs.Questions.{asked_among, asked_of_way, of_statement}
use Rattle.entail_origins.proofs.InRange.{statement_in_range}
use Rattle.entail_origins.proofs.SameQuestions.{of_table}
use Rattle.entail_origins.proofs.numbered_question.question.Goals as goal

pub questions-requires-clause-range : goal.questions-requires-clause-range
questions-requires-clause-range c =
    let p = c.args.p.now in
    let q = view.program p in
    let t = c.args.t in
    let inside : t < length q.threads = omega (arith, length-map p.threads view.thread, c.requires.thread) in
    let found : way_to (numbered q t).body c.args.place ≡ Some (way c.in-Some.way)
    = ap (λ b. way_to b c.args.place) (sym (c.body_of.ensures no_thread)) ∙ sym c.in_ok-way.ensures ∙ ap (option_map way) c.in-Some.is in
    statement_in_range (length q.vars) (length q.locks) (length p.vars) (length p.locks) (numbered q t).body c.args.place (way c.in-Some.way)
    (c.requires.formed.ids.of_threads t no_thread inside).body found (length-map p.vars view.var) (length-map p.locks view.lock)

pub returns : goal.returns
returns c =
    let p = c.args.p.now in
    let q = view.program p in
    let t = c.args.t in
    let w = c.in-Some.way in
    let s = view.kind w.stmt.now.kind in
    let inside : t < length q.threads = omega (arith, length-map p.threads view.thread, c.requires.thread) in
    let found : way_to (numbered q t).body c.args.place ≡ Some (way w)
    = ap (λ b. way_to b c.args.place) (sym (c.body_of.ensures no_thread)) ∙ sym c.in_ok-way.ensures ∙ ap (option_map way) c.in-Some.is in
    let range : IsStmInRange (length q.vars) (length q.locks) s
    = statement_in_range (length q.vars) (length q.locks) (length q.vars) (length q.locks) (numbered q t).body c.args.place (way w)
    (c.requires.formed.ids.of_threads t no_thread inside).body found refl refl in
    c.asked_among.ensures
    ∙ ap (λ qs. asked_among qs c.args.number)
    (c.as_slice-2.ensures ∙ c.in_ok-all.ensures
    ∙ ap (λ h. of_statement (plain q) (has h) s)
    (c.in_ok-hidden.ensures ∙ ap (λ ss. hidden (plain q) t (held_along (map step ss) (no_locks (plain q)))) c.as_slice.ensures)
    ∙ of_table (plain q) (is_hidden (plain q) t (held_along (map step w.steps) (no_locks (plain q)))) (length q.locks) s range)
    ∙ ap (λ o. asked_of_way (plain q) t o c.args.number) (sym found)
