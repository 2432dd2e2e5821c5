use Rattle.std.proofs.Common.{◌≡◌, ◌∙◌, ◌-◌, ◌++◌, sym, ap, map, arith, rules}
use Rattle.cov_grammar.specs.PlacedTrees.{stms}
use Rattle.cov_read.specs.declared.stmt.PlacedStmt.{the_lemmas}
use Rattle.cov_text.specs.Limits.{places, places_in}
use Rattle.cov_parse.specs.Inside.Measures.{counted, onward}
use Rattle.cov_read.specs.StmtViews as views
use Rattle.cov_parse.proofs.LimitLaws.{counted_append, stmts_go, stmts_past}
use Rattle.cov_parse.proofs.counts.+count.Goals as goal

pub count_stmts-returns-in-Past : goal.count_stmts-returns-in-Past
count_stmts-returns-in-Past t c =
    let inner : places_in (views.stmt c.stmt-item.result).1 ≡ places_in (views.kind c.stmt-item.result.kind) = search (rules, the_lemmas) in
    stmts_past views.stmt c.args.body.now c.loop-stmt.stmt-index c.stmt-item.result _ c.loop-stmt-test.true c.stmt-item.is c.loop-stmt.left (c.loop-stmt.left - 1) c.in-Past.at (omega arith)
    (sym c.in-Past.is ∙ c.count_inside.ensures ∙ ap (counted (c.loop-stmt.left - 1)) (sym inner))
    ∙ c.loop-stmt.invariant

pub count_stmts-loop-stmt-preserved : goal.count_stmts-loop-stmt-preserved
count_stmts-loop-stmt-preserved t c =
    let inner : places_in (views.stmt c.stmt-item.result).1 ≡ places_in (views.kind c.stmt-item.result.kind) = search (rules, the_lemmas) in
    stmts_go views.stmt c.args.body.now c.loop-stmt.stmt-index c.stmt-item.result _ c.loop-stmt-test.true c.stmt-item.is c.loop-stmt.left (c.loop-stmt.left - 1) c.in-Left.n (omega arith)
    (sym c.in-Left.is ∙ c.count_inside.ensures ∙ ap (counted (c.loop-stmt.left - 1)) (sym inner))
    ∙ c.loop-stmt.invariant

pub count_inside-returns-in-If : goal.count_inside-returns-in-If
count_inside-returns-in-If t c =
    let first = places (stms (map views.stmt c.in-If.first)) in
    let second = places (stms (map views.stmt c.in-If.second)) in
    let both : places_in (views.kind c.args.kind.now) ≡ first ++ second = search (rules, the_lemmas) in
    let one : c.count_stmts.result ≡ counted c.args.room first = search rules in
    let two : c.count_more.result ≡ onward c.count_stmts.result second = search rules in
    rw both (two ∙ ap (λ k. onward k second) one ∙ sym (counted_append c.args.room first second))
