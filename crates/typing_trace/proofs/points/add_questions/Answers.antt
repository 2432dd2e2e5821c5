use Rattle.std.proofs.Common.{◌+◌, ◌++◌, ◌∙◌, ℕ, List, ap, sym, append_assoc, drop, length}
use Rattle.std.proofs.lemmas.List.{at_drop_more}
use Rattle.cov_ast.specs.Plain.{plain}
use Rattle.cov_ast.specs.View as view
use Rattle.entail_origins.specs.declared.kinds.Question.{Question}
use Rattle.typing_trace.specs.PointLines.{lines_from}
use Rattle.typing_trace.proofs.points.add_questions.Goals as goal

pub loop-i-preserved : goal.loop-i-preserved
loop-i-preserved c =
    let asked = c.args.asked.now in
    let i = c.loop-i.i in
    let from : ℕ → List Question → List ℕ = λ n. lines_from (plain (view.program c.args.p.now)) n (length asked) in
    ap (λ s. s ++ from (i + 1 + 1) (drop (i + 1) asked)) c.in_ok-add_question_line.ensures
    ∙ append_assoc c.loop-i.text _ (from (i + 1 + 1) (drop (i + 1) asked))
    ∙ ap (λ s. c.loop-i.text ++ s) (sym (at_drop_more (from (i + 1)) asked i _ c.loop-i-test.true)) ∙ c.loop-i.invariant
