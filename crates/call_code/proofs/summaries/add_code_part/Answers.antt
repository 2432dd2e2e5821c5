use Rattle.std.proofs.Common.{◌≡◌, ◌++◌, ℕ, List, map, ap, ◌∙◌, append_assoc}
use Rattle.std.specs.Prelude.{codes}
use Rattle.std.proofs.lemmas.Result.{on_ok_weaker}
use Rattle.cov_ast.specs.View as view
use Rattle.replay_reports.specs.RunReports.{lines_from, pair_line}
use Rattle.call_code.specs.Summaries.{agreement}
use Rattle.call_code.proofs.summaries.add_code_part.Goals as goal

pub returns : goal.returns
returns c =
    let text = c.args.text.now in
    let first = agreement (codes "code agrees: ") c.args.steps in
    let l = c.args.left.now.state.memory in
    let told : (l r : List ℕ) → List ℕ = λ l r. lines_from (pair_line l r) 0 (map view.var c.args.p.now.vars) in
    let put = lines_from (pair_line c.memory.result.now c.memory-2.result.now) 0 (map view.var c.as_slice.result.now) in
    let same : put ≡ told l c.args.right.now.state.memory =
    ap (λ vs. lines_from (pair_line c.memory.result.now c.memory-2.result.now) 0 (map view.var vs)) c.as_slice.ensures
    ∙ ap (λ m. told m c.memory-2.result.now) c.memory.ensures.memory ∙ ap (told l) c.memory-2.ensures.memory in
    on_ok_weaker c.add_pairs.result
    (λ h. h ∙ ap (λ t. t ++ put) c.in_ok-add_agreement.ensures ∙ append_assoc text first put ∙ ap (λ ls. text ++ (first ++ ls)) same)
    c.add_pairs.ensures
