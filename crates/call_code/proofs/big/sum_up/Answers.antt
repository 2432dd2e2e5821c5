use Rattle.std.proofs.Common.{◌≡◌, length, map, sym, ap, ◌∙◌, subst, arith}
use Rattle.cov_ast.specs.View as view
use Rattle.cov_expr.specs.Words.{IsMemory}
use Rattle.call_code.proofs.BigLaws.{SumsUpProgram, start_is_memory}
use Rattle.call_code.specs.BigReplies.{start_with}
use Rattle.call_reports.specs.AnswerViews.{Gets}
use Rattle.call_code.proofs.big.sum_up.Goals as goal

pub sum_up_from-requires-clause-left : goal.sum_up_from-requires-clause-left
sum_up_from-requires-clause-left c =
    let vars = c.args.coded.now.program.vars in
    let m = c.in_ok-memories.memories in
    let is : m.left ≡ start_with 1 (map view.var vars) = c.in_ok-memories.ensures.left ∙ ap (λ vs. start_with 1 (map view.var vs)) c.as_slice.ensures in
    record {
      fits = subst (IsMemory (length vars)) (sym is) (start_is_memory 1 (omega arith) vars);
      threads = c.requires.threads;
      few = c.requires.entries;
    }

pub sum_up_from-requires-clause-right : goal.sum_up_from-requires-clause-right
sum_up_from-requires-clause-right c =
    let vars = c.args.coded.now.program.vars in
    let m = c.in_ok-memories.memories in
    let is : m.right ≡ start_with 2 (map view.var vars) = c.in_ok-memories.ensures.right ∙ ap (λ vs. start_with 2 (map view.var vs)) c.as_slice.ensures in
    record {
      fits = subst (IsMemory (length vars)) (sym is) (start_is_memory 2 (omega arith) vars);
      threads = c.requires.threads;
      few = c.requires.entries;
    }

pub returns : goal.returns
returns c =
    let a = c.args in
    let made = a.coded.now in
    let p = view.program made.program in
    let vars = made.program.vars in
    let m = c.in_ok-memories.memories in
    let left : m.left ≡ start_with 1 (map view.var vars) = c.in_ok-memories.ensures.left ∙ ap (λ vs. start_with 1 (map view.var vs)) c.as_slice.ensures in
    let right : m.right ≡ start_with 2 (map view.var vars) = c.in_ok-memories.ensures.right ∙ ap (λ vs. start_with 2 (map view.var vs)) c.as_slice.ensures in
    subst (λ r. Gets (SumsUpProgram a.rounds a.schedule.now p made.code (start_with 1 (map view.var vars)) r) c.sum_up_from.result) right
    (subst (λ l. Gets (SumsUpProgram a.rounds a.schedule.now p made.code l m.right) c.sum_up_from.result) left c.sum_up_from.ensures)
