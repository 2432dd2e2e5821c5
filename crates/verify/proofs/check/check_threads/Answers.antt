use Rattle.std.proofs.Common.{ℕ, ◌<◌, ◌≤◌, ◌∙◌, List, length, refl, sym, ap, arith}
use Rattle.std.specs.List.{flat_map}
use Rattle.std.proofs.lemmas.List.{drop_all}
use Rattle.cov_ast.specs.View as view
use Rattle.cov_ast.specs.Obligations.{Obligation, first_false}
use Rattle.cov_ast.proofs.ObligationLaws.{loop_refused, loop_more}
use Rattle.mode_compat.specs.Compatible.{threads_of}
use Rattle.typing_law.specs.Counts as thread
use Rattle.typing_law.specs.ThreadObligations.{thread_obligations}
use Rattle.verify.proofs.Sums.{thread_count, thread_is, sum_step, sum_end}
use Rattle.verify.proofs.check.check_threads.Goals as goal

pub returns-in-Err : goal.returns-in-Err
returns-in-Err c =
    let p = c.args.p.now in
    let g : ℕ → List Obligation = thread_obligations (view.program p) in
    let F : List ℕ → List Obligation = λ ys. flat_map g ys in
    let inside : c.loop-t.t < length p.threads = omega (arith, c.loop-t-test.true, c.len-t-end.ensures) in
    loop_refused F F (g c.loop-t.t) (F (threads_of (view.program p))) (threads_of (view.program p)) c.loop-t.t c.loop-t.t
    (omega (arith, inside, thread_count p)) (sym (thread_is p c.loop-t.t inside)) (λ ys. refl) c.loop-t.invariant.decides c.in-Err.fault
    c.in-Err.ensures.answer

pub loop-t-preserved : goal.loop-t-preserved
loop-t-preserved c =
    let p = c.args.p.now in
    let t = c.loop-t.t in
    let g : ℕ → List Obligation = thread_obligations (view.program p) in
    let F : List ℕ → List Obligation = λ ys. flat_map g ys in
    let inside : c.loop-t.t < length p.threads = omega (arith, c.loop-t-test.true, c.len-t-end.ensures) in
    let same = c.in-Ok.ensures.answer.1 in
    let few = c.in-Ok.ensures.bounded in
    let before = c.loop-t.invariant in
    record {
      decides =
          loop_more F F (g t) (F (threads_of (view.program p))) (threads_of (view.program p)) t t
          (omega (arith, inside, thread_count p)) (sym (thread_is p t inside)) (λ ys. refl) before.decides c.in-Ok.ensures.answer.0;
      statements =
          sum_step p (λ t. (thread.counts (view.program p) t).statements) t c.loop-t.count.statements c.in-Ok.checked.statements inside before.statements
          (ap (λ k. k.statements) same);
      entailments =
          sum_step p (λ t. (thread.counts (view.program p) t).entailments) t c.loop-t.count.entailments c.in-Ok.checked.entailments inside before.entailments
          (ap (λ k. k.entailments) same);
      few_statements = omega (arith, before.few_statements, few.0);
      few_entailments = omega (arith, before.few_entailments, few.1);
    }

pub returns : goal.returns
returns c =
    let p = c.args.p.now in
    let t = c.loop-t.t in
    let past : length p.threads ≤ t = omega (arith, c.loop-t-test.false, c.len-t-end.ensures) in
    let before = c.loop-t.invariant in
    let statements = sum_end p (λ t. (thread.counts (view.program p) t).statements) t c.loop-t.count.statements past before.statements in
    let entailments = sum_end p (λ t. (thread.counts (view.program p) t).entailments) t c.loop-t.count.entailments past before.entailments in (
      sym before.decides
          ∙ ap (λ ts. first_false (flat_map (thread_obligations (view.program p)) ts)) (drop_all t (threads_of (view.program p)) (omega (arith, past, thread_count p))),
      (λ i. record { statements = statements i; entailments = entailments i }),
    )
