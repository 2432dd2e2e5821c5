use Rattle.std.proofs.Common.{ℕ, ◌+◌, ◌<◌, ◌≤◌, ◌∙◌, length, sum_by, arith}
use Rattle.cov_ast.specs.View as view
use Rattle.mode_compat.specs.Compatible.{threads_of}
use Rattle.thread_swap.specs.Judges.{says_of}
use Rattle.thread_swap.specs.Swaps.{open_at}
use Rattle.thread_swap.proofs.JudgeLaws.{all_small, asked_all, asked_more, asked_some, asks_failed, made_all, made_more}
use Rattle.thread_swap.proofs.SwapLaws.{passes_more, still_says}
use Rattle.thread_swap.proofs.settle.judge_all.Goals as goal

pub returns-in_err-said-clause-asks : goal.returns-in_err-said-clause-asks
returns-in_err-said-clause-asks g c =
    let p = c.args.p.now in
    let t = c.loop-t.t in
    let f : ℕ → ℕ = open_at (view.program p) c.args.kept.now in
    let start = (g.J.Judge.judging c.args.judge.now).judged in
    let count = (g.J.Judge.judging c.loop-t.judge).judged in
    let new = (g.J.Judge.judging c.judge_open.new.judge).judged in
    let inside : t < length p.threads = omega (arith, c.loop-t-test.true, c.len-t-end.ensures) in
    asks_failed c.from_residual.result c.in_err-said.field-0.0 c.from_residual.ensures.1 start new (sum_by f (threads_of (view.program p)))
    (asked_some p f start (t + 1) new (asked_more p f start t count new inside c.loop-t.invariant.asked c.in_err-said.ensures.asks))

pub returns-in_err-push-clause-asks : goal.returns-in_err-push-clause-asks
returns-in_err-push-clause-asks g c =
    let p = c.args.p.now in
    let t = c.loop-t.t in
    let f : ℕ → ℕ = open_at (view.program p) c.args.kept.now in
    let start = (g.J.Judge.judging c.args.judge.now).judged in
    let count = (g.J.Judge.judging c.loop-t.judge).judged in
    let new = (g.J.Judge.judging c.judge_open.new.judge).judged in
    let inside : t < length p.threads = omega (arith, c.loop-t-test.true, c.len-t-end.ensures) in
    asks_failed c.from_residual-in_err-push.result c.in_err-push.field-0.0 c.from_residual-in_err-push.ensures.1 start new (sum_by f (threads_of (view.program p)))
    (asked_some p f start (t + 1) new (asked_more p f start t count new inside c.loop-t.invariant.asked c.in_ok-said.ensures.asks))

pub loop-t-preserved : goal.loop-t-preserved
loop-t-preserved g c =
    let p = c.args.p.now in
    let t = c.loop-t.t in
    let f : ℕ → ℕ = open_at (view.program p) c.args.kept.now in
    let before = g.J.Judge.judging c.args.judge.now in
    let here = g.J.Judge.judging c.loop-t.judge in
    let behind = g.J.Judge.judging c.judge_open.new.judge in
    let inside : t < length p.threads = omega (arith, c.loop-t-test.true, c.len-t-end.ensures) in
    record {
      said =
          made_more p (says_of before (view.program p)) t c.loop-t.all c.push.new.self c.in_ok-said.said inside c.in_ok-push.ensures.ok c.loop-t.invariant.said
          (c.in_ok-said.ensures.says ∙ still_says before here c.loop-t.invariant.passes (view.program p) t);
      passes = passes_more before here behind c.loop-t.invariant.passes c.in_ok-said.ensures.passes;
      asked = asked_more p f before.judged t here.judged behind.judged inside c.loop-t.invariant.asked c.in_ok-said.ensures.asks;
    }

pub returns-clause-says : goal.returns-clause-says
returns-clause-says g c =
    let p = c.args.p.now in
    let past : length p.threads ≤ c.loop-t.t = omega (arith, c.loop-t-test.false, c.len-t-end.ensures) in
    made_all p (says_of (g.J.Judge.judging c.args.judge.now) (view.program p)) c.loop-t.t c.loop-t.all past c.loop-t.invariant.said

pub returns-clause-small : goal.returns-clause-small
returns-clause-small g c =
    let p = c.args.p.now in
    let past : length p.threads ≤ c.loop-t.t = omega (arith, c.loop-t-test.false, c.len-t-end.ensures) in
    all_small p (g.J.Judge.judging c.args.judge.now) (g.met.J.Judge.sound c.args.judge.now) c.requires.formed c.requires.declared c.loop-t.all
    (made_all p (says_of (g.J.Judge.judging c.args.judge.now) (view.program p)) c.loop-t.t c.loop-t.all past c.loop-t.invariant.said)

pub returns-clause-asks : goal.returns-clause-asks
returns-clause-asks g c =
    let p = c.args.p.now in
    let f : ℕ → ℕ = open_at (view.program p) c.args.kept.now in
    let past : length p.threads ≤ c.loop-t.t = omega (arith, c.loop-t-test.false, c.len-t-end.ensures) in
    asked_all p f (g.J.Judge.judging c.args.judge.now).judged c.loop-t.t (g.J.Judge.judging c.loop-t.judge).judged past c.loop-t.invariant.asked
