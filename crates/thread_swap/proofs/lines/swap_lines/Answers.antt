use Rattle.std.proofs.Common.{◌≡◌, ◌<◌, ◌≤◌, ◌+◌, ap, map, subst, arith, sym, length}
use Rattle.cov_ast.specs.View as view
use Rattle.cov_ast.specs.WellFormed.{IsWellFormed}
use Rattle.thread_swap.specs.Replacements.{AreAlike}
use Rattle.thread_swap.specs.SwapLines.{all_checked, opened, put_in, swap_lines}
use Rattle.thread_swap.specs.Swaps.{due}
use Rattle.thread_swap.proofs.BoundLaws.{left_more}
use Rattle.thread_swap.proofs.LineLaws.{count_more, lines_kept, named_alike, next_replacement, next_within, on_failed, put_alike}
use Rattle.thread_swap.proofs.SwapLaws.{passes_more}
use Rattle.thread_swap.proofs.lines.swap_lines.Goals as goal

pub put_in-requires-clause-named : goal.put_in-requires-clause-named
put_in-requires-clause-named g c =
    let ds = c.args.replacements in
    let i = c.loop-i.i in
    let inside : i < length ds = omega (arith, c.loop-i-test.true, c.len-i-end.ensures) in
    named_alike (view.program c.args.p) (view.program c.loop-i.swapper.program) (view.thread c.remove-d.result) c.loop-i.invariant.alike
    (next_replacement (view.program c.args.p) ds c.loop-i.rest i c.remove-d.result inside c.loop-i.invariant.left c.remove-d.ensures.item c.requires.fit).named

pub put_in-requires-clause-formed : goal.put_in-requires-clause-formed
put_in-requires-clause-formed g c =
    let ds = c.args.replacements in
    let i = c.loop-i.i in
    let inside : i < length ds = omega (arith, c.loop-i-test.true, c.len-i-end.ensures) in
    (next_replacement (view.program c.args.p) ds c.loop-i.rest i c.remove-d.result inside c.loop-i.invariant.left c.remove-d.ensures.item c.requires.fit).formed
    (view.program c.loop-i.swapper.program) c.loop-i.invariant.alike c.loop-i.invariant.formed

pub returns-in_err-line-clause-most : goal.returns-in_err-line-clause-most
returns-in_err-line-clause-most g c =
    let judging = g.J.Judge.judging in
    let v = c.loop-i.invariant in
    let start = (judging c.args.judge.now).judged in
    let new = (judging c.put_in.new.judge).judged in
    let all = swap_lines (judging c.args.judge.now) (view.program c.args.p) (map view.thread c.args.replacements) in
    let asked = c.in_err-line.ensures.asks in
    on_failed (new ≤ start + all_checked all) c.from_residual-in_err-line.result c.in_err-line.field-0.0 c.from_residual-in_err-line.ensures.1
    (next_within (judging c.args.judge.now) (judging c.loop-i.judge) v.passes (view.program c.loop-i.swapper.program) c.loop-i.swapper.answers (judging c.loop-i.judge).judged start
    c.loop-i.lines all c.loop-i.rest c.remove-d.result c.remove-d.ensures.item v.lines v.count new asked.0 asked.1 asked.2)

pub returns-in_err-push-2-clause-most : goal.returns-in_err-push-2-clause-most
returns-in_err-push-2-clause-most g c =
    let judging = g.J.Judge.judging in
    let v = c.loop-i.invariant in
    let start = (judging c.args.judge.now).judged in
    let new = (judging c.put_in.new.judge).judged in
    let p = view.program c.loop-i.swapper.program in
    let d = view.thread c.remove-d.result in
    let all = swap_lines (judging c.args.judge.now) (view.program c.args.p) (map view.thread c.args.replacements) in
    on_failed (new ≤ start + all_checked all) c.from_residual-in_err-push-2.result c.in_err-push-2.field-0.0 c.from_residual-in_err-push-2.ensures.1
    (next_within (judging c.args.judge.now) (judging c.loop-i.judge) v.passes p c.loop-i.swapper.answers (judging c.loop-i.judge).judged start
    c.loop-i.lines all c.loop-i.rest c.remove-d.result c.remove-d.ensures.item v.lines v.count new (due (put_in p d) (opened p c.loop-i.swapper.answers d)) (omega arith)
    c.in_ok-line.ensures.asks)

pub loop-i-preserved : goal.loop-i-preserved
loop-i-preserved g c =
    let judging = g.J.Judge.judging in
    let v = c.loop-i.invariant in
    let ds = c.args.replacements in
    let i = c.loop-i.i in
    let p = view.program c.loop-i.swapper.program in
    let d = view.thread c.remove-d.result in
    let before = judging c.args.judge.now in
    let here = judging c.loop-i.judge in
    let behind = judging c.put_in.new.judge in
    let ok = c.in_ok-line.ensures in
    let inside : i < length ds = omega (arith, c.loop-i-test.true, c.len-i-end.ensures) in
    let next = next_replacement (view.program c.args.p) ds c.loop-i.rest i c.remove-d.result inside v.left c.remove-d.ensures.item c.requires.fit in
    record {
      left = left_more ds c.loop-i.rest i c.remove-d.result inside v.left c.remove-d.ensures.item c.remove-d.new.self c.remove-d.ensures.rest;
      formed = subst IsWellFormed (sym ok.program) (next.formed p v.alike v.formed);
      alike = subst (AreAlike (view.program c.args.p)) (sym ok.program) (put_alike (view.program c.args.p) p d v.alike next.named);
      fits = ok.fits;
      passes = passes_more before here behind v.passes ok.passes;
      lines =
          lines_kept before here v.passes p c.loop-i.swapper.answers here.judged before.judged c.loop-i.lines
          (swap_lines before (view.program c.args.p) (map view.thread ds)) c.loop-i.rest c.remove-d.result c.remove-d.ensures.item v.lines v.count
          (view.program c.put_in.new.swapper.program) c.put_in.new.swapper.answers behind.judged c.push-in-loop-i.new.self c.in_ok-line.line c.remove-d.new.self c.remove-d.ensures.rest
          ok.program ok.answers ok.asks ok.line c.in_ok-push-2.ensures.ok;
      count =
          subst (λ xs. behind.judged ≡ before.judged + all_checked xs) (sym c.in_ok-push-2.ensures.ok)
          (count_more before.judged here.judged behind.judged (due (put_in p d) (opened p c.loop-i.swapper.answers d)) c.loop-i.lines c.in_ok-line.line v.count ok.asks
          (ap (λ l. l.checked) ok.line));
    }
