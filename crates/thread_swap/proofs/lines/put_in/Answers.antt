use Rattle.std.proofs.Common.{◌≡◌, arith, rules}
use Rattle.std.proofs.lemmas.List.{length-map}
use Rattle.cov_ast.specs.View as view
use Rattle.thread_swap.specs.Replacements.{thread_named}
use Rattle.thread_swap.specs.SwapLines.{opened, put_in}
use Rattle.thread_swap.specs.Swaps.{due}
use Rattle.thread_swap.proofs.JudgeLaws.{asks_failed}
use Rattle.thread_swap.proofs.NamedLaws.{named_inside}
use Rattle.thread_swap.proofs.lines.put_in.Goals as goal

pub replace-requires-clause-thread : goal.replace-requires-clause-thread
replace-requires-clause-thread g c =
    let p = c.args.swapper.now.program in
    let number : c.thread_number-t.result ≡ thread_named (view.program p) c.args.d.name = search rules in
    let inside = named_inside (view.program p) (view.thread c.args.d) c.requires.named in
    omega (arith, number, inside, length-map p.threads view.thread)

pub returns-in_err-replace-clause-asks : goal.returns-in_err-replace-clause-asks
returns-in_err-replace-clause-asks g c =
    let s = c.args.swapper.now in
    asks_failed c.from_residual.result c.in_err-replace.field-0.0 c.from_residual.ensures.1 (g.J.Judge.judging c.args.judge.now).judged
    (g.J.Judge.judging c.replace.new.judge).judged (due (put_in (view.program s.program) (view.thread c.args.d)) (opened (view.program s.program) s.answers (view.thread c.args.d)))
    (search rules)
