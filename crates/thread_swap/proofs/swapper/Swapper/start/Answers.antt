use Rattle.std.proofs.Common.{◌≡◌, ℕ, ◌≤◌, ◌∙◌, ap, subst, sym, length}
use Rattle.std.proofs.lemmas.List.{length-replicate}
use Rattle.std.proofs.Common.{None}
use Rattle.cov_ast.specs.View as view
use Rattle.thread_swap.specs.Judges.{risen}
use Rattle.thread_swap.specs.Swaps.{AreSaid, IsStanding, all_open, due, settled}
use Rattle.thread_swap.proofs.JudgeLaws.{asks_failed}
use Rattle.thread_swap.proofs.SwapLaws.{fits_open, fits_settled, standing, still_said}
use Rattle.thread_swap.proofs.swapper.Swapper.start.Goals as goal

pub returns-in_err-settled-clause-asks : goal.returns-in_err-settled-clause-asks
returns-in_err-settled-clause-asks g c =
    let p = view.program c.args.p in
    let before = (g.J.Judge.judging c.args.judge.now).judged in
    let after = (g.J.Judge.judging c.settle.new.judge).judged in
    asks_failed c.from_residual-in_err-settled.result c.in_err-settled.field-0.0 c.from_residual-in_err-settled.ensures.1 before after (due p (all_open p))
    (subst (λ x. (n : ℕ) × (n ≤ x) × (after ≡ risen before n)) (ap (due p) (c.as_slice.ensures ∙ c.in_ok-open.ensures)) c.in_err-settled.ensures.asks)

pub invariant_of-result : goal.invariant_of-result
invariant_of-result g c =
    let p = view.program c.args.p in
    let j = g.J.Judge.judging c.args.judge.now in
    let none = c.as_slice.result.now in
    subst (λ o. IsStanding p o c.in_ok-settled.settled.verdict) (sym c.in_ok-settled.ensures.answers)
    (subst (IsStanding p (settled j p none)) (sym c.in_ok-settled.ensures.verdict)
    (standing p j none c.requires (ap length (c.as_slice.ensures ∙ c.in_ok-open.ensures) ∙ length-replicate (length p.threads) None)))

pub returns-clause-fits : goal.returns-clause-fits
returns-clause-fits g c =
    let p = view.program c.args.p in
    let j = g.J.Judge.judging c.args.judge.now in
    let k = g.J.Judge.judging c.settle.new.judge in
    let none = c.as_slice.result.now in
    subst (AreSaid k p) (sym c.in_ok-settled.ensures.answers)
    (still_said j k c.in_ok-settled.ensures.passes p (settled j p none)
    (fits_settled p j none (subst (AreSaid j p) (sym (c.as_slice.ensures ∙ c.in_ok-open.ensures)) (fits_open p j))))
