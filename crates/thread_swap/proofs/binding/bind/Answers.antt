use Rattle.std.proofs.Common.{◌≡◌, ◌∙◌, cond, sym, subst, ap, map, Some, None}
use Rattle.std.specs.Prelude.{MatchResult}
use Rattle.cov_ast.specs.Ready.{IsReady}
use Rattle.cov_ast.specs.View as view
use Rattle.thread_swap.specs.Binding.{IsFault, thread_fault, unknown_fault}
use Rattle.thread_swap.specs.Inside.Over.{AreBound, threads_in}
use Rattle.thread_swap.specs.declared.swap_fault.SwapFault.TheVariants.{Version}
use Rattle.thread_swap.proofs.BindLaws.{binds_from, fit_from}
use Rattle.thread_swap.proofs.OverLaws.{alone_ready}
use Rattle.thread_swap.proofs.binding.bind.Goals as goal

pub bound_threads-requires-clause-ready : goal.bound_threads-requires-clause-ready
bound_threads-requires-clause-ready c =
    let e = view.parsed c.args.e in
    subst (λ ts. IsReady (threads_in e (map view.thread ts))) (sym c.replace-threads.ensures.value) (alone_ready e c.requires.ready)

pub bound_threads-requires-clause-version : goal.bound_threads-requires-clause-version
bound_threads-requires-clause-version c = ap (λ b. cond b (Some Version) None) (sym c.may_not_put_out.ensures ∙ c.if-may_not_put_out.false)

pub bound_threads-requires-clause-named : goal.bound_threads-requires-clause-named
bound_threads-requires-clause-named c =
    let none : thread_fault (view.program c.args.p.now) (map view.thread c.args.e.threads) ≡ None = sym (rw c.as_slice.ensures at c.in_default-no_thread_at.ensures) in
    ap (λ ts. thread_fault (view.program c.args.p.now) (map view.thread ts)) c.replace-threads.ensures.value ∙ none

pub returns-clause-binds : goal.returns-clause-binds
returns-clause-binds c =
    let p = view.program c.args.p.now in
    let e = view.parsed c.args.e in
    binds_from p e (ap (λ b. cond b (Some Version) None) (sym c.may_not_put_out.ensures ∙ c.if-may_not_put_out.false))
    (sym c.in_default.ensures) (sym (rw c.as_slice.ensures at c.in_default-no_thread_at.ensures)) c.bound_threads.result
    (subst (λ ts. MatchResult c.bound_threads.result (λ made. (unknown_fault p e ≡ None) × AreBound p e (map view.thread ts) (map view.thread made)) (IsFault (unknown_fault p e)))
    c.replace-threads.ensures.value c.bound_threads.ensures)

pub returns-clause-fit : goal.returns-clause-fit
returns-clause-fit c =
    let p = view.program c.args.p.now in
    let e = view.parsed c.args.e in
    fit_from p e (ap (λ b. cond b (Some Version) None) (sym c.may_not_put_out.ensures ∙ c.if-may_not_put_out.false))
    (sym c.in_default.ensures) (sym (rw c.as_slice.ensures at c.in_default-no_thread_at.ensures)) c.bound_threads.result
    (subst (λ ts. MatchResult c.bound_threads.result (λ made. (unknown_fault p e ≡ None) × AreBound p e (map view.thread ts) (map view.thread made)) (IsFault (unknown_fault p e)))
    c.replace-threads.ensures.value c.bound_threads.ensures)
