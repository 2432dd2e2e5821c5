use Rattle.std.proofs.Common.{map, ap, subst, sym, ◌∙◌}
use Rattle.std.specs.Str.{bytes_eq}
use Rattle.cov_ast.specs.Ready.{IsReady}
use Rattle.cov_ast.specs.View as view
use Rattle.cov_ast.specs.WellFormed.{are_distinct, names_of}
use Rattle.thread_swap.specs.Inside.Over.{threads_in}
use Rattle.thread_swap.proofs.BindLaws.{names_among}
use Rattle.thread_swap.proofs.BoundLaws.{known_too}
use Rattle.thread_swap.proofs.OverLaws.{all_differ, declared_differ, none_ready}
use Rattle.thread_swap.proofs.bound_threads.bound_threads.Goals as goal

pub bound_apart-requires-clause-differ : goal.bound_apart-requires-clause-differ
bound_apart-requires-clause-differ c =
    let p = view.program c.args.p.now in
    let ts = map view.thread c.args.threads in
    all_differ p c.requires.formed ts (names_among p ts c.requires.named) (sym (rw c.as_slice.ensures at c.names_differ.ensures) ∙ c.if-names_differ.true)

pub bound_apart-requires-2-clause-ready : goal.bound_apart-requires-2-clause-ready
bound_apart-requires-2-clause-ready c =
    let e = view.parsed c.args.names.now in
    subst (λ ts. IsReady (threads_in e (map view.thread ts))) (sym c.new.ensures) (none_ready e (map view.thread c.args.threads) c.requires.ready)

pub bound_apart-requires-2-clause-differ : goal.bound_apart-requires-2-clause-differ
bound_apart-requires-2-clause-differ c =
    let p = view.program c.args.p.now in
    ap (λ ts. are_distinct bytes_eq (names_of p.vars p.locks (map view.thread ts))) c.new.ensures ∙ declared_differ p c.requires.formed

pub returns-in-Ok : goal.returns-in-Ok
returns-in-Ok c =
    known_too (view.program c.args.p.now) (view.parsed c.args.names.now) (map view.thread c.args.threads) c.each_bound.result c.in-Ok.ensures.0 c.each_bound.ensures
