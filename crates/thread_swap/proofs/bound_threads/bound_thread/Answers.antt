use Rattle.std.proofs.Common.{◌∷◌, [], ◌++◌, ◌∙◌, map, ap, subst, sym}
use Rattle.std.specs.Str.{bytes_eq}
use Rattle.cov_ast.specs.Ready.{IsReady}
use Rattle.cov_ast.specs.View as view
use Rattle.cov_ast.specs.WellFormed.{are_distinct, names_of}
use Rattle.thread_swap.specs.Inside.Over.{threads_in}
use Rattle.thread_swap.proofs.BoundLaws.{first_bound, one_made}
use Rattle.thread_swap.proofs.OverLaws.{one_differs}
use Rattle.thread_swap.proofs.bound_threads.bound_thread.Goals as goal

pub bound_apart-requires-clause-ready : goal.bound_apart-requires-clause-ready
bound_apart-requires-clause-ready c =
    let one = c.in_ok-push.ensures.ok ∙ ap (λ ts. ts ++ c.args.thread ∷ []) c.new-one.ensures in
    subst (λ ts. IsReady (threads_in (view.parsed c.args.names.now) (map view.thread ts))) (sym one) c.requires.ready

pub bound_apart-requires-clause-differ : goal.bound_apart-requires-clause-differ
bound_apart-requires-clause-differ c =
    let p = view.program c.args.p.now in
    let one = c.in_ok-push.ensures.ok ∙ ap (λ ts. ts ++ c.args.thread ∷ []) c.new-one.ensures in
    ap (λ ts. are_distinct bytes_eq (names_of p.vars p.locks (map view.thread ts))) one
    ∙ one_differs p c.requires.formed (view.thread c.args.thread) c.requires.named

pub remove-requires : goal.remove-requires
remove-requires c =
    let one = c.in_ok-push.ensures.ok ∙ ap (λ ts. ts ++ c.args.thread ∷ []) c.new-one.ensures in
    one_made (view.program c.args.p.now) (view.parsed c.args.names.now) c.push.new.self c.in-Ok.made c.args.thread c.args.thread one c.in-Ok.ensures.1

pub returns-in-Ok : goal.returns-in-Ok
returns-in-Ok c =
    let one = c.in_ok-push.ensures.ok ∙ ap (λ ts. ts ++ c.args.thread ∷ []) c.new-one.ensures in
    first_bound (view.program c.args.p.now) (view.parsed c.args.names.now) c.push.new.self c.in-Ok.made c.args.thread c.remove.result one c.in-Ok.ensures.1
    c.remove.ensures.item
