use Rattle.std.proofs.Common.{◌≡◌, ◌∙◌, map, ap, subst, sym, None, Some}
use Rattle.std.specs.Prelude.{All, option_map}
use Rattle.cov_ast.specs.Obligations.{first_false}
use Rattle.cov_ast.specs.Ready.{IsReady}
use Rattle.cov_ast.specs.View as view
use Rattle.cov_ast.specs.declared.refusal.Refusal.{Refusal}
use Rattle.policy_class.specs.Resolved.{name_obligations, resolved}
use Rattle.thread_swap.specs.Inside.Over.{IsFitting, over, threads_in}
use Rattle.thread_swap.specs.declared.swap_fault.SwapFault.TheVariants.{Unknown}
use Rattle.thread_swap.proofs.BindLaws.{silent_text}
use Rattle.thread_swap.proofs.OverLaws.{bound_is, fitting, over_ready, unknown_is}
use Rattle.thread_swap.proofs.bound_threads.bound_apart.Goals as goal

pub resolve-requires : goal.resolve-requires
resolve-requires c =
    let p = view.program c.args.p.now in
    let e = view.parsed c.args.names.now in
    subst IsReady (sym c.in_ok-text.ensures) (over_ready p e (map view.thread c.args.threads) c.requires.formed c.requires.ready)

pub returns-in-Ok : goal.returns-in-Ok
returns-in-Ok c =
    let p = view.program c.args.p.now in
    let e = view.parsed c.args.names.now in
    let ts = map view.thread c.args.threads in
    let text = c.in_ok-text.ensures in
    let none : first_false (name_obligations (over p (threads_in e ts))) ≡ None = subst (λ q. first_false (name_obligations q) ≡ None) text c.in-Ok.ensures.names in
    let made : view.program c.in-Ok.made ≡ resolved (over p (threads_in e ts)) = c.in-Ok.ensures.program ∙ ap resolved text in (
      unknown_is p e ts c.requires.differ ∙ ap (option_map (λ (r : Refusal). Unknown r.place)) none,
      (
        ap (map view.thread) c.replace.ensures.value ∙ ap (λ q. q.threads) made ∙ bound_is p e ts,
        subst (All (IsFitting p)) (sym (ap (map view.thread) c.replace.ensures.value))
            (fitting p e ts (view.program c.in-Ok.made) made c.in-Ok.ensures.formed (silent_text p e c.requires.version c.requires.ready.version.known)),
      ),
    )

pub returns-in-Err-Refused : goal.returns-in-Err-Refused
returns-in-Err-Refused c =
    let p = view.program c.args.p.now in
    let e = view.parsed c.args.names.now in
    let ts = map view.thread c.args.threads in
    let refused = rw c.in-Err-Refused.field-0-is at c.in-Err-Refused.ensures.names in
    let some : first_false (name_obligations (over p (threads_in e ts))) ≡ Some c.in-Err-Refused.refusal =
    subst (λ q. first_false (name_obligations q) ≡ Some c.in-Err-Refused.refusal) c.in_ok-text.ensures refused in
    rw c.in-Err-Refused.field-0-is (unknown_is p e ts c.requires.differ ∙ ap (option_map (λ (r : Refusal). Unknown r.place)) some)
