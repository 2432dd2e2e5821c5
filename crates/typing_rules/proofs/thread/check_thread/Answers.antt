use Rattle.std.proofs.Common.{◌≡◌, ◌<◌, ◌∙◌, ap, arith, get_or, length, sym}
use Rattle.std.proofs.lemmas.List.{length-map}
use Rattle.cov_ast.specs.View as view
use Rattle.cov_ast.specs.WellFormed.{places}
use Rattle.cov_ast.proofs.ObligationLaws.{none_refused}
use Rattle.typing_law.specs.Counts.{counts}
use Rattle.typing_law.specs.ThreadObligations.{thread_obligations}
use Rattle.typing_rules.proofs.Threads.{entailments_bounded, statements_bounded, thread_seen}
use Rattle.typing_rules.proofs.thread.check_thread.Goals as goal

pub returns-in-Ok-clause-bounded : goal.returns-in-Ok-clause-bounded
returns-in-Ok-clause-bounded c =
    let p = c.args.p.now in
    let t = c.args.t in
    let thread = c.index-as_slice-t.result in
    let is : thread ≡ get_or p.threads t thread = rw c.as_slice.ensures at c.index-as_slice-t.is in
    let inside : t < length (view.program p).threads = omega (arith, c.requires.thread, length-map p.threads view.thread) in
    let counted : c.statements-statements.result ≡ (counts (view.program p) t).statements =
    c.statements-statements.ensures ∙ ap (λ ss. length (places (view.block ss))) c.as_slice-in-Ok.ensures
    ∙ ap (λ s. length (places (view.block s.body))) (sym c.index-as_slice-t.is)
    ∙ ap (λ s. length (places s.body)) (thread_seen p t thread c.requires.thread is) in (
      omega (arith, counted, statements_bounded (view.program p) c.requires.formed t inside),
      omega (arith, c.in-Ok.ensures.1, entailments_bounded (view.program p) c.requires.formed t inside c.requires.declared),
    )

pub returns-in-Ok-clause-secure : goal.returns-in-Ok-clause-secure
returns-in-Ok-clause-secure c =
    let p = view.program c.args.p.now in
    let t = c.args.t in
    let inside : t < length p.threads = omega (arith, c.requires.thread, length-map c.args.p.now.threads view.thread) in
    c.true_obligations_are_secure.ensures p c.requires.formed c.requires.declared t inside
    (none_refused (thread_obligations p t) c.in-Ok.ensures.0)
