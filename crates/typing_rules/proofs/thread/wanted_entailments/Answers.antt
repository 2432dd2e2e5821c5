use Rattle.std.proofs.Common.{◌≡◌, ◌∙◌, ap, map, subst}
use Rattle.std.specs.Prelude.{IfOk}
use Rattle.cov_ast.specs.View as view
use Rattle.typing_law.specs.ThreadEntailments.{all_entailments, view_entail}
use Rattle.typing_law.specs.ThreadObligations.{thread_obligations}
use Rattle.typing_rules.specs.Keeping.{asked_in_thread, copied_among, wanted_among}
use Rattle.typing_rules.proofs.AskedLaws.{asked_reached}
use Rattle.typing_rules.proofs.KeptLaws.{all_copied}
use Rattle.typing_rules.proofs.thread.wanted_entailments.Goals as goal

pub returns : goal.returns
returns c =
    let p = view.program c.args.p.now in
    let t = c.args.t in
    subst (λ gs. IfOk c.copies.result (λ listed. map view_entail listed ≡ gs))
    (ap copied_among c.in_ok-kept.ensures ∙ all_copied (wanted_among c.args.wanted (map (λ a. a.listed) (asked_in_thread p t)))
    ∙ ap (wanted_among c.args.wanted) (asked_reached (thread_obligations p t) (all_entailments p t))) c.copies.ensures
