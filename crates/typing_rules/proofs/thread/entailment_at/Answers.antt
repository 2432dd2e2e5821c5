use Rattle.std.proofs.Common.{◌∙◌, ap, option_map, sym}
use Rattle.std.specs.Prelude.{slice_get}
use Rattle.std.proofs.lemmas.Option.{slice_get-map}
use Rattle.cov_ast.specs.View as view
use Rattle.typing_law.specs.ThreadEntailments.{thread_entailments, view_entail}
use Rattle.typing_rules.proofs.KeptLaws.{first_wanted}
use Rattle.typing_rules.proofs.thread.entailment_at.Goals as goal

pub returns : goal.returns
returns c =
    let found = c.in_ok-found.found in
    ap (option_map view_entail) c.first.ensures
    ∙ sym (slice_get-map view_entail found 0)
    ∙ ap (λ l. slice_get l 0) c.in_ok-found.ensures
    ∙ first_wanted c.args.place c.args.number (thread_entailments (view.program c.args.p.now) c.args.t)
