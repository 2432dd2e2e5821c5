use Rattle.std.proofs.Common.{◌≡◌, map, subst}
use Rattle.std.specs.Prelude.{IfOk}
use Rattle.cov_ast.specs.View as view
use Rattle.typing_law.specs.ThreadEntailments.{thread_entailments, view_entail}
use Rattle.typing_rules.proofs.KeptLaws.{every_wanted}
use Rattle.typing_rules.proofs.thread.entailments.Goals as goal

pub returns : goal.returns
returns c =
    subst (λ gs. IfOk c.wanted_entailments.result (λ listed. map view_entail listed ≡ gs))
    (every_wanted (thread_entailments (view.program c.args.p.now) c.args.t)) c.wanted_entailments.ensures
