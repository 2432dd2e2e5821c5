use Rattle.std.proofs.Common.{sym, ◌∙◌}
use Rattle.typing_rules.proofs.UnprovedLaws.{unproved_for_none, unproved_for_refused}
use Rattle.typing_rules.proofs.certificates.require_proved.Goals as goal

pub returns-in-Some : goal.returns-in-Some
returns-in-Some c u p proofs n gs is =
    unproved_for_refused u p c.args.site.thread c.args.site.place proofs n gs c.in-Some.number c.refused_at.result (sym c.in-Some.is ∙ is) c.refused_at.ensures

pub returns-in-None : goal.returns-in-None
returns-in-None c u p proofs n gs is = unproved_for_none u p c.args.site.thread c.args.site.place proofs n gs (sym c.in-None.is ∙ is)
