use Rattle.entail_text.proofs.HelpLaws.{is_enough, is_without_hope}
use Rattle.entail_text.proofs.laws.what_would_help_is_enough.Goals as goal

pub returns-clause-enough : goal.returns-clause-enough
returns-clause-enough c = is_enough

pub returns-clause-hopeless : goal.returns-clause-hopeless
returns-clause-hopeless c = is_without_hope
