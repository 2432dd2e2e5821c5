use Rattle.annotate.proofs.ChoiceLaws.{choices_are, choices_rise}
use Rattle.annotate.proofs.laws.choices_are_for_listed_entailments.Goals as goal

pub returns-clause-found : goal.returns-clause-found
returns-clause-found c = choices_are

pub returns-clause-rising : goal.returns-clause-rising
returns-clause-rising c = choices_rise
