use Rattle.annotate.proofs.NameLaws.{first_is, names_stay, none_refused_is_accepted}
use Rattle.annotate.proofs.laws.refusals_are_of_the_annotated_text.Goals as goal

pub returns-clause-accepted : goal.returns-clause-accepted
returns-clause-accepted c = none_refused_is_accepted

pub returns-clause-names : goal.returns-clause-names
returns-clause-names c = names_stay

pub returns-clause-first : goal.returns-clause-first
returns-clause-first c = first_is
