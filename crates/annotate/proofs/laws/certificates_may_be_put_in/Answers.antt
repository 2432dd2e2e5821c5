use Rattle.annotate.proofs.DeclarationLaws.{declarations_kept}
use Rattle.annotate.proofs.EntailmentLaws.{put_in_same}
use Rattle.annotate.proofs.NameLaws.{choices_are_read, choices_as_read, names_in_order}
use Rattle.annotate.proofs.laws.certificates_may_be_put_in.Goals as goal

pub returns-clause-names : goal.returns-clause-names
returns-clause-names c = λ chosen p formed read below. names_in_order chosen p below formed read

pub returns-clause-read : goal.returns-clause-read
returns-clause-read c = λ chosen p formed read below. choices_as_read chosen p below formed read

pub returns-clause-program : goal.returns-clause-program
returns-clause-program c = λ chosen p formed read below. choices_are_read chosen p below formed read

pub returns-clause-declarations : goal.returns-clause-declarations
returns-clause-declarations c = declarations_kept

pub returns-clause-entailments : goal.returns-clause-entailments
returns-clause-entailments c = put_in_same
