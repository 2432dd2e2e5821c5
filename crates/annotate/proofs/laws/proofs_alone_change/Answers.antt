use Rattle.annotate.specs.Annotated.{choices}
use Rattle.annotate.proofs.ChoiceLaws.{proofs_with}
use Rattle.annotate.proofs.DeclarationLaws.{declarations_kept}
use Rattle.annotate.proofs.EntailmentLaws.{put_in_same, without_proofs_same}
use Rattle.annotate.proofs.PlacedLaws.{plain_kept, program_kept}
use Rattle.annotate.proofs.laws.proofs_alone_change.Goals as goal

pub returns-clause-rest : goal.returns-clause-rest
returns-clause-rest c = λ depth p. program_kept (choices depth p) p

pub returns-clause-proofs : goal.returns-clause-proofs
returns-clause-proofs c = proofs_with

pub returns-clause-plain : goal.returns-clause-plain
returns-clause-plain c = λ depth p. plain_kept (choices depth p) p

pub returns-clause-declarations : goal.returns-clause-declarations
returns-clause-declarations c = λ depth p. declarations_kept (choices depth p) p

pub returns-clause-entailments : goal.returns-clause-entailments
returns-clause-entailments c = λ depth p t. put_in_same (choices depth p) p t

pub returns-clause-without_proofs : goal.returns-clause-without_proofs
returns-clause-without_proofs c = without_proofs_same
