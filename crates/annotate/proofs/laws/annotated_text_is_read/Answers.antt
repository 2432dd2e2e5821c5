use Rattle.std.proofs.Common.{refl}
use Rattle.annotate.specs.AnnotatedText.{unresolved_choices}
use Rattle.annotate.proofs.NameLaws.{annotated_as_read, annotated_is_read}
use Rattle.annotate.proofs.PlacedLaws.{threads_kept}
use Rattle.annotate.proofs.TextLaws.{unresolved_is_read}
use Rattle.annotate.proofs.laws.annotated_text_is_read.Goals as goal

pub returns-clause-certificates : goal.returns-clause-certificates
returns-clause-certificates c = λ p formed read. unresolved_is_read p formed read.named read.few

pub returns-clause-program : goal.returns-clause-program
returns-clause-program c = annotated_is_read

pub returns-clause-read : goal.returns-clause-read
returns-clause-read c = annotated_as_read

pub returns-clause-rest : goal.returns-clause-rest
returns-clause-rest c = λ depth p. (refl, refl, refl, refl, threads_kept (unresolved_choices depth p) 0 p.threads)
