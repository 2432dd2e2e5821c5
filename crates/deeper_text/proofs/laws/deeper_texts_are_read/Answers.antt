use Rattle.std.proofs.Common.{◌∙◌, ap}
use Rattle.annotate.proofs.DeclarationLaws.{declarations_kept}
use Rattle.annotate.proofs.NameLaws.{choices_are_read, choices_as_read, names_in_order}
use Rattle.mode_compat.specs.Declared.{declaration_obligations}
use Rattle.policy_class.specs.Resolved.{resolved}
use Rattle.deeper_text.specs.DeeperText.{deeper_choices}
use Rattle.deeper_text.proofs.TextLaws.{choices_below}
use Rattle.deeper_text.proofs.laws.deeper_texts_are_read.Goals as goal

pub returns-clause-names : goal.returns-clause-names
returns-clause-names c = λ p formed read. names_in_order (deeper_choices (resolved p)) p (choices_below p formed) formed read

pub returns-clause-read : goal.returns-clause-read
returns-clause-read c = λ p formed read. choices_as_read (deeper_choices (resolved p)) p (choices_below p formed) formed read

pub returns-clause-program : goal.returns-clause-program
returns-clause-program c = λ p formed read. choices_are_read (deeper_choices (resolved p)) p (choices_below p formed) formed read

pub returns-clause-declarations : goal.returns-clause-declarations
returns-clause-declarations c = λ p formed read.
    ap declaration_obligations (choices_are_read (deeper_choices (resolved p)) p (choices_below p formed) formed read)
    ∙ declarations_kept (deeper_choices (resolved p)) (resolved p)
