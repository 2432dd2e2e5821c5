use Rattle.code_text.specs.declared.names.TheConstants.{GUESSES}
use Rattle.code_text.proofs.LookupLaws.{none_indexed, none_guessed}
use Rattle.code_text.proofs.names.Names.new.Goals as goal

pub invariant_of-result : goal.invariant_of-result
invariant_of-result c = rw (c.new.ensures, c.no_guesses.ensures) (none_indexed c.new-2.result c.new-2.ensures.empty, none_guessed GUESSES)
