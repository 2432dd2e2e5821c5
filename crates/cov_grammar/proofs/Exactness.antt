-- The laws of the grammar, for every right side that the next token decides, and for those that programs are read by.
use Rattle.std.proofs.Common.{◌≡◌, true, refl}
use Rattle.cov_grammar.specs.PlacedTrees.{Rule}
use Rattle.cov_grammar.specs.Shapes.{Shape, rule}
use Rattle.cov_grammar.specs.Grammar.{program, whole}
use Rattle.cov_grammar.specs.LookAhead.{fine}
use Rattle.cov_grammar.specs.FirstKinds.{first_kinds, more_of}
use Rattle.cov_grammar.specs.ReadingLaws.{IsReadExactly, IsDecided}
use Rattle.cov_grammar.proofs.TableLaws.{fine_program}
use Rattle.cov_grammar.proofs.Exact.{all_sound, all_complete, all_first, all_ends}
use Rattle.cov_grammar.proofs.Unique.{first_unique, spelled_right}
use Rattle.cov_grammar.proofs.Wholes.{value_one, value_or_fault}

pub read_exactly : {A : Type 0} (a : Shape A) → fine first_kinds more_of a ≡ true → IsReadExactly a
read_exactly a f = record {
  sound = λ ts v. all_sound a f ts v;
  complete = λ ts v. all_complete a f v ts;
  faults = all_first a f;
  ends = all_ends a f;
}

pub decided : {A : Type 0} (a : Shape A) → fine first_kinds more_of a ≡ true → IsDecided a
decided a f = record {
  value_or_fault = value_or_fault a f;
  not_both = λ ts bad v. spelled_right a v ts bad;
  one_value = value_one a f;
  one_fault = first_unique a;
}

pub program_exactly : IsReadExactly program
program_exactly = read_exactly program fine_program

pub whole_exactly : IsReadExactly whole
whole_exactly = read_exactly whole refl

pub rule_exactly : (r : Rule) → IsReadExactly (rule r)
rule_exactly r = read_exactly (rule r) refl

pub program_decided : IsDecided program
program_decided = decided program fine_program

pub whole_decided : IsDecided whole
whole_decided = decided whole refl

pub rule_decided : (r : Rule) → IsDecided (rule r)
rule_decided r = decided (rule r) refl
