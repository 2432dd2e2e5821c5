-- Texts and what is read of them.
use Rattle.std.proofs.Common.{◌≡◌, [], ◌∷◌, codes, refl, sym, Some, Ok, Err}
use Rattle.cov_expr.specs.Spellings.{is_keyword, kind_of, spellings}
use Rattle.risc_machine.specs.Faults.{fault_of}
use Rattle.risc_machine.specs.declared.parts.CodeBad.TheVariants as bad
use Rattle.risc_machine.specs.declared.parts.Instr.TheVariants.{Load, Store, Jump, MovR}
use Rattle.risc_machine.specs.declared.parts.Parts.{Parts}
use Rattle.code_text.specs.Listing.{listing}
use Rattle.code_text.specs.Inside.ListingReading.{pieces, read_text}
use Rattle.code_text.specs.ListingAnswers.{IsFaultyLine}
use Rattle.code_text.proofs.LineLaws.{faulty_line}
use Rattle.code_text.proofs.SoundLaws.{text_sound}

pub empty_text : read_text (pieces 10 []) ≡ Err 1
empty_text = refl

pub empty_text_line : IsFaultyLine [] 1
empty_text_line = faulty_line [] 1 empty_text

pub bad_register : read_text (pieces 10 (codes "code 1\nthread t 1\n1 load r8 a\n")) ≡ Err 3
unfolding is_keyword kind_of spellings
bad_register = refl

pub bad_register_line : IsFaultyLine (codes "code 1\nthread t 1\n1 load r8 a\n") 3
bad_register_line = faulty_line (codes "code 1\nthread t 1\n1 load r8 a\n") 3 bad_register

pub early_end : read_text (pieces 10 (codes "code 1\nthread t 2\n1 nop\n")) ≡ Err 4
unfolding is_keyword kind_of spellings
early_end = refl

pub early_end_line : IsFaultyLine (codes "code 1\nthread t 2\n1 nop\n") 4
early_end_line = faulty_line (codes "code 1\nthread t 2\n1 nop\n") 4 early_end

pub output_in_version_1 : read_text (pieces 10 (codes "code 1\nthread t 1\n1 out r0\n")) ≡ Err 3
unfolding is_keyword kind_of spellings
output_in_version_1 = refl

pub output_in_version_1_line : IsFaultyLine (codes "code 1\nthread t 1\n1 out r0\n") 3
output_in_version_1_line = faulty_line (codes "code 1\nthread t 1\n1 out r0\n") 3 output_in_version_1

abbrev pub jumping : Parts
jumping = record { version = 1; vars = []; locks = []; threads = record { name = codes "t"; lines = record { weight = 1; instr = Jump 5 } ∷ [] } ∷ [] }

pub jump_past : read_text (pieces 10 (codes "code 1\nthread t 1\n1 jump 5\n")) ≡ Ok jumping
unfolding is_keyword kind_of spellings
jump_past = refl

pub jump_past_is_bad : fault_of jumping ≡ Some (bad.BadTarget 0 0)
jump_past_is_bad = refl

abbrev pub twice : Parts
twice = record { version = 1; vars = codes "a" ∷ codes "a" ∷ []; locks = []; threads = [] }

pub same_name : read_text (pieces 10 (codes "code 1\nvar a\nvar a\n")) ≡ Ok twice
unfolding is_keyword kind_of spellings
same_name = refl

pub same_name_is_bad : fault_of twice ≡ Some (bad.SameName (codes "a"))
same_name_is_bad = refl

abbrev pub assigning : Parts
assigning = record {
  version = 1;
  vars = codes "a" ∷ codes "s" ∷ [];
  locks = [];
  threads = record {
    name = codes "t";
    lines = record { weight = 1; instr = Load 7 0 } ∷ record { weight = 0; instr = MovR 0 7 } ∷ record { weight = 1; instr = Store 1 0 } ∷ [];
  } ∷ [];
}

pub read_again : read_text (pieces 10 (codes "code 1\nvar a\nvar s\nthread t 3\n1 load r7 a\n0 movr r0 r7\n1 store s r0\n")) ≡ Ok assigning
unfolding is_keyword kind_of spellings
read_again = refl

pub listed : listing assigning ≡ codes "code 1\nvar a\nvar s\nthread t 3\n1 load r7 a\n0 movr r0 r7\n1 store s r0\n"
listed = sym (text_sound (codes "code 1\nvar a\nvar s\nthread t 3\n1 load r7 a\n0 movr r0 r7\n1 store s r0\n") assigning read_again)
