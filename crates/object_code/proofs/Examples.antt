-- Objects, and what is read of bytes.
use Rattle.std.proofs.Common.{◌≡◌, ℕ, List, [], ◌∷◌, ◌++◌, codes, refl, Ok, Err}
use Rattle.cov_expr.specs.Spellings.{is_keyword, kind_of, spellings}
use Rattle.cov_expr.specs.declared.expr.Op.TheVariants as op
use Rattle.risc_machine.specs.declared.parts.Instr.TheVariants.{Load, Store, Jump, Jz, Nop, MovC, MovR, Bin, Acquire, Release, Out}
use Rattle.risc_machine.specs.declared.parts.Parts.{Parts}
use Rattle.object_code.specs.Object.{object}
use Rattle.object_code.specs.ObjectAnswers.{IsFaultyByte}
use Rattle.object_code.specs.Inside.ObjectReading.{read_all, parts_at, front_at, version_at, magic_at, within_at, names_at, number_at, digit_at, name_at, text_at, threads_at, thread_at, thread_head_at, line_at, head_at, head_of, register_at, operator_at, register_number_at, registers_at, operands_at}
use Rattle.object_code.proofs.Whole.{stop_is_faulty}

-- one thread with the one line `1 nop`
abbrev one_line : Parts
one_line = record { version = 1; vars = []; locks = []; threads = record { name = codes "t"; lines = record { weight = 1; instr = Nop } ∷ [] } ∷ [] }

-- all but the last byte of its object
abbrev front : List ℕ
front = 0x43 ∷ 0x4F ∷ 0x56 ∷ 0x4F ∷ 0x01 ∷ 0 ∷ 0 ∷ 0 ∷ 0 ∷ 0 ∷ 0 ∷ 0 ∷ 0 ∷ 1 ∷ 0 ∷ 0 ∷ 0 ∷ 1 ∷ 0x74 ∷ 1 ∷ 0 ∷ 0 ∷ 0 ∷ []

pub one_line_object : object one_line ≡ front ++ 0x14 ∷ []
one_line_object = refl

pub one_line_read : read_all (front ++ 0x14 ∷ []) ≡ Ok one_line
unfolding parts_at front_at version_at magic_at within_at names_at number_at digit_at name_at text_at threads_at thread_at thread_head_at line_at head_at head_of operands_at is_keyword kind_of spellings
one_line_read = refl

-- a weight of 3
pub weight_of_3 : read_all (front ++ 0x34 ∷ []) ≡ Err 1
unfolding parts_at front_at version_at magic_at within_at names_at number_at digit_at name_at text_at threads_at thread_at thread_head_at line_at head_at head_of operands_at is_keyword kind_of spellings
weight_of_3 = refl

pub weight_of_3_at : IsFaultyByte (front ++ 0x34 ∷ []) 23
weight_of_3_at = stop_is_faulty (front ++ 0x34 ∷ []) 1 weight_of_3

pub ends_early : read_all front ≡ Err 0
unfolding parts_at front_at version_at magic_at within_at names_at number_at digit_at name_at text_at threads_at thread_at thread_head_at line_at head_at head_of operands_at is_keyword kind_of spellings
ends_early = refl

pub ends_early_at : IsFaultyByte front 23
ends_early_at = stop_is_faulty front 0 ends_early

pub ends_late : read_all (front ++ 0x14 ∷ 0 ∷ []) ≡ Err 1
unfolding parts_at front_at version_at magic_at within_at names_at number_at digit_at name_at text_at threads_at thread_at thread_head_at line_at head_at head_of operands_at is_keyword kind_of spellings
ends_late = refl

pub ends_late_at : IsFaultyByte (front ++ 0x14 ∷ 0 ∷ []) 24
ends_late_at = stop_is_faulty (front ++ 0x14 ∷ 0 ∷ []) 1 ends_late

-- an output in version 1
pub output_in_version_1 : read_all (front ++ 0x1A ∷ []) ≡ Err 1
unfolding parts_at front_at version_at magic_at within_at names_at number_at digit_at name_at text_at threads_at thread_at thread_head_at line_at head_at head_of operands_at is_keyword kind_of spellings
output_in_version_1 = refl

-- a load where no variable is declared, whatever follows
pub load_of_nothing : read_all (front ++ 0x10 ∷ 0 ∷ []) ≡ Err 2
unfolding parts_at front_at version_at magic_at within_at names_at number_at digit_at name_at text_at threads_at thread_at thread_head_at line_at head_at head_of operands_at is_keyword kind_of spellings
load_of_nothing = refl

-- a variable that is a keyword: `if`
pub keyword : read_all (0x43 ∷ 0x4F ∷ 0x56 ∷ 0x4F ∷ 1 ∷ 1 ∷ 0 ∷ 0 ∷ 0 ∷ 2 ∷ 0x69 ∷ 0x66 ∷ []) ≡ Err 1
unfolding parts_at front_at version_at magic_at within_at names_at number_at digit_at name_at text_at is_keyword kind_of spellings
keyword = refl

-- code with each instruction
abbrev each : Parts
each = record {
  version = 2;
  vars = codes "x" ∷ codes "y" ∷ [];
  locks = codes "l" ∷ [];
  threads = record {
    name = codes "t";
    lines = record { weight = 1; instr = Acquire 0 }
        ∷ record { weight = 1; instr = Load 7 1 }
        ∷ record { weight = 0; instr = MovR 0 7 }
        ∷ record { weight = 0; instr = MovC 1 0x01020304 }
        ∷ record { weight = 0; instr = Bin op.Either 0 1 }
        ∷ record { weight = 1; instr = Jz 0 8 }
        ∷ record { weight = 2; instr = Store 0 0 }
        ∷ record { weight = 0; instr = Jump 9 }
        ∷ record { weight = 1; instr = Nop }
        ∷ record { weight = 2; instr = Out 0 }
        ∷ record { weight = 1; instr = Release 0 }
        ∷ [];
  } ∷ [];
}

abbrev each_bytes : List ℕ
each_bytes =
    (0x43 ∷ 0x4F ∷ 0x56 ∷ 0x4F ∷ 2 ∷ [])
    ++ (2 ∷ 0 ∷ 0 ∷ 0 ∷ 1 ∷ 0x78 ∷ 1 ∷ 0x79 ∷ [])
    ++ (1 ∷ 0 ∷ 0 ∷ 0 ∷ 1 ∷ 0x6C ∷ [])
    ++ (1 ∷ 0 ∷ 0 ∷ 0 ∷ 1 ∷ 0x74 ∷ 11 ∷ 0 ∷ 0 ∷ 0 ∷ [])
    ++ (0x18 ∷ 0 ∷ 0 ∷ 0 ∷ 0 ∷ [])
    ++ (0x10 ∷ 7 ∷ 1 ∷ 0 ∷ 0 ∷ 0 ∷ [])
    ++ (0x06 ∷ 0 ∷ 7 ∷ [])
    ++ (0x05 ∷ 1 ∷ 4 ∷ 3 ∷ 2 ∷ 1 ∷ [])
    ++ (0x07 ∷ 11 ∷ 0 ∷ 1 ∷ [])
    ++ (0x13 ∷ 0 ∷ 8 ∷ 0 ∷ 0 ∷ 0 ∷ [])
    ++ (0x21 ∷ 0 ∷ 0 ∷ 0 ∷ 0 ∷ 0 ∷ [])
    ++ (0x02 ∷ 9 ∷ 0 ∷ 0 ∷ 0 ∷ [])
    ++ (0x14 ∷ [])
    ++ (0x2A ∷ 0 ∷ [])
    ++ (0x19 ∷ 0 ∷ 0 ∷ 0 ∷ 0 ∷ [])

pub each_object : object each ≡ each_bytes
each_object = refl

pub each_read : read_all each_bytes ≡ Ok each
unfolding parts_at front_at version_at magic_at within_at names_at number_at digit_at name_at text_at threads_at thread_at thread_head_at line_at head_at head_of register_at operator_at register_number_at registers_at operands_at is_keyword kind_of spellings
each_read = refl
