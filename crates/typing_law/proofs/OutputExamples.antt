-- Programs with outputs of which the verdict is known, by computation.
use Rattle.std.proofs.Common.{◌≡◌, [], ◌∷◌, None, refl}
use Rattle.cov_expr.specs.declared.expr.Op.TheVariants.{Add}
use Rattle.cov_expr.specs.Term.{const, var, bin}
use Rattle.cov_ast.specs.Syntax.{low, high, when, lock, branch, note, output, Program}
use Rattle.cov_ast.specs.Syntax as by
use Rattle.cov_ast.specs.Declarations.{no_modes}
use Rattle.cov_ast.specs.Plain.{no_state, plain}
use Rattle.cov_ast.specs.View.{block_of}
use Rattle.cov_ast.specs.Obligations.{first_false}
use Rattle.cov_ast.specs.declared.refusal.Rule.TheVariants.{V1, V3, V9, V10, V13}
use Rattle.cov_ast.specs.declared.refusal.Detail.TheVariants.{Nothing, One, Number}
use Rattle.point_law.specs.Point.{Point}
use Rattle.typing_law.specs.Blocks.{after_stm}
use Rattle.typing_law.specs.ThreadObligations.{thread_obligations}
use Rattle.typing_law.specs.Counts.{counts}
use Rattle.typing_law.proofs.Examples.{variable, lock_of, thread_of, stm, proof, refused, says, modes_of, one_plus, is_zero}

-- version 2; var a: low; thread t { output a; }
abbrev puts_low : Program
puts_low = record {
  version = 2;
  vars = variable (97 ∷ []) 15 low ∷ [];
  locks = [];
  threads = thread_of (116 ∷ []) 30 no_modes (block_of (stm 34 (output (var 0)) [] ∷ [])) 44 ∷ [];
}

puts_low-accepted : first_false (thread_obligations puts_low 0) ≡ None
puts_low-accepted = refl

puts_low-counts : counts puts_low 0 ≡ record { statements = 1; entailments = 1 }
puts_low-counts = refl

-- an output leaves the point as it is
puts_low-stays : (a : Point) → after_stm (plain puts_low) 0 (output (var 0)) a ≡ a
puts_low-stays a = refl

-- version 2; var s: high; thread t { output s; }
abbrev puts_high : Program
puts_high = record {
  version = 2;
  vars = variable (115 ∷ []) 15 high ∷ [];
  locks = [];
  threads = thread_of (116 ∷ []) 31 no_modes (block_of (stm 35 (output (var 0)) [] ∷ [])) 45 ∷ [];
}

puts_high-refused : first_false (thread_obligations puts_high 0) ≡ refused V9 0 35 (Number 1)
puts_high-refused = refl

-- Where the class of a variable holds, it may be put out, and each output counts: version 2; var c: low; var b: low when
-- c == 0; thread t assume nowrite c, b { if c == 0 { output b; } else { output 1; } }
abbrev puts_where_low : Program
puts_where_low = record {
  version = 2;
  vars = variable (99 ∷ []) 15 low ∷ variable (98 ∷ []) 27 (when is_zero) ∷ [];
  locks = [];
  threads =
      thread_of (116 ∷ []) 54 (modes_of (0 ∷ 1 ∷ []) [] [] []) (block_of (
      stm 78 (branch is_zero (block_of (stm 90 (output (var 1)) [] ∷ [])) (block_of (stm 109 (output (const 1)) [] ∷ [])) no_state) [] ∷ [])) 121 ∷ [];
}

puts_where_low-accepted : first_false (thread_obligations puts_where_low 0) ≡ None
puts_where_low-accepted = refl

puts_where_low-counts : counts puts_where_low 0 ≡ record { statements = 3; entailments = 3 }
puts_where_low-counts = refl

-- An output tells nothing of its value: version 2; var x: low; thread t assume nowrite x { output x; note { x }; }
abbrev puts_and_notes : Program
puts_and_notes = record {
  version = 2;
  vars = variable (120 ∷ []) 15 low ∷ [];
  locks = [];
  threads =
      thread_of (116 ∷ []) 30 (modes_of (0 ∷ []) [] [] []) (block_of (
      stm 51 (output (var 0)) []
      ∷ stm 61 (note (says (var 0 ∷ []) [])) [] ∷ [])) 73 ∷ [];
}

puts_and_notes-refused : first_false (thread_obligations puts_and_notes 0) ≡ refused V9 0 61 (Number 1)
puts_and_notes-refused = refl

-- version 2; var b: high; lock l hide b; thread t { output b; }
abbrev puts_hidden : Program
puts_hidden = record {
  version = 2;
  vars = variable (98 ∷ []) 15 high ∷ [];
  locks = lock_of (108 ∷ []) 29 [] (0 ∷ []) None ∷ [];
  threads = thread_of (116 ∷ []) 46 no_modes (block_of (stm 50 (output (var 0)) [] ∷ [])) 60 ∷ [];
}

puts_hidden-refused : first_false (thread_obligations puts_hidden 0) ≡ refused V1 0 50 (One (98 ∷ []))
puts_hidden-refused = refl

-- version 2; var a: low; var b: low; thread t { output a + b; }
abbrev puts_two : Program
puts_two = record {
  version = 2;
  vars = variable (97 ∷ []) 15 low ∷ variable (98 ∷ []) 27 low ∷ [];
  locks = [];
  threads = thread_of (116 ∷ []) 42 no_modes (block_of (stm 46 (output (bin Add (var 0) (var 1))) [] ∷ [])) 60 ∷ [];
}

puts_two-refused : first_false (thread_obligations puts_two 0) ≡ refused V3 0 46 Nothing
puts_two-refused = refl

-- version 2; thread t { output 1 + (1 + (1 + (1 + (1 + (1 + (1 + 1)))))); }
abbrev puts_wide : Program
puts_wide = record {
  version = 2;
  vars = [];
  locks = [];
  threads =
      thread_of (116 ∷ []) 18 no_modes (block_of (
      stm 22 (output (one_plus (one_plus (one_plus (one_plus (one_plus (one_plus (one_plus (const 1))))))))) [] ∷ [])) 72 ∷ [];
}

puts_wide-refused : first_false (thread_obligations puts_wide 0) ≡ refused V10 0 22 Nothing
puts_wide-refused = refl

-- version 2; var a: low; thread t { output a by { 2: auto }; }
abbrev puts_with_second_proof : Program
puts_with_second_proof = record {
  version = 2;
  vars = variable (97 ∷ []) 15 low ∷ [];
  locks = [];
  threads = thread_of (116 ∷ []) 30 no_modes (block_of (stm 34 (output (var 0)) (proof 2 by.auto ∷ []) ∷ [])) 59 ∷ [];
}

puts_with_second_proof-refused : first_false (thread_obligations puts_with_second_proof 0) ≡ refused V13 0 34 (Number 2)
puts_with_second_proof-refused = refl
