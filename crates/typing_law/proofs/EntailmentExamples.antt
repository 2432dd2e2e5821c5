-- Threads of which the entailments are known, by computation: which are listed, and what each asks.
use Rattle.std.proofs.Common.{◌≡◌, ℕ, List, [], ◌∷◌, Some, None, refl}
use Rattle.cov_expr.specs.declared.expr.Op.TheVariants.{Eq}
use Rattle.cov_expr.specs.Term.{Term, const, var, bin}
use Rattle.cov_ast.specs.Syntax.{low, high, assign, branch, Program}
use Rattle.cov_ast.specs.Declarations.{no_modes}
use Rattle.cov_ast.specs.Plain.{no_state}
use Rattle.cov_ast.specs.View.{block_of}
use Rattle.typing_law.specs.ThreadEntailments.{PlacedEntailment, thread_entailments}
use Rattle.typing_law.proofs.Examples.{is_zero, lowers, raises, raises_unproved, stm, stores_high, thread_of, variable}

abbrev asks : (place number : ℕ) → List Term → Term → PlacedEntailment
asks place number hyps goal = record { place = place; number = number; entailment = record { hyps = hyps; goal = goal } }

-- the first variable is 1
abbrev is_one : Term
is_one = bin Eq (var 0) (const 1)

-- var mode: low; var buf: low when mode == 0; var key: high; lock l hide mode, buf; thread w { lock l; buf := key; mode
-- := 1; unlock l by { .. }; }
raises-listed : thread_entailments raises 0 ≡ asks 113 1 (const 1 ∷ []) (const 1) ∷ asks 124 1 (is_one ∷ is_zero ∷ []) (const 0) ∷ []
raises-listed = refl

-- the same without its certificate
raises_unproved-listed : thread_entailments raises_unproved 0 ≡ thread_entailments raises 0
raises_unproved-listed = refl

-- var a: low; var s: high; thread t { a := s; }
stores_high-listed : thread_entailments stores_high 0 ≡ asks 36 1 (const 1 ∷ []) (const 0) ∷ []
stores_high-listed = refl

-- var a: low; var s: high; thread t { a := s; a := s; }
abbrev stores_twice : Program
stores_twice = record {
  version = 1;
  vars = variable (97 ∷ []) 4 low ∷ variable (115 ∷ []) 16 high ∷ [];
  locks = [];
  threads =
      thread_of (116 ∷ []) 32 no_modes (block_of (stm 36 (assign 0 (var 1) None []) [] ∷ stm 44 (assign 0 (var 1) None []) [] ∷ [])) 52 ∷ [];
}

-- an entailment without a valid certificate (V9) stops nothing
stores_twice-listed : thread_entailments stores_twice 0 ≡ asks 36 1 (const 1 ∷ []) (const 0) ∷ asks 44 1 (const 1 ∷ []) (const 0) ∷ []
stores_twice-listed = refl

-- var x: low; var y: low; thread t { x := 0; x := y as y; x := 0; }
abbrev types_by_low : Program
types_by_low = record {
  version = 1;
  vars = variable (120 ∷ []) 4 low ∷ variable (121 ∷ []) 16 low ∷ [];
  locks = [];
  threads =
      thread_of (116 ∷ []) 31 no_modes (block_of (
      stm 35 (assign 0 (const 0) None []) []
      ∷ stm 43 (assign 0 (var 1) (Some (var 1)) []) []
      ∷ stm 56 (assign 0 (const 0) None []) [] ∷ [])) 64 ∷ [];
}

-- a type over what is no control (V4) stops all behind it, and the entailments of its statement
types_by_low-listed : thread_entailments types_by_low 0 ≡ asks 35 1 (const 1 ∷ []) (const 1) ∷ []
types_by_low-listed = refl

-- var x: low; thread t { if x { x := 0; } else { } x := 0; }
abbrev forks : Program
forks = record {
  version = 1;
  vars = variable (120 ∷ []) 4 low ∷ [];
  locks = [];
  threads =
      thread_of (116 ∷ []) 18 no_modes (block_of (
      stm 22 (branch (var 0) (block_of (stm 29 (assign 0 (const 0) None []) [] ∷ [])) (block_of []) no_state) []
      ∷ stm 47 (assign 0 (const 0) None []) [] ∷ [])) 55 ∷ [];
}

forks-listed : thread_entailments forks 0 ≡ asks 22 1 [] (const 1) ∷ asks 29 1 (const 1 ∷ []) (const 1) ∷ asks 47 1 (const 1 ∷ []) (const 1) ∷ []
forks-listed = refl

-- var mode: low; var buf: low when mode == 0; var key: high; lock l nowrite mode, buf; thread w { lock l; mode := 1; buf
-- := key by { .. }; mode := 0; unlock l; }
lowers-listed : thread_entailments lowers 0 ≡
    asks 104 1 (const 1 ∷ []) (const 1)
    ∷ asks 104 2 (bin Eq (const 1) (const 0) ∷ []) is_zero
    ∷ asks 115 1 (is_one ∷ is_zero ∷ []) (const 0)
    ∷ asks 186 1 (is_one ∷ const 1 ∷ []) (const 1)
    ∷ asks 186 2 (is_one ∷ bin Eq (const 0) (const 0) ∷ []) (const 0) ∷ []
lowers-listed = refl
