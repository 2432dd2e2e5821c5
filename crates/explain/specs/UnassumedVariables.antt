-- What every other thread guarantees of a variable, and the thread of a refusal doesn't assume: of variables under no lock, where there are other threads.
use Rattle.std.specs.Prelude.{ℕ, ◌+◌, ◌==◌, nat_le, nat_lt, List, [], ◌∷◌, ◌++◌, length, flat_map, Bool, true, not, ◌&&◌, codes, is_none, if◌then◌else◌, Option, Some, None}
use Rattle.cov_ast.specs.Declarations.{have_assumed, have_guaranteed}
use Rattle.cov_ast.specs.Plain.{plain}
use Rattle.cov_ast.specs.Syntax.{Modes, Program, Thread, Var}
use Rattle.entail_origins.specs.LocksOver.{lock_over}
use Rattle.text_parts.specs.VariableNames.{spaced_name}

-- Which are told --------------------------------------------------------------------------------------------------

-- Whether a thread assumes nothing of a variable, where it is the one that may; another guarantees that it doesn't write it.
abbrev pub is_met : Modes → (is_assuming : Bool) → (x : ℕ) → Bool
is_met m is_assuming x = if is_assuming then not (have_assumed m x) else have_guaranteed m x

-- the same of threads, of which the first has this number
abbrev pub are_met : (t x u : ℕ) → List Thread → Bool
are_met t x u [] = true
are_met t x u (thread ∷ threads) = is_met thread.modes (u == t) x && are_met t x (u + 1) threads

module _ (p : Program) (t : ℕ) where
  abbrev pub is_unassumed : (x : ℕ) → Bool
  is_unassumed x = nat_le 2 (length p.threads) && is_none (lock_over x p.locks) && are_met t x 0 p.threads

  abbrev pub with_one : (found : List ℕ) → (x : ℕ) → List ℕ
  with_one found x = if nat_lt (length found) 4 && is_unassumed x then found ++ x ∷ [] else found

  -- those of variables, of which the first has this number
  abbrev pub with_unassumed : (found : List ℕ) → (x : ℕ) → List Var → List ℕ
  with_unassumed found x [] = found
  with_unassumed found x (v ∷ vs) = with_unassumed (with_one found x) (x + 1) vs

-- The line --------------------------------------------------------------------------------------------------------

abbrev pub line_of : Program → List ℕ → List ℕ
line_of p xs = codes "  not assumed: " ++ (flat_map (spaced_name (plain p)) xs ++ codes "   (each other thread guarantees `nowrite` or `hide` of it)\n")

abbrev pub unless_none : Program → List ℕ → List ℕ
unless_none p [] = []
unless_none p (x ∷ xs) = line_of p (x ∷ xs)

abbrev pub line_of_thread : Program → (t : ℕ) → List ℕ
line_of_thread p t = unless_none p (with_unassumed p t [] 0 p.vars)

-- of a refusal that names a thread
abbrev pub unassumed_line : Program → (thread : Option ℕ) → List ℕ
unassumed_line p None = []
unassumed_line p (Some t) = line_of_thread p t
