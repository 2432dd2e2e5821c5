-- Declarations that may stand in the place of the thread of a program that has their name.
use Rattle.std.specs.Prelude.{◌≡◌, ℕ, List, map, IsTrue}
use Rattle.std.specs.List.{position_or_len}
use Rattle.std.specs.Str.{bytes_eq}
use Rattle.cov_ast.specs.Syntax.{Thread, Program}
use Rattle.cov_ast.specs.WellFormed.{IsWellFormed}
use Rattle.policy_class.specs.Resolved.{is_among}
use Rattle.thread_swap.specs.Swaps.{swapped}

abbrev pub thread_names : Program → List (List ℕ)
thread_names p = map (λ t. t.name) p.threads

-- It has the name of a thread of the program.
abbrev pub IsNamed : Program → Thread → Type 0
IsNamed p d = IsTrue (is_among (thread_names p) d.name)

-- the number of the thread with a name
abbrev pub thread_named : Program → List ℕ → ℕ
thread_named p name = position_or_len (bytes_eq name) (thread_names p)

-- The programs have the same version, variables and locks, and threads of the same names in the same order.
pub record AreAlike (p q : Program) : Type 0 where
  pub version : q.version ≡ p.version
  pub vars : q.vars ≡ p.vars
  pub locks : q.locks ≡ p.locks
  pub names : thread_names q ≡ thread_names p

-- A declaration has the name of a thread of a program, and each well formed program that is alike stays well formed with the
-- declaration in the place of its thread of this name.
pub record IsReplacement (p : Program) (d : Thread) : Type 0 where
  pub named : IsNamed p d
  pub formed : (q : Program) → AreAlike p q → IsWellFormed q → IsWellFormed (swapped q (thread_named q d.name) d)
