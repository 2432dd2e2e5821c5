-- Words of private contracts: texts with the variables and locks of a program, and declarations that fit it.
use Rattle.std.specs.Prelude.{◌≡◌, List, [], length, map, None, All}
use Rattle.cov_ast.specs.Syntax.{Var, low, Lock, Thread, Program, Parsed}
use Rattle.cov_ast.specs.WellFormed.{BlockHasWords, IsBodyFine, IsSilent, IsThreadInRange}
use Rattle.policy_class.specs.Resolved.{resolved_thread}
use Rattle.thread_swap.specs.Binding.{lock_of, var_of}

-- threads alone, in a text with the names and uses of another
abbrev pub threads_in : Parsed → List Thread → Parsed
threads_in e ts = record { version = e.version; names = e.names; uses = e.uses; vars = []; locks = []; threads = ts }

abbrev pub bare_var : Var → Var
bare_var v = record { name = v.name; at = v.at; class = low }

abbrev pub bare_lock : Lock → Lock
bare_lock l = record { name = l.name; at = l.at; nowrite = []; hide = []; inv = None }

-- a text with the variables and locks of a program in the place of its own, of which the names alone are kept
abbrev pub over : Program → Parsed → Parsed
over p e = record {
  version = e.version;
  names = e.names;
  uses = e.uses;
  vars = map bare_var p.vars;
  locks = map bare_lock p.locks;
  threads = e.threads;
}

-- A declaration may stand in the place of any thread of a program: its ids are in range, its expressions of words, its body fine
-- and of the version of the program.
pub record IsFitting (p : Program) (d : Thread) : Type 0 where
  pub in_range : IsThreadInRange (length p.vars) (length p.locks) d
  pub words : BlockHasWords d.body
  pub body : IsBodyFine d.body
  pub silent : p.version ≡ 1 → IsSilent d.body

-- These are threads of a text by the ids of a program, and fit it.
abbrev pub AreBound : Program → Parsed → (threads made : List Thread) → Type 0
AreBound p e threads made = (made ≡ map (resolved_thread (var_of p e) (lock_of p e)) threads) × All (IsFitting p) made
