-- The obligations of modes, where sets say which variables are locked, kept and guaranteed.
use Rattle.std.specs.Prelude.{ℕ, List, [], ◌∷◌, Bool, not, map}
use Rattle.cov_expr.specs.Trees.{has_number}
use Rattle.cov_ast.specs.Syntax.{Lock, Thread, Program}
use Rattle.cov_ast.specs.Declarations.{have_guaranteed}
use Rattle.cov_ast.specs.Tables.{has, table, with_all}
use Rattle.cov_ast.specs.Obligations.{Obligation, declared_obligation}
use Rattle.cov_ast.specs.declared.refusal.Rule.{Rule}
use Rattle.cov_ast.specs.declared.refusal.Rule.TheVariants.{W6}
use Rattle.cov_ast.specs.declared.refusal.Detail.TheVariants.{One, Two}
use Rattle.cov_ast.specs.declared.decl.ThreadDecl.{ThreadDecl}
use Rattle.cov_ast.specs.View as view
use Rattle.mode_compat.specs.Compatible.{shown, controls_of, w9_obligation}

-- with the variables of locks
abbrev pub with_locks : (marks : List Bool) → List Lock → List Bool
with_locks marks [] = marks
with_locks marks (l ∷ ls) = with_locks (with_all (with_all marks l.nowrite) l.hide) ls

-- the sets of what a thread guarantees not to write and to leave alone, of the variables below a bound
abbrev pub guaranteed_by : (bound : ℕ) → ThreadDecl → List Bool × List Bool
guaranteed_by bound u = (table bound (have_guaranteed (view.modes u.modes)), table bound (has_number (view.modes u.modes).guarantee_hide))

module _ (p : Program) where
  -- none of the set is assumed
  abbrev pub apart_obligation : Thread → (marks : List Bool) → ℕ → Obligation
  apart_obligation t marks x = declared_obligation W6 t.at (One (shown p x)) (not (has marks x))

  abbrev pub kept_obligation : Rule → (place : ℕ) → (marks : List Bool) → (x c : ℕ) → Obligation
  kept_obligation rule place marks x c = declared_obligation rule place (Two (shown p x) (shown p c)) (has marks c)

  -- each control of a variable is in the set
  abbrev pub kept_obligations : Rule → (place : ℕ) → (marks : List Bool) → ℕ → List Obligation
  kept_obligations rule place marks x = map (kept_obligation rule place marks x) (controls_of p x)

  -- what a thread assumes is in the set
  abbrev pub met_obligation : (t u : Thread) → (marks : List Bool) → ℕ → Obligation
  met_obligation t u marks x = w9_obligation p t u x (has marks x)
