-- What is warned of in declarations: variables that no statement reads or writes, unless they are high or one thread's by its header, and invariants that
-- hold nowhere.
use Rattle.std.specs.Prelude.{ℕ, ◌+◌, ◌==◌, ◌&&◌, ◌||◌, List, [], ◌∷◌, ◌++◌, flat_map, Bool, true, false, if◌then◌else◌, Option, Some, None}
use Rattle.cov_expr.specs.Term.{Term, value}
use Rattle.cov_expr.specs.Trees.{is_closed}
use Rattle.cov_ast.specs.Plain.{Plain}
use Rattle.cov_ast.specs.Syntax.{Class, low, high, when, Var, Lock}
use Rattle.explain.specs.HoldsNowhere.{holds_nowhere}
use Rattle.explain.specs.StatementUses.{has_reader, has_writer}
use Rattle.explain.specs.declared.warning.Warning.{Warning}
use Rattle.explain.specs.declared.warning.Cause.{Cause}
use Rattle.explain.specs.declared.warning.Cause.TheVariants as c

-- a warning at a place
abbrev pub warned : (place : ℕ) → Cause → Warning
warned place cause = record { place = place; cause = cause }

-- Variables ----------------------------------------------------------------------------------------------------

abbrev pub is_high : Class → Bool
is_high low = false
is_high high = true
is_high (when e) = false

-- what is warned of a variable that has a reader, or none, and a writer, or none
abbrev pub of_use : Var → (read written : Bool) → List Warning
of_use v read written =
    (if read || is_high v.class then [] else warned v.at (c.NeverRead v.name) ∷ [])
    ++ (if written || is_high v.class then [] else warned v.at (c.NeverWritten v.name) ∷ [])

-- what is warned of variables, by declaration; the number is that of the first of them
abbrev pub of_variables : Plain → (x : ℕ) → List Var → List Warning
of_variables p x [] = []
of_variables p x (v ∷ vs) = of_use v (has_reader p x) (has_writer p x) ++ of_variables p (x + 1) vs

-- Locks --------------------------------------------------------------------------------------------------------

-- whether an expression is 0 without a look at memory
abbrev pub is_closed_false : Term → Bool
is_closed_false e = is_closed e && value e [] == 0

-- whether an invariant is there, and is 0 without a look at memory
abbrev pub is_zero_invariant : Option Term → Bool
is_zero_invariant None = false
is_zero_invariant (Some e) = is_closed_false e

-- whether an invariant is there, and is so, or is shown to hold in no memory
abbrev pub is_false : Option Term → Bool
is_false None = false
is_false (Some e) = is_closed_false e || holds_nowhere e

abbrev pub of_lock : Lock → List Warning
of_lock l = if is_false l.inv then warned l.at (c.FalseInvariant l.name) ∷ [] else []

-- Declarations -------------------------------------------------------------------------------------------------

-- what is warned of the declarations of a program, in their order
abbrev pub of_declarations : Plain → List Warning
of_declarations p = of_variables p 0 p.vars ++ flat_map of_lock p.locks
