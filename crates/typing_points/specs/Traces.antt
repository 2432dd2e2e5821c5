-- Of which point the code keeps what it keeps, if of any, and what points are built for.
use Rattle.std.specs.Prelude.{◌≡◌, ℕ, ◌<◌, List, length, true, false, All, Option, Some, None}
use Rattle.cov_expr.specs.Term.{Term}
use Rattle.cov_ast.specs.Plain.{Plain, plain}
use Rattle.cov_ast.specs.View as view
use Rattle.cov_ast.specs.WellFormed.{IsWellFormed}
use Rattle.point_law.specs.Point as spec
use Rattle.statement_paths.specs.Paths.{Step}
use Rattle.typing_law.specs.Blocks.{value_type}
use Rattle.typing_state.specs.KeptPoints.{Keeps}
use Rattle.typing_state.specs.declared.point.Point.{Point}
use Rattle.typing_points.specs.PointsBehind.{IsStepInRange, has_few_conjuncts}
use Rattle.typing_points.specs.declared.passing.Trace.{Trace}

-- What is kept is kept of this point, if there is one.
abbrev pub KeepsAny : Plain → (t : ℕ) → Option spec.Point → Option Point → Type 0
KeepsAny p t None None = Unit {0}
KeepsAny p t (Some a) (Some kept) = Keeps p t a kept
KeepsAny p t a kept = ⊥

-- The program is well formed, and has the thread.
pub record IsTrace (w : Trace) : Type 0 where
  pub formed : IsWellFormed (view.program w.program.now)
  pub thread : w.thread < length w.program.now.threads

-- What steps are about has ids of the program.
abbrev pub AreInRange : Trace → List Step → Type 0
AreInRange w steps = All (IsStepInRange (length w.program.now.vars) (length w.program.now.locks)) steps

-- the program, without its annotations
abbrev pub plain_of : Trace → Plain
plain_of w = plain (view.program w.program.now)

-- What is there is the type of an assigned value at a point, where that is written or has few conjuncts, and else nothing is.
abbrev pub IsValueType : Plain → (t : ℕ) → spec.Point → (written : Option Term) → Term → Option Term → Type 0
IsValueType p t a written e None = has_few_conjuncts p t a written e ≡ false
IsValueType p t a written e (Some q) = (has_few_conjuncts p t a written e ≡ true) × (q ≡ value_type p t a written e)
