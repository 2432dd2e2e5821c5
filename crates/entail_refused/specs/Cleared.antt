-- What is mostly done where a store to a control makes a variable low that may not be public, and no other thread writes that: another value is stored to it.
use Rattle.std.specs.Prelude.{ℕ, List, [], ◌++◌, codes, if◌then◌else◌}
use Rattle.cov_ast.specs.Declarations.{name_of}
use Rattle.cov_ast.specs.Plain.{plain}
use Rattle.cov_ast.specs.Syntax.{Program}
use Rattle.cov_ast.specs.Tables.{has}
use Rattle.entail_origins.specs.declared.kinds.Question.{Question}
use Rattle.entail_origins.specs.declared.kinds.Question.TheVariants as q
use Rattle.statement_paths.specs.Paths.{Step}
use Rattle.statement_paths.specs.VariableSets.{stable_after_steps}

abbrev pub cleared_text : Program → (y : ℕ) → List ℕ
cleared_text p y = codes "  mostly a store of a public value to " ++ (name_of (plain p) y ++ codes " mends it, in front of this statement\n")

-- of a variable that no other thread writes behind these steps
abbrev pub line_if_stable : Program → (t : ℕ) → List Step → (y : ℕ) → List ℕ
line_if_stable p t steps y = if has (stable_after_steps (plain p) t steps) y then cleared_text p y else []

-- of what is asked of a variable since a control of it is stored to
abbrev pub cleared_line : Program → (t : ℕ) → List Step → Question → List ℕ
cleared_line p t steps q.Written = []
cleared_line p t steps (q.Shown x) = []
cleared_line p t steps (q.Controlled y) = line_if_stable p t steps y
cleared_line p t steps (q.Retyped z) = []
cleared_line p t steps (q.Invariant l) = []
cleared_line p t steps (q.Freed x) = []
cleared_line p t steps q.Guard = []
cleared_line p t steps q.HeadGuard = []
cleared_line p t steps q.Printed = []
cleared_line p t steps (q.Predicate end i) = []
cleared_line p t steps (q.TypeOf end z) = []
