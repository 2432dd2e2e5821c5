-- The first lock that a variable is under.
use Rattle.std.specs.Prelude.{ℕ, List, [], ◌∷◌, if◌then◌else◌, Option, Some, None}
use Rattle.cov_ast.specs.Declarations.{lists}
use Rattle.cov_ast.specs.Syntax.{Lock}

-- the first that has it in a list, if there is one
abbrev pub lock_over : (x : ℕ) → List Lock → Option Lock
lock_over x [] = None
lock_over x (l ∷ ls) = if lists l x then Some l else lock_over x ls
