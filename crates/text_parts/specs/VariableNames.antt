-- The names of the variables of a program, by their ids.
use Rattle.std.specs.Prelude.{ℕ, List, ◌++◌, codes, map}
use Rattle.cov_ast.specs.Declarations.{name_of}
use Rattle.cov_ast.specs.Plain.{Plain}
use Rattle.cov_ast.specs.Syntax.{Var}

abbrev pub variable_names : List Var → List (List ℕ)
variable_names vars = map (λ v. v.name) vars

-- behind a blank
abbrev pub spaced_name : Plain → (x : ℕ) → List ℕ
spaced_name p x = codes " " ++ name_of p x
