-- The obligations of lists of locks, where a set says which variables were named before.
use Rattle.std.specs.Prelude.{ℕ, List, [], ◌∷◌, ◌++◌, Bool, true, not, set}
use Rattle.cov_ast.specs.Syntax.{Lock, Program}
use Rattle.cov_ast.specs.Plain.{plain}
use Rattle.cov_ast.specs.Declarations.{name_of}
use Rattle.cov_ast.specs.Tables.{has, with_all}
use Rattle.cov_ast.specs.Obligations.{Obligation, declared_obligation}
use Rattle.cov_ast.specs.declared.refusal.Rule.TheVariants.{W4}
use Rattle.cov_ast.specs.declared.refusal.Detail.TheVariants.{One}

module _ (p : Program) where
  abbrev pub marked_obligation : Lock → (marks : List Bool) → ℕ → Obligation
  marked_obligation l marks x = declared_obligation W4 l.at (One (name_of (plain p) x)) (not (has marks x))

  abbrev pub marked_obligations : Lock → (marks : List Bool) → List ℕ → List Obligation
  marked_obligations l marks [] = []
  marked_obligations l marks (x ∷ xs) = marked_obligation l marks x ∷ marked_obligations l (set marks x true) xs

  abbrev pub marked_from : (marks : List Bool) → List Lock → List Obligation
  marked_from marks [] = []
  marked_from marks (l ∷ ls) = marked_obligations l marks (l.nowrite ++ l.hide) ++ marked_from (with_all marks (l.nowrite ++ l.hide)) ls
