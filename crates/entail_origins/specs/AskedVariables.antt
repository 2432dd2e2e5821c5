-- The variables whose types make up the goal of what is asked of a statement.
use Rattle.std.specs.Prelude.{ℕ, List, [], ◌∷◌, Option, Some, None, option_map}
use Rattle.cov_expr.specs.Term.{Term}
use Rattle.cov_expr.specs.Trees.{vars}
use Rattle.cov_ast.specs.Syntax.{Stm}
use Rattle.statement_parts.specs.Parts.{parts, untyped}
use Rattle.entail_origins.specs.declared.kinds.Question.{Question}
use Rattle.entail_origins.specs.declared.kinds.Question.TheVariants as q

-- the value that an assignment stores
abbrev pub assigned_value : Stm → Option Term
assigned_value s = option_map (λ k. k.value) (parts s).store

-- the value that an assignment stores, where its type is that of its variables
abbrev pub untyped_value : Stm → Option Term
untyped_value s = untyped (parts s).store

-- the variables of an expression, if there is one, each once by first occurrence
abbrev pub vars_of : Option Term → List ℕ
vars_of None = []
vars_of (Some e) = vars e

-- An invariant and a predicate are goals themselves, and no types make them up.
abbrev pub variables_of : Question → Stm → List ℕ
variables_of q.Written s = vars_of (assigned_value s)
variables_of (q.Shown x) s = vars_of (untyped_value s)
variables_of (q.Controlled y) s = y ∷ []
variables_of (q.Retyped z) s = z ∷ []
variables_of (q.Invariant l) s = []
variables_of (q.Freed x) s = x ∷ []
variables_of q.Guard s = vars_of (parts s).guard
variables_of q.HeadGuard s = vars_of (parts s).guard
variables_of q.Printed s = vars_of (parts s).printed
variables_of (q.Predicate end i) s = []
variables_of (q.TypeOf end z) s = z ∷ []
