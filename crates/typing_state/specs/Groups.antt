-- Which types may mention a variable, by groups of variables.
use Rattle.std.specs.Prelude.{◌≡◌, ℕ, ◌/◌, ◌<◌, List, [], get_or, not, Bool, true, false, Option, Some, None}
use Rattle.cov_expr.specs.Term.{Term}
use Rattle.cov_expr.specs.Trees.{mentions}
use Rattle.cov_expr.specs.declared.limits.TheConstants.{MOST_VARIABLES}
use Rattle.cov_ast.specs.Tables.{has}
use Rattle.typing_state.specs.declared.groups.TheConstants.{GROUP_SIZE}

-- whether a type, if there is one, doesn't mention a variable
abbrev pub is_free : (x : ℕ) → Option Term → Bool
is_free x None = true
is_free x (Some q) = not (mentions q x)

-- what a type of a variable mentions is in the set of the variable's group
abbrev pub AreGrouped : (groups : List (List Bool)) → List (Option Term) → Type 0
AreGrouped groups types = (k x : ℕ) → k < MOST_VARIABLES → x < MOST_VARIABLES → has (get_or groups (k / GROUP_SIZE) []) x ≡ false → is_free x (get_or types k None) ≡ true
