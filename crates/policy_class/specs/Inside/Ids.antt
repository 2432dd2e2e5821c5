-- The ids that the names of a text have in tables.
use Rattle.std.specs.Prelude.{◌≡◌, ℕ, length, get_or, Bool, nat_lt, if◌then◌else◌}
use Rattle.cov_ast.specs.Syntax.{Parsed}
use Rattle.cov_ast.specs.declared.parsed.NameUse.{NameUse}
use Rattle.policy_class.specs.Resolved.{var_id, lock_id}
use Rattle.policy_class.specs.declared.ids.Ids.{Ids}

-- the id of a variable by the number of its name; past the table none is declared
abbrev pub var_in : Ids → ℕ → ℕ
var_in t number = get_or t.vars number t.var_count

abbrev pub lock_in : Ids → ℕ → ℕ
lock_in t number = get_or t.locks number t.lock_count

-- whether a name has an id as what it is used
abbrev pub has_id : Ids → NameUse → Bool
has_id t u = if u.lock then nat_lt (lock_in t u.name) t.lock_count else nat_lt (var_in t u.name) t.var_count

-- Tables have the ids that the declarations of a text give.
pub record AreIdsOf (p : Parsed) (t : Ids) : Type 0 where
  pub variables : (number : ℕ) → var_in t number ≡ var_id p number
  pub locks : (number : ℕ) → lock_in t number ≡ lock_id p number
  pub var_count : t.var_count ≡ length p.vars
  pub lock_count : t.lock_count ≡ length p.locks
