-- The declared names of a text in a table.
use Rattle.std.specs.Prelude.{◌≡◌, ℕ, List, IsTrue, All}
use Rattle.std.specs.Str.{bytes_eq}
use Rattle.cov_expr.specs.Names.{IsName}
use Rattle.cov_ast.specs.Syntax.{Parsed}
use Rattle.cov_ast.specs.WellFormed.{are_distinct, names_of}
use Rattle.policy_class.specs.declared.names.Declared.{Declared}
use Rattle.policy_class.specs.Resolved.{Named}

-- a declaration's name with its place
abbrev pub declared_name : Declared → Named
declared_name d = record { name = d.name; at = d.at }

-- A table has the names of variables, then of locks, then of threads, which all differ.
pub record IsTableOf (p : Parsed) (table : List (List ℕ)) : Type 0 where
  pub names : table ≡ names_of p.vars p.locks p.threads
  pub texts : All IsName table
  pub differ : IsTrue (are_distinct bytes_eq table)
