-- What a call that makes an expression gives.
use Rattle.std.specs.Prelude.{◌≡◌, Option, Result, Ok, Err, option_map, IfSome}
use Rattle.cov_expr.specs.declared.expr.Expr.{Expr}
use Rattle.cov_expr.specs.declared.list.NoMemory.{NoMemory}
use Rattle.cov_expr.specs.Term.{Term}
use Rattle.cov_expr.specs.View.{term}
use Rattle.cov_expr.specs.Words.{HasWords}

-- the expression, which is made of words
abbrev pub Makes : Term → Result Expr NoMemory → Type 0
Makes e (Ok made) = (term made ≡ e) × HasWords e
Makes e (Err _) = Unit {0}

-- the expression that there is, if there is one
abbrev pub MakesAny : Option Term → Result (Option Expr) NoMemory → Type 0
MakesAny o (Ok made) = (option_map term made ≡ o) × IfSome o HasWords
MakesAny o (Err _) = Unit {0}
