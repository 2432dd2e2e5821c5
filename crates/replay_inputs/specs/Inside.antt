-- Words of private contracts: what is given of an expression. To believe what `covern` promises, nothing here need be read.
use Rattle.std.specs.Prelude.{◌≡◌, ℕ, List, map, codes, Some, None, Result, Ok, Err}
use Rattle.call_reports.specs.AnswerViews.{Stops}
use Rattle.call_reports.specs.Replies.{malformed}
use Rattle.call_reports.specs.declared.answers.Fault.TheVariants as f
use Rattle.call_reports.specs.declared.answers.FaultKind.TheVariants as k
use Rattle.call_reports.specs.declared.answers.Stop.{Stop}
use Rattle.cov_ast.specs.declared.decl.VarDecl.{VarDecl}
use Rattle.cov_expr.specs.View.{term}
use Rattle.cov_expr.specs.declared.expr.Expr.{Expr}
use Rattle.cov_text.specs.Text.{Expression}
use Rattle.replay_inputs.specs.Expressions.{by_id, first_unknown}

-- the names of declared variables, in their order
abbrev pub variables : List VarDecl → List (List ℕ)
variables vars = map (λ v. v.name) vars

-- The expression with each variable by the place of its declaration; or its first name that is no variable; or memory ran out.
abbrev pub ResolvesTo : (declared : List (List ℕ)) → Expression → Result Expr Stop → Type 0
ResolvesTo declared x (Ok e) = (first_unknown declared x.names x.uses ≡ None) × (term e ≡ by_id declared x.names x.expr)
ResolvesTo declared x (Err stop) =
    Stops (λ reply. (at : ℕ) × (first_unknown declared x.names x.uses ≡ Some at) × (reply ≡ malformed (codes "expression") (f.Text k.Unknown at))) stop
