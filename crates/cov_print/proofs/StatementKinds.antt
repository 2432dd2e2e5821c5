-- What the statements with states and blocks are as plain data.
use Rattle.std.proofs.Common.{◌≡◌, sym, ap, ◌∙◌, List}
use Rattle.cov_expr.specs.View.{term}
use Rattle.cov_expr.specs.declared.expr.Expr.{Expr}
use Rattle.cov_ast.specs.Syntax as s
use Rattle.cov_ast.specs.View as view
use Rattle.cov_ast.specs.declared.state.State.{State}
use Rattle.cov_ast.specs.declared.stmt.Stmt.{Stmt}
use Rattle.cov_ast.specs.declared.stmt.StmtKind.{StmtKind-F, fold-roll-StmtKind}
use Rattle.cov_ast.specs.declared.stmt.StmtKind.TheVariants as kinds

pub note_is : (j : State) → view.kind (kinds.Note j) ≡ s.note (view.state j)
note_is j = ap view.kind (sym (kinds.rolls-Note j)) ∙ fold-roll-StmtKind _ _ view.kind_step view.stmt_step (StmtKind-F.Note j)

pub branch_is : (e : Expr) (a b : List Stmt) (j : State) → view.kind (kinds.If e a b j) ≡ s.branch (term e) (view.block a) (view.block b) (view.state j)
branch_is e a b j = ap view.kind (sym (kinds.rolls-If e a b j)) ∙ fold-roll-StmtKind _ _ view.kind_step view.stmt_step (StmtKind-F.If e a b j)

pub loop_is : (e : Expr) (j : State) (b : List Stmt) → view.kind (kinds.While e j b) ≡ s.loop (term e) (view.state j) (view.block b)
loop_is e j b = ap view.kind (sym (kinds.rolls-While e j b)) ∙ fold-roll-StmtKind _ _ view.kind_step view.stmt_step (StmtKind-F.While e j b)
