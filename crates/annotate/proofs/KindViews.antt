-- What the view of what a statement does is, of one with blocks.
use Rattle.std.proofs.Common.{◌≡◌, ap, ◌∙◌, sym}
use Rattle.cov_expr.specs.View.{term}
use Rattle.cov_ast.specs.Syntax as s
use Rattle.cov_ast.specs.View as view
use Rattle.cov_ast.specs.declared.stmt.StmtKind.{StmtKind-F, fold-roll-StmtKind}
use Rattle.cov_ast.specs.declared.stmt.StmtKind.TheVariants as kinds

pub kind-If : (e a b j : _) → view.kind (kinds.If e a b j) ≡ s.branch (term e) (view.block a) (view.block b) (view.state j)
kind-If e a b j = ap view.kind (sym (kinds.rolls-If e a b j)) ∙ fold-roll-StmtKind _ _ view.kind_step view.stmt_step (StmtKind-F.If e a b j)

pub kind-While : (e j b : _) → view.kind (kinds.While e j b) ≡ s.loop (term e) (view.state j) (view.block b)
kind-While e j b = ap view.kind (sym (kinds.rolls-While e j b)) ∙ fold-roll-StmtKind _ _ view.kind_step view.stmt_step (StmtKind-F.While e j b)
