-- What statements of the code are as plain data.
use Rattle.std.proofs.Common.{◌≡◌, ℕ, ◌+◌, ◌<◌, ◌∷◌, List, length, map, get_or, drop, ap, sym, ◌∙◌}
use Rattle.std.proofs.lemmas.List.{at_drop_more}
use Rattle.cov_expr.specs.View.{term}
use Rattle.cov_expr.specs.declared.expr.Expr.{Expr}
use Rattle.cov_ast.specs.Syntax.{more, branch}
use Rattle.cov_ast.specs.View as view
use Rattle.cov_ast.specs.declared.state.State.{State}
use Rattle.cov_ast.specs.declared.stmt.Stmt.{Stmt}
use Rattle.cov_ast.specs.declared.stmt.StmtKind.{StmtKind-F, fold-roll-StmtKind}
use Rattle.cov_ast.specs.declared.stmt.StmtKind.TheFolds.{fold_out-Stmt}
use Rattle.cov_ast.specs.declared.stmt.StmtKind.TheVariants as kinds

pub stmt_is : (s : Stmt) → view.stmt s ≡ record { at = s.at; stm = view.kind s.kind; proofs = map view.proof s.proofs }
stmt_is s = fold_out-Stmt _ _ view.kind_step view.stmt_step s

pub branch_is : (e : Expr) (a b : List Stmt) (j : State) → view.kind (kinds.If e a b j) ≡ branch (term e) (view.block a) (view.block b) (view.state j)
branch_is e a b j = ap view.kind (sym (kinds.rolls-If e a b j)) ∙ fold-roll-StmtKind _ _ view.kind_step view.stmt_step (StmtKind-F.If e a b j)

-- from a statement on: it, and the rest
pub block_from : (ss : List Stmt) (i : ℕ) (s : Stmt) → i < length ss → s ≡ get_or ss i s
    → view.block (drop i ss) ≡ more s.at (view.kind s.kind) (map view.proof s.proofs) (view.block (drop (i + 1) ss))
block_from ss i s inside is =
    at_drop_more view.block ss i s inside ∙ ap (λ y. view.block (y ∷ drop (i + 1) ss)) (sym is)
    ∙ ap (λ y. more y.at y.stm y.proofs (view.block (drop (i + 1) ss))) (stmt_is s)
