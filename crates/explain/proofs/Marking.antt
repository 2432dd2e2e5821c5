-- What the statements and the threads of the code read and write, one after another.
use Rattle.std.proofs.Common.{◌≡◌, ℕ, ◌+◌, ◌<◌, List, ◌∷◌, ◌++◌, map, flat_map, length, get_or, drop, ap, sym, ◌∙◌}
use Rattle.std.proofs.lemmas.List.{at_drop_more}
use Rattle.cov_ast.specs.Syntax.{Thread}
use Rattle.cov_ast.specs.View as view
use Rattle.cov_ast.specs.declared.state.State.{State}
use Rattle.cov_ast.specs.declared.decl.ThreadDecl.{ThreadDecl}
use Rattle.cov_ast.specs.declared.stmt.Stmt.{Stmt}
use Rattle.cov_ast.specs.declared.stmt.StmtKind.{StmtKind, StmtKind-F, fold-roll-StmtKind}
use Rattle.cov_ast.specs.declared.stmt.StmtKind.TheFolds.{fold_out-Stmt}
use Rattle.cov_ast.specs.declared.stmt.StmtKind.TheVariants as kinds
use Rattle.cov_expr.specs.Trees.{occurrences}
use Rattle.cov_expr.specs.View.{term}
use Rattle.cov_expr.specs.declared.expr.Expr.{Expr}
use Rattle.explain.specs.Inside.StatementWalks.{stm_reads, block_reads}

pub branch_reads : (k : StmtKind) (e : Expr) (a b : List Stmt) (j : State) → k ≡ kinds.If e a b j
    → stm_reads (view.kind k) ≡ occurrences (term e) ++ (block_reads (view.block a) ++ block_reads (view.block b))
branch_reads k e a b j is =
    ap stm_reads (ap view.kind (is ∙ sym (kinds.rolls-If e a b j)) ∙ fold-roll-StmtKind _ _ view.kind_step view.stmt_step (StmtKind-F.If e a b j))

pub loop_reads : (k : StmtKind) (e : Expr) (j : State) (b : List Stmt) → k ≡ kinds.While e j b
    → stm_reads (view.kind k) ≡ occurrences (term e) ++ block_reads (view.block b)
loop_reads k e j b is =
    ap stm_reads (ap view.kind (is ∙ sym (kinds.rolls-While e j b)) ∙ fold-roll-StmtKind _ _ view.kind_step view.stmt_step (StmtKind-F.While e j b))

-- the next statement, and the rest
module _ (ss : List Stmt) (i : ℕ) (s : Stmt) (inside : i < length ss) (is : s ≡ get_or ss i s) where
  pub reads_next : block_reads (view.block (drop i ss)) ≡ stm_reads (view.kind s.kind) ++ block_reads (view.block (drop (i + 1) ss))
  reads_next =
      at_drop_more (λ xs. block_reads (view.block xs)) ss i s inside ∙ ap (λ y. block_reads (view.block (y ∷ drop (i + 1) ss))) (sym is)
      ∙ ap (λ y. stm_reads y.stm ++ block_reads (view.block (drop (i + 1) ss))) (fold_out-Stmt _ _ view.kind_step view.stmt_step s)

-- what is listed of the next thread, and of the rest
pub thread_next : (f : Thread → List ℕ) (ts : List ThreadDecl) (i : ℕ) (t : ThreadDecl) → i < length ts → t ≡ get_or ts i t
    → flat_map f (map view.thread (drop i ts)) ≡ f (view.thread t) ++ flat_map f (map view.thread (drop (i + 1) ts))
thread_next f ts i t inside is =
    at_drop_more (λ us. flat_map f (map view.thread us)) ts i t inside
    ∙ ap (λ u. flat_map f (map view.thread (u ∷ drop (i + 1) ts))) (sym is)
