-- What is collected along the statements that the code has.
use Rattle.std.proofs.Common.{◌≡◌, ℕ, ◌+◌, ◌<◌, List, ◌∷◌, ◌++◌, length, get_or, drop, refl, ap, sym, subst, ◌∙◌}
use Rattle.std.proofs.lemmas.List.{at_drop_more}
use Rattle.cov_expr.specs.View.{term}
use Rattle.cov_expr.specs.declared.expr.Expr.{Expr}
use Rattle.cov_ast.specs.Syntax.{branch}
use Rattle.cov_ast.specs.View as view
use Rattle.cov_ast.specs.declared.state.State.{State}
use Rattle.cov_ast.specs.declared.stmt.Stmt.{Stmt}
use Rattle.cov_ast.specs.declared.stmt.StmtKind.{StmtKind, StmtKind-F, fold-roll-StmtKind}
use Rattle.cov_ast.specs.declared.stmt.StmtKind.TheFolds.{fold_out-Stmt}
use Rattle.cov_ast.specs.declared.stmt.StmtKind.TheVariants as kinds
use Rattle.statement_parts.specs.Parts.{collected, collected_in, Parts, parts}

is_branch : (k : StmtKind) (e : Expr) (a b : List Stmt) (j : State) → k ≡ kinds.If e a b j
    → view.kind k ≡ branch (term e) (view.block a) (view.block b) (view.state j)
is_branch k e a b j is = ap view.kind (is ∙ sym (kinds.rolls-If e a b j)) ∙ fold-roll-StmtKind _ _ view.kind_step view.stmt_step (StmtKind-F.If e a b j)

module _ {A : Type 0} (own : Parts → List A) where
  -- of a branch: what it has of its own, and what its blocks have
  pub of_branch : (k : StmtKind) (e : Expr) (a b : List Stmt) (j : State) → k ≡ kinds.If e a b j
      → collected own (view.kind k) ≡ own (parts (view.kind k)) ++ (collected_in own (view.block a) ++ collected_in own (view.block b))
  of_branch k e a b j is =
      subst (λ s. collected own s ≡ own (parts s) ++ (collected_in own (view.block a) ++ collected_in own (view.block b))) (sym (is_branch k e a b j is)) refl

  -- of the next statement, and of the rest
  pub of_next : (ss : List Stmt) (i : ℕ) (s : Stmt) → i < length ss → s ≡ get_or ss i s
      → collected_in own (view.block (drop i ss)) ≡ collected own (view.kind s.kind) ++ collected_in own (view.block (drop (i + 1) ss))
  of_next ss i s inside is =
      at_drop_more (λ xs. collected_in own (view.block xs)) ss i s inside ∙ ap (λ y. collected_in own (view.block (y ∷ drop (i + 1) ss))) (sym is)
      ∙ ap (λ y. collected own y.stm ++ collected_in own (view.block (drop (i + 1) ss))) (fold_out-Stmt _ _ view.kind_step view.stmt_step s)
