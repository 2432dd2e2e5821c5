-- What a statement of the code is as plain data, by its kind, and the statement at a place of a block.
use Rattle.std.proofs.Common.{◌≡◌, ℕ, ◌+◌, ◌<◌, ◌∷◌, List, Option, length, map, option_map, get_or, drop, ap, sym, ◌∙◌}
use Rattle.std.proofs.lemmas.List.{at_drop_more}
use Rattle.cov_expr.specs.View.{term}
use Rattle.cov_expr.specs.declared.expr.Expr.{Expr}
use Rattle.cov_ast.specs.Syntax.{assign, branch, loop, output, more}
use Rattle.cov_ast.specs.View as view
use Rattle.cov_ast.specs.declared.state.State.{State}
use Rattle.cov_ast.specs.declared.stmt.Retype.{Retype}
use Rattle.cov_ast.specs.declared.stmt.Stmt.{Stmt}
use Rattle.cov_ast.specs.declared.stmt.StmtKind.{StmtKind, StmtKind-F, fold-roll-StmtKind}
use Rattle.cov_ast.specs.declared.stmt.StmtKind.TheFolds.{fold_out-Stmt}
use Rattle.cov_ast.specs.declared.stmt.StmtKind.TheVariants as kinds

-- a statement of a block, in front of those behind it, is the rest of the block from there
pub item_first : (ss : List Stmt) (i : ℕ) (s : Stmt) → i < length ss → s ≡ get_or ss i s
    → more s.at (view.kind s.kind) (map view.proof s.proofs) (view.block (drop (i + 1) ss)) ≡ view.block (drop i ss)
item_first ss i s inside is =
    sym (at_drop_more view.block ss i s inside ∙ ap (λ y. view.block (y ∷ drop (i + 1) ss)) (sym is)
    ∙ ap (λ y. more y.at y.stm y.proofs (view.block (drop (i + 1) ss))) (fold_out-Stmt _ _ view.kind_step view.stmt_step s))

pub kind_assigns : (k : StmtKind) (x : ℕ) (e : Expr) (q : Option Expr) (rs : List Retype) → k ≡ kinds.Assign x e q rs
    → view.kind k ≡ assign x (term e) (option_map term q) (map view.retype rs)
kind_assigns k x e q rs is =
    ap view.kind (is ∙ sym (kinds.rolls-Assign x e q rs)) ∙ fold-roll-StmtKind _ _ view.kind_step view.stmt_step (StmtKind-F.Assign x e q rs)

pub kind_puts_out : (k : StmtKind) (e : Expr) → k ≡ kinds.Output e → view.kind k ≡ output (term e)
kind_puts_out k e is = ap view.kind (is ∙ sym (kinds.rolls-Output e)) ∙ fold-roll-StmtKind _ _ view.kind_step view.stmt_step (StmtKind-F.Output e)

pub kind_branches : (k : StmtKind) (e : Expr) (a b : List Stmt) (j : State) (xs ys : List Stmt) → k ≡ kinds.If e a b j → xs ≡ a → ys ≡ b
    → view.kind k ≡ branch (term e) (view.block xs) (view.block ys) (view.state j)
kind_branches k e a b j xs ys is first second =
    ap view.kind (is ∙ sym (kinds.rolls-If e a b j)) ∙ fold-roll-StmtKind _ _ view.kind_step view.stmt_step (StmtKind-F.If e a b j)
    ∙ (λ i. branch (term e) (view.block (sym first i)) (view.block (sym second i)) (view.state j))

pub kind_loops : (k : StmtKind) (e : Expr) (j : State) (b xs : List Stmt) → k ≡ kinds.While e j b → xs ≡ b
    → view.kind k ≡ loop (term e) (view.state j) (view.block xs)
kind_loops k e j b xs is same =
    ap view.kind (is ∙ sym (kinds.rolls-While e j b)) ∙ fold-roll-StmtKind _ _ view.kind_step view.stmt_step (StmtKind-F.While e j b)
    ∙ ap (λ ss. loop (term e) (view.state j) (view.block ss)) (sym same)
