-- What the statements of the code store to, one after another, and sets to which it is added.
use Rattle.std.proofs.Common.{◌≡◌, ℕ, ◌+◌, ◌<◌, List, ◌∷◌, ◌++◌, Bool, length, get_or, drop, ap, sym, ◌∙◌}
use Rattle.std.proofs.lemmas.List.{at_drop_more}
use Rattle.cov_ast.specs.Tables.{with_all}
use Rattle.cov_ast.specs.View as view
use Rattle.cov_ast.specs.declared.state.State.{State}
use Rattle.cov_ast.specs.declared.stmt.Stmt.{Stmt}
use Rattle.cov_ast.specs.declared.stmt.StmtKind.{StmtKind, StmtKind-F, fold-roll-StmtKind}
use Rattle.cov_ast.specs.declared.stmt.StmtKind.TheFolds.{fold_out-Stmt}
use Rattle.cov_ast.specs.declared.stmt.StmtKind.TheVariants as kinds
use Rattle.cov_ast.proofs.TableLaws.{with_all_append}
use Rattle.cov_expr.specs.declared.expr.Expr.{Expr}
use Rattle.statement_parts.specs.Parts.{assigned, collected, collected_in}

-- a set to which a list of two parts is added
pub added_of : (old mid new : List Bool) (all xs ys : List ℕ) → all ≡ xs ++ ys → mid ≡ with_all old xs → new ≡ with_all mid ys → new ≡ with_all old all
added_of old mid new all xs ys parts first second =
    second ∙ ap (λ m. with_all m ys) first ∙ sym (with_all_append old xs ys) ∙ ap (with_all old) (sym parts)

-- one to which a list is added that is cut
pub adding_goes_on : (start now next : List Bool) (all xs ys zs : List ℕ) → with_all now zs ≡ with_all start all → zs ≡ xs ++ ys → next ≡ with_all now xs
    → with_all next ys ≡ with_all start all
adding_goes_on start now next all xs ys zs so_far cut more =
    ap (λ m. with_all m ys) more ∙ sym (with_all_append now xs ys) ∙ ap (with_all now) (sym cut) ∙ so_far

pub branch_assigned : (k : StmtKind) (e : Expr) (a b : List Stmt) (j : State) → k ≡ kinds.If e a b j
    → collected assigned (view.kind k) ≡ collected_in assigned (view.block a) ++ collected_in assigned (view.block b)
branch_assigned k e a b j is =
    ap (collected assigned) (ap view.kind (is ∙ sym (kinds.rolls-If e a b j)) ∙ fold-roll-StmtKind _ _ view.kind_step view.stmt_step (StmtKind-F.If e a b j))

-- the next statement, and the rest
pub assigned_next : (ss : List Stmt) (i : ℕ) (s : Stmt) → i < length ss → s ≡ get_or ss i s
    → collected_in assigned (view.block (drop i ss)) ≡ collected assigned (view.kind s.kind) ++ collected_in assigned (view.block (drop (i + 1) ss))
assigned_next ss i s inside is =
    at_drop_more (λ xs. collected_in assigned (view.block xs)) ss i s inside ∙ ap (λ y. collected_in assigned (view.block (y ∷ drop (i + 1) ss))) (sym is)
    ∙ ap (λ y. collected assigned y.stm ++ collected_in assigned (view.block (drop (i + 1) ss))) (fold_out-Stmt _ _ view.kind_step view.stmt_step s)
