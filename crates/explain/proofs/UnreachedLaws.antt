-- Statements that no run comes to, with annotations and without.
use Rattle.std.proofs.Common.{◌≡◌, ℕ, ◌+◌, ◌<◌, List, [], ◌∷◌, ◌++◌, length, map, flat_map, drop, get_or, Bool, false, refl, sym, ap, ◌∙◌, append_assoc}
use Rattle.std.proofs.lemmas.List.{at_drop_more}
use Rattle.cov_ast.specs.Syntax.{Stm, Thread}
use Rattle.cov_ast.specs.Syntax as s
use Rattle.cov_ast.specs.Plain.{Cmds, plain_stm, plain_block, plain_thread}
use Rattle.cov_ast.specs.View as view
use Rattle.cov_ast.specs.declared.stmt.Stmt.{Stmt}
use Rattle.cov_ast.specs.declared.stmt.StmtKind.TheFolds.{fold_out-Stmt}
use Rattle.explain.specs.Inside.StatementWalks.{stm_front, cuts_off, stm_unreached, block_unreached}
use Rattle.explain.specs.NeverReached.{of_block, of_thread}
use Rattle.explain.specs.declared.warning.Warning.{Warning}

-- Without annotations ------------------------------------------------------------------------------------------

-- a statement in front of others
pub stm_is : (c : Stm) (at : ℕ) (u : Bool) (r : Cmds) → of_block u (plain_stm c at r) ≡ stm_front u c at ++ stm_unreached c ++ of_block (cuts_off u c) r
stm_is (s.note j) at u r = refl
stm_is _ at u r = refl

pub threads_are : (ts : List Thread) → flat_map (λ t. block_unreached false t.body) ts ≡ flat_map of_thread (map plain_thread ts)
threads_are [] = refl
threads_are (t ∷ ts) = ap (λ ws. block_unreached false t.body ++ ws) (threads_are ts)

-- The trees of the code ----------------------------------------------------------------------------------------

-- the next statement, and the rest
pub unreached_next : (ss : List Stmt) (i : ℕ) (st : Stmt) (u : Bool) → i < length ss → st ≡ get_or ss i st
    → block_unreached u (view.block (drop i ss))
    ≡ stm_front u (view.kind st.kind) st.at ++ stm_unreached (view.kind st.kind) ++ block_unreached (cuts_off u (view.kind st.kind)) (view.block (drop (i + 1) ss))
unreached_next ss i st u inside is =
    at_drop_more (λ xs. block_unreached u (view.block xs)) ss i st inside ∙ ap (λ y. block_unreached u (view.block (y ∷ drop (i + 1) ss))) (sym is)
    ∙ ap (λ y. of_block u (plain_stm y.stm y.at (plain_block (view.block (drop (i + 1) ss))))) (fold_out-Stmt _ _ view.kind_step view.stmt_step st)
    ∙ stm_is (view.kind st.kind) st.at u (plain_block (view.block (drop (i + 1) ss)))

-- three parts, one after the other
pub three_added : (found first second all front inner rest whole : List Warning) → whole ≡ front ++ inner ++ rest → first ≡ found ++ front → second ≡ first ++ inner
    → found ++ whole ≡ all → second ++ rest ≡ all
three_added found first second all front inner rest whole parts is_first is_second so_far =
    ap (λ ws. ws ++ rest) (is_second ∙ ap (λ ws. ws ++ inner) is_first ∙ append_assoc found front inner)
    ∙ append_assoc found (front ++ inner) rest ∙ ap (λ ws. found ++ ws) (sym parts) ∙ so_far
