-- Statements one after another, and the views of statements.
use Rattle.std.proofs.Common.{◌≡◌, ℕ, ◌+◌, ◌≤◌, List, [], map, option_map, refl, sym, ap, ◌∙◌, subst, arith, Option, Result, Ok, Err}
use Rattle.cov_expr.specs.View.{term}
use Rattle.cov_expr.specs.declared.expr.Expr.{Expr}
use Rattle.cov_ast.specs.Plain.{Plain}
use Rattle.cov_ast.specs.Syntax.{Proof, Stm, skip, assign, lock, branch, loop, output, Block, done, more}
use Rattle.cov_ast.specs.View as view
use Rattle.cov_ast.specs.declared.refusal.CheckFault.{CheckFault}
use Rattle.cov_ast.specs.declared.state.State.{State}
use Rattle.cov_ast.specs.declared.stmt.Retype.{Retype}
use Rattle.cov_ast.specs.declared.stmt.Stmt.{Stmt}
use Rattle.cov_ast.specs.declared.stmt.StmtKind.{StmtKind, StmtKind-F, fold-roll-StmtKind}
use Rattle.cov_ast.specs.declared.stmt.StmtKind.TheVariants as kinds
use Rattle.typing_state.specs.KeptPoints.{Keeps}
use Rattle.point_law.specs.Point.{Point}
use Rattle.typing_state.specs.declared.point.Point as declared
use Rattle.typing_law.specs.Counts.{entailment_count}
use Rattle.typing_law.specs.ThreadEntailments.{block_entailments, stm_entailments}
use Rattle.typing_rules.specs.declared.kept.Kept.{Kept}
use Rattle.typing_law.specs.Blocks.{after_block, after_stm}
use Rattle.typing_law.specs.ThreadObligations.{block_obligations, flat, stm_parts}
use Rattle.typing_law.proofs.Counting.{count_more, stm_counted}
use Rattle.typing_rules.specs.Inside.Passing.{Stops}
use Rattle.typing_rules.specs.Inside.Walking.{Walks}
use Rattle.typing_rules.specs.declared.purpose.Purpose.{Purpose}
use Rattle.typing_rules.specs.declared.walk.Walked.{Walked}
use Rattle.typing_rules.proofs.Reaching.{front_passes, stops_behind, walks_then}
use Rattle.typing_rules.proofs.StatementLaws.{branch_is}

-- what is kept is kept of one point
pub one_point : (p : Plain) (t : ℕ) (a b : Point) (kept : declared.Point) → Keeps p t a kept → Keeps p t b kept → a ≡ b
one_point p t a b kept h k =
    let held = ap (λ m. m.held) (sym h.modes ∙ k.modes) in
    let types = sym h.types ∙ k.types in
    let preds = sym h.preds ∙ k.preds in
    λ i. record { held = held i; types = types i; preds = preds i }

-- What is left of a block, at the point that was reached, is walked like the whole and leads to the same end; so many
-- entailments were counted.
pub record Reaches (u : Purpose) (p : Plain) (t : ℕ) (whole : Block) (a : Point) (rest : Block) (b : Point) (counted : ℕ) (before here : List Kept) : Type 0 where
  pub after : after_block p t rest b ≡ after_block p t whole a
  pub count : counted + entailment_count (block_obligations p t rest b) ≡ entailment_count (block_obligations p t whole a)
  pub walks : (end : Point) (n : ℕ) (kept : List Kept) (r : Result Walked CheckFault) → Walks u p t (block_obligations p t rest b) (block_entailments p t rest b) end n here kept r
      → Walks u p t (block_obligations p t whole a) (block_entailments p t whole a) end n before kept r

module _ (u : Purpose) (p : Plain) (t : ℕ) (whole : Block) (a : Point) (before : List Kept) where
  -- the answer about the whole
  abbrev WholeWalks : List Kept → Result Walked CheckFault → Type 0
  WholeWalks kept r =
      Walks u p t (block_obligations p t whole a) (block_entailments p t whole a) (after_block p t whole a) (entailment_count (block_obligations p t whole a)) before kept r

  pub reaches_start : Reaches u p t whole a whole a 0 before before
  reaches_start = record { after = refl; count = omega arith; walks = λ end n kept r h. h }

  module _ (at : ℕ) (s : Stm) (proofs : List Proof) (rest : Block) (b : Point) (counted : ℕ) (here : List Kept)
      (h : Reaches u p t whole a (more at s proofs rest) b counted before here) where
    -- the statement has no more entailments than are left
    pub reaches_few : counted + entailment_count (flat (stm_parts p t s at proofs b)) ≤ entailment_count (block_obligations p t whole a)
    reaches_few = omega (arith, h.count, count_more p t at s proofs rest b)

    pub reaches_more : (next : Walked) (kept : List Kept)
        → Walks u p t (flat (stm_parts p t s at proofs b)) (stm_entailments p t s at b) (after_stm p t s b) (entailment_count (flat (stm_parts p t s at proofs b))) here kept (Ok next)
        → Reaches u p t whole a rest (after_stm p t s b) (counted + next.entailments) before kept
    reaches_more next kept w = record {
      after = h.after;
      count = omega (arith, h.count, w.2, count_more p t at s proofs rest b);
      walks = λ end n last r k.
          h.walks end n last r
          (walks_then u (flat (stm_parts p t s at proofs b)) (block_obligations p t rest (after_stm p t s b)) (stm_entailments p t s at b) (block_entailments p t rest (after_stm p t s b))
          (stm_counted p t s at proofs b) p t end n here kept last r w.0 k);
    }

    pub reaches_refused : (fault : CheckFault) (kept : List Kept) → Stops u (flat (stm_parts p t s at proofs b)) (stm_entailments p t s at b) here kept fault
        → WholeWalks kept (Err fault)
    reaches_refused fault kept k =
        h.walks (after_block p t whole a) (entailment_count (block_obligations p t whole a)) kept (Err fault)
        (stops_behind u (flat (stm_parts p t s at proofs b)) (block_obligations p t rest (after_stm p t s b)) (stm_entailments p t s at b) (block_entailments p t rest (after_stm p t s b))
        (stm_counted p t s at proofs b) here kept fault k)

  pub reaches_end : (b : Point) (here : List Kept) (walked : Walked) → Reaches u p t whole a done b walked.entailments before here → Keeps p t b walked.point
      → WholeWalks here (Ok walked)
  reaches_end b here walked h k =
      h.walks (after_block p t whole a) (entailment_count (block_obligations p t whole a)) here (Ok walked) (
        front_passes u [] [] refl [] here refl,
        subst (λ q. Keeps p t q walked.point) h.after k,
        (let e : walked.entailments ≡ entailment_count (block_obligations p t whole a) = omega (arith, h.count) in e),
      )

-- Views of statements ---------------------------------------------------------------------------------------------

pub skip_is : view.kind kinds.Skip ≡ skip
skip_is = ap view.kind (sym kinds.rolls-Skip) ∙ fold-roll-StmtKind _ _ view.kind_step view.stmt_step StmtKind-F.Skip

pub assign_is : (x : ℕ) (e : Expr) (q : Option Expr) (rs : List Retype)
    → view.kind (kinds.Assign x e q rs) ≡ assign x (term e) (option_map term q) (map view.retype rs)
assign_is x e q rs = ap view.kind (sym (kinds.rolls-Assign x e q rs)) ∙ fold-roll-StmtKind _ _ view.kind_step view.stmt_step (StmtKind-F.Assign x e q rs)

pub lock_is : (l : ℕ) → view.kind (kinds.Lock l) ≡ lock l
lock_is l = ap view.kind (sym (kinds.rolls-Lock l)) ∙ fold-roll-StmtKind _ _ view.kind_step view.stmt_step (StmtKind-F.Lock l)

pub loop_is : (e : Expr) (j : State) (b : List Stmt) → view.kind (kinds.While e j b) ≡ loop (term e) (view.state j) (view.block b)
loop_is e j b = ap view.kind (sym (kinds.rolls-While e j b)) ∙ fold-roll-StmtKind _ _ view.kind_step view.stmt_step (StmtKind-F.While e j b)

pub output_is : (e : Expr) → view.kind (kinds.Output e) ≡ output (term e)
output_is e = ap view.kind (sym (kinds.rolls-Output e)) ∙ fold-roll-StmtKind _ _ view.kind_step view.stmt_step (StmtKind-F.Output e)

-- A branch or a loop whose blocks are seen as lists is this one.

pub branch_seen : (k : StmtKind) (e : Expr) (a b : List Stmt) (j : State) → k ≡ kinds.If e a b j → (xs : List Stmt) → xs ≡ a → (ys : List Stmt) → ys ≡ b
    → view.kind k ≡ branch (term e) (view.block xs) (view.block ys) (view.state j)
branch_seen k e a b j is xs first ys second =
    ap view.kind is ∙ branch_is e a b j ∙ (λ i. branch (term e) (view.block (sym first i)) (view.block (sym second i)) (view.state j))

pub loop_seen : (k : StmtKind) (e : Expr) (j : State) (b : List Stmt) → k ≡ kinds.While e j b → (xs : List Stmt) → xs ≡ b
    → view.kind k ≡ loop (term e) (view.state j) (view.block xs)
loop_seen k e j b is xs same = ap view.kind is ∙ loop_is e j b ∙ ap (λ ss. loop (term e) (view.state j) (view.block ss)) (sym same)
