-- Where a thread can stand: what remains of it as it stands in front of a statement of its body.
use Rattle.std.specs.Prelude.{◌≡◌, ◌⊎◌, ℕ, List, [], ◌∷◌}
use Rattle.cov_ast.specs.Plain.{branch, loop, skip, assign, lock, unlock, output, plain_block}
use Rattle.cov_ast.specs.Syntax.{Stm, Block, done, more}
use Rattle.cov_ast.specs.Syntax as s
use Rattle.flow_model.specs.Source.{Item, run, items_then}

abbrev mutual
  -- in front of a statement, or of one in it, where others follow it
  pub IsAtStm : Stm → (at : ℕ) → (after : List Item) → List Item → Type 0
  IsAtStm s.skip at after is = is ≡ run at skip ∷ after
  IsAtStm (s.assign x e q retypes) at after is = is ≡ run at (assign x e) ∷ after
  IsAtStm (s.lock l) at after is = is ≡ run at (lock l) ∷ after
  IsAtStm (s.unlock l) at after is = is ≡ run at (unlock l) ∷ after
  IsAtStm (s.branch e a b join) at after is = (is ≡ run at (branch e (plain_block a) (plain_block b)) ∷ after) ⊎ (IsPart a after is ⊎ IsPart b after is)
  IsAtStm (s.loop e inv b) at after is = (is ≡ run at (loop e (plain_block b)) ∷ after) ⊎ IsPart b (run at (loop e (plain_block b)) ∷ after) is
  IsAtStm (s.note j) at after is = ⊥
  IsAtStm (s.output e) at after is = is ≡ run at (output e) ∷ after

  -- in front of some statement of a block that others follow
  pub IsPart : Block → (after : List Item) → List Item → Type 0
  IsPart done after is = ⊥
  IsPart (more at c proofs b) after is = IsAtStm c at (items_then (plain_block b) after) is ⊎ IsPart b after is

-- in front of some statement of a body, or at its end
abbrev pub Stands : Block → List Item → Type 0
Stands body is = IsPart body [] is ⊎ (is ≡ [])
