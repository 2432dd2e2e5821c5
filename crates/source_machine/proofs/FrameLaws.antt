-- What frames stand for as blocks are entered, and what keeps them fit to run.
use Rattle.std.proofs.Common.{◌≡◌, ℕ, ◌+◌, ◌≤◌, List, ◌∷◌, length, refl, ap, ◌∙◌, arith}
use Rattle.cov_ast.specs.Plain.{Cmd, Cmds, next, none, ◌then_all◌, plain_block}
use Rattle.cov_ast.specs.Syntax.{Block, done, more}
use Rattle.cov_ast.specs.Syntax as s
use Rattle.cov_ast.specs.WellFormed.{IsBlockInRange, block_size, stm_size}
use Rattle.flow_model.specs.Source.{Item, run, items_then}
use Rattle.source_machine.specs.Frames.{items}
use Rattle.source_machine.specs.Inside.Entries.{without_notes, on_top, entered, height, stm_height, AreFrames}

plain_without_notes : (b : Block) → plain_block (without_notes b) ≡ plain_block b
plain_without_notes done = refl
plain_without_notes (more at (s.note j) proofs b) = plain_without_notes b
plain_without_notes (more at _ proofs b) = refl

items_on_top : (b : Block) (bs : List Block) → items (on_top b bs) ≡ items_then (plain_block b) (items bs)
items_on_top done bs = refl
items_on_top (more at c proofs b) bs = refl

pub items_entered : (b : Block) (bs : List Block) → items (entered b bs) ≡ items_then (plain_block b) (items bs)
items_entered b bs = items_on_top (without_notes b) bs ∙ ap (λ c. items_then c (items bs)) (plain_without_notes b)

pub items_then_last : (b : Cmds) (at : ℕ) (c : Cmd) (rest : List Item) → items_then (◌then_all◌ b (next at c none)) rest ≡ items_then b (run at c ∷ rest)
items_then_last none at c rest = refl
items_then_last (next a d b) at c rest = ap (λ is. run a d ∷ is) (items_then_last b at c rest)

pub length_entered : (b : Block) (bs : List Block) → length (entered b bs) ≤ length bs + 1
length_entered done bs = omega arith
length_entered (more at (s.note j) proofs b) bs = length_entered b bs
length_entered (more at _ proofs b) bs = omega arith

module _ (vars locks room : ℕ) where
  pub entered_fine : (b : Block) (bs : List Block) → IsBlockInRange vars locks b → length bs + height b ≤ room → AreFrames vars locks room bs
      → AreFrames vars locks room (entered b bs)
  entered_fine done bs r h f = f
  entered_fine (more at (s.note j) proofs b) bs r h f = entered_fine b bs r.2 (omega arith) f
  entered_fine (more at _ proofs b) bs r h f = (r, tt, h, f)

mutual
  pub height_small : (b : Block) → height b ≤ block_size b
  height_small done = omega arith
  height_small (more at c proofs b) = let i = stm_height_small c in let j = height_small b in omega arith

  stm_height_small : (c : s.Stm) → stm_height c ≤ 1 + stm_size c
  stm_height_small (s.branch e a b join) = let i = height_small a in let j = height_small b in omega arith
  stm_height_small (s.loop e inv b) = let j = height_small b in omega arith
  stm_height_small _ = omega arith
