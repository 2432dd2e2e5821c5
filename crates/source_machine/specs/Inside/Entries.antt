-- Frames as blocks are entered, how many there are at most, and which can run.
use Rattle.std.specs.Prelude.{ℕ, ◌+◌, ◌≤◌, ◌&&◌, List, [], ◌∷◌, length, max, Bool, MatchBool, not, is_some, if◌then◌else◌}
use Rattle.cov_ast.specs.Syntax.{Proof, Stm, Block, done, more}
use Rattle.cov_ast.specs.WellFormed.{IsBlockInRange}
use Rattle.statement_parts.specs.Parts.{Inside, made, made_inside, of_either, of_none, of_turn, parts}

-- It only states something: it has no guard.
abbrev pub is_note : Stm → Bool
is_note c = is_some (parts c).state && not (is_some (parts c).guard)

-- a block from its first statement on that takes a step
abbrev pub without_notes : Block → Block
without_notes done = done
without_notes (more at c proofs b) = if is_note c then without_notes b else more at c proofs b

-- a block on top of frames; an empty block is none
abbrev pub on_top : Block → List Block → List Block
on_top done bs = bs
on_top (more at c proofs b) bs = more at c proofs b ∷ bs

abbrev pub entered : Block → List Block → List Block
entered b bs = on_top (without_notes b) bs

-- the frames around the innermost
abbrev pub outer : List Block → List Block
outer [] = []
outer (b ∷ bs) = bs

-- Heights ------------------------------------------------------------------------------------------------------

-- the frame of the statement, if it takes a step
abbrev pub own_height : Stm → ℕ
own_height c = if is_note c then 0 else 1

-- with the frames of the blocks inside, of which the thread stands in one
abbrev pub with_blocks : (own : ℕ) → Inside ℕ → ℕ
with_blocks own of_none = own
with_blocks own (of_turn e inv n) = own + n
with_blocks own (of_either e join n k) = own + max n k

abbrev pub or_behind : (at : ℕ) → Stm → List Proof → Inside ℕ → (rest : ℕ) → ℕ
or_behind at c proofs inside rest = max (with_blocks (own_height c) inside) rest

-- how many frames a thread has at most while it runs a statement, and a block
abbrev pub stm_height : Stm → ℕ
stm_height c = with_blocks (own_height c) (made_inside 0 or_behind c)

abbrev pub height : Block → ℕ
height b = made 0 or_behind b

-- Frames that can run ------------------------------------------------------------------------------------------

-- The block begins with a statement that takes a step.
abbrev pub IsReady : Block → Type 0
IsReady done = ⊥
IsReady (more at c proofs b) = MatchBool (is_note c) ⊥ (Unit {0})

-- Each frame is in range and begins with a statement that takes a step, and there is room for all that it enters.
module _ (vars locks room : ℕ) where
  abbrev pub AreFrames : List Block → Type 0
  AreFrames [] = Unit {0}
  AreFrames (b ∷ bs) = IsBlockInRange vars locks b × IsReady b × (length bs + height b ≤ room) × AreFrames bs
