-- Which lines of the code of a thread belong to which of its statements, found by the kinds of instructions alone.
--
-- The code of a statement without blocks, or of a guard, is instructions that make a value in a register, as many as it takes, and one that does with it what
-- the statement does. A note has none. Behind the first block of an `if` stands a jump, and behind the block of a `while` too.
use Rattle.std.specs.Prelude.{ℕ, suc, ◌-◌, List, [], ◌∷◌, ◌++◌, length, take, drop, Bool, true, false, Option, Some, None, if◌then◌else◌}
use Rattle.cov_ast.specs.Syntax.{State, Proof, Stm, Block}
use Rattle.code_lines.specs.declared.walk.Role.{Role}
use Rattle.code_lines.specs.declared.walk.Role.TheVariants.{Whole, Guard, Past, Back}
use Rattle.risc_machine.specs.declared.parts.Instr.{Instr}
use Rattle.risc_machine.specs.declared.parts.Instr.TheVariants.{Load, Store, Jump, Jz, Nop, MovC, MovR, Bin, Acquire, Release, Out}
use Rattle.risc_machine.specs.declared.parts.Line.{Line}
use Rattle.statement_parts.specs.Parts.{first_block, Inside, made, made_inside, of_either, of_none, of_turn, parts}

-- whether an instruction makes a value in a register, and does nothing else
abbrev pub makes_value : Instr → Bool
makes_value (Load r x) = true
makes_value (Store x r) = false
makes_value (Jump i) = false
makes_value (Jz r i) = false
makes_value Nop = false
makes_value (MovC r k) = true
makes_value (MovR r q) = true
makes_value (Bin op r q) = true
makes_value (Acquire l) = false
makes_value (Release l) = false
makes_value (Out r) = false

-- how many of the first lines belong together: those that make values, and the first other one
abbrev pub own_count : List Line → ℕ
own_count [] = 0
own_count (l ∷ ls) = if makes_value l.instr then suc (own_count ls) else 1

-- the lines behind those
abbrev pub behind_own : List Line → List Line
behind_own ls = drop (own_count ls) ls

-- By the lines behind the blocks inside a statement. A note, which states something and has no block, has no lines.
abbrev pub behind_inside : Inside (List Line → List Line) → (stated : Option State) → List Line → List Line
behind_inside (of_either e join a b) stated ls = b (drop 1 (a (behind_own ls)))
behind_inside (of_turn e inv a) stated ls = drop 1 (a (behind_own ls))
behind_inside of_none (Some j) ls = ls
behind_inside of_none None ls = behind_own ls

-- behind no statement, and behind one and the rest
abbrev pub behind_end : List Line → List Line
behind_end ls = ls

abbrev pub behind_first : (at : ℕ) → Stm → List Proof → Inside (List Line → List Line) → (rest : List Line → List Line) → List Line → List Line
behind_first at s proofs inside rest ls = rest (behind_inside inside (parts s).state ls)

-- the lines behind those of a statement
abbrev pub behind_statement : Stm → List Line → List Line
behind_statement s ls = behind_inside (made_inside behind_end behind_first s) (parts s).state ls

-- the lines behind those of the statements of a block
abbrev pub behind_block : Block → List Line → List Line
behind_block b ls = made behind_end behind_first b ls

-- Lines that belong to a statement: what they do for it, its place, the position of the first of them, and the lines.
pub record Share : Type 0 where
  pub role : Role
  pub at : ℕ
  pub from : ℕ
  pub lines : List Line

-- of a thread with so many lines
module _ (total : ℕ) where
  -- The first so many of the lines that are left. The position of the first is how many lines stand in front of it.
  abbrev pub share : Role → (at count : ℕ) → (left : List Line) → Share
  share role at count ls = record { role = role; at = at; from = total - length ls; lines = take count ls }

  -- Of a statement at a place, by its first block, and by the shares of the blocks inside it.
  abbrev pub shares_inside : (at : ℕ) → (first : Block) → Inside (List Line → List Share) → (stated : Option State) → List Line → List Share
  shares_inside at first (of_either e join a b) stated ls =
      share Guard at (own_count ls) ls
      ∷ (a (behind_own ls) ++ (share Past at 1 (behind_block first (behind_own ls)) ∷ b (drop 1 (behind_block first (behind_own ls)))))
  shares_inside at first (of_turn e inv a) stated ls =
      share Guard at (own_count ls) ls ∷ (a (behind_own ls) ++ (share Back at 1 (behind_block first (behind_own ls)) ∷ []))
  shares_inside at first of_none (Some j) ls = []
  shares_inside at first of_none None ls = share Whole at (own_count ls) ls ∷ []

  -- of no statement, and of one and the rest
  abbrev pub no_shares : List Line → List Share
  no_shares ls = []

  abbrev pub shares_or : (at : ℕ) → Stm → List Proof → Inside (List Line → List Share) → (rest : List Line → List Share) → List Line → List Share
  shares_or at s proofs inside rest ls = shares_inside at (first_block (parts s).nested) inside (parts s).state ls ++ rest (behind_statement s ls)

  -- the shares of a statement at a place, by the lines from its first on
  abbrev pub statement_shares : (at : ℕ) → Stm → List Line → List Share
  statement_shares at s ls = shares_inside at (first_block (parts s).nested) (made_inside no_shares shares_or s) (parts s).state ls

  -- the shares of the statements of a block
  abbrev pub block_shares : Block → List Line → List Share
  block_shares b ls = made no_shares shares_or b ls
