-- Words of private contracts: what statements read and write, and which of them are never reached, with their annotations passed over.
use Rattle.std.specs.Prelude.{ℕ, List, [], Bool, Option, Some, None}
use Rattle.std.specs.Option.{option_map_or}
use Rattle.cov_ast.specs.Plain.{Cmd, Cmds, next, none, plain_block, plain_stm}
use Rattle.cov_ast.specs.Syntax.{Stm, Block}
use Rattle.statement_parts.specs.Parts.{assigned, collected, collected_in, evaluated, Parts}
use Rattle.explain.specs.NeverReached.{is_endless, of_block, of_blocks, of_front}
use Rattle.explain.specs.StatementUses.{occurrences_in}
use Rattle.explain.specs.declared.warning.Warning.{Warning}

-- Reads and writes ---------------------------------------------------------------------------------------------

-- what a statement itself evaluates
abbrev pub own_reads : Parts → List ℕ
own_reads ps = occurrences_in (evaluated ps)

abbrev pub stm_reads : Stm → List ℕ
stm_reads s = collected own_reads s

abbrev pub block_reads : Block → List ℕ
block_reads b = collected_in own_reads b

abbrev pub stm_writes : Stm → List ℕ
stm_writes s = collected assigned s

abbrev pub block_writes : Block → List ℕ
block_writes b = collected_in assigned b

-- Never reached ------------------------------------------------------------------------------------------------

-- the first statement of a block, if it has one
abbrev pub first : Cmds → Option Cmd
first none = None
first (next at c rest) = Some c

-- a statement without annotations; of a note nothing is left
abbrev pub left_of : Stm → Option Cmd
left_of s = first (plain_stm s 0 none)

-- a statement itself; a note is passed over
abbrev pub stm_front : (is_cut_off : Bool) → Stm → (at : ℕ) → List Warning
stm_front is_cut_off s at = option_map_or (λ c. of_front is_cut_off at) (left_of s) []

-- whether what stands behind a statement is cut off; a note leaves it as it was
abbrev pub cuts_off : (is_cut_off : Bool) → Stm → Bool
cuts_off is_cut_off s = option_map_or is_endless (left_of s) is_cut_off

-- in the blocks of a statement
abbrev pub stm_unreached : Stm → List Warning
stm_unreached s = option_map_or of_blocks (left_of s) []

abbrev pub block_unreached : (is_cut_off : Bool) → Block → List Warning
block_unreached is_cut_off b = of_block is_cut_off (plain_block b)
