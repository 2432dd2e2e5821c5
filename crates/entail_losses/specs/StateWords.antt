-- The words on a state on the way to a point.
use Rattle.std.specs.Prelude.{ℕ, List, ◌++◌, codes, decimal}
use Rattle.text_parts.specs.Lines.{line}
use Rattle.entail_losses.specs.declared.left_out_states.StateKind.{StateKind}
use Rattle.entail_losses.specs.declared.left_out_states.StateKind.TheVariants.{Join, Inv, Note}

-- what a state is, with the statement that it is of, which gives its line
abbrev pub kind_text : StateKind → List ℕ
kind_text Join = codes "join of the `if`"
kind_text Inv = codes "inv of the `while`"
kind_text Note = codes "note"

-- the line of a state
abbrev pub line_text : (bytes : List ℕ) → (at : ℕ) → List ℕ
line_text bytes at = codes ", line " ++ decimal (line bytes at)

-- the same, and the end of a line of text
abbrev pub line_part : (bytes : List ℕ) → (at : ℕ) → List ℕ
line_part bytes at = line_text bytes at ++ codes "\n"
