-- Words of private contracts: the scene of a walk, and the last line that was counted.
use Rattle.std.specs.Prelude.{◌≡◌, ◌≤◌, ℕ, List, All, length}
use Rattle.code_lines.specs.CodeLines as spec
use Rattle.code_lines.specs.CodeShares.{Share}
use Rattle.code_lines.specs.declared.cursor.Seen.{Seen}
use Rattle.code_lines.specs.declared.walk.Scene.{Scene}
use Rattle.code_text.specs.Listing.{IsSpelled}
use Rattle.risc_machine.specs.declared.parts.Line.{Line}
use Rattle.text_parts.specs.Lines.{line}

-- It is the number of the line of the place.
abbrev pub IsSeen : (bytes : List ℕ) → Seen → Type 0
IsSeen bytes s = s.line ≡ line bytes s.place

-- Lines of a scene are left: there are no more than it has, and they can be spelled by its names.
pub record AreLeft (w : Scene) (ls : List Line) : Type 0 where
  pub within : length ls ≤ w.total
  pub spelled : All (IsSpelled w.parts.now.vars w.parts.now.locks) ls

-- what is told of shares
abbrev pub told : Scene → List Share → List ℕ
told w qs = spec.shares_lines w.bytes.now w.parts.now qs
