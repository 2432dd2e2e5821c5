-- V10: how wide an expression is that takes more registers than there are.
use Rattle.std.specs.Prelude.{◌≡◌, ◌<◌, ◌-◌, ◌^◌, ℕ, List, [], ◌++◌, min, Option, Some, None, codes, decimal}
use Rattle.cov_expr.specs.Term.{Term}
use Rattle.cov_expr.specs.Trees.{width}

abbrev pub width_text : (many : ℕ) → List ℕ
width_text many = codes "  its width is " ++ decimal many ++ codes "\n"

-- the width, as far as 32 bits go
abbrev pub counted_width : Term → ℕ
counted_width e = min (width e) (2 ^ 32 - 1)

-- of the expression that a statement evaluates, if it does
abbrev pub width_line : Option Term → List ℕ
width_line None = []
width_line (Some e) = width_text (counted_width e)

-- What it tells of ---------------------------------------------------------------------------------------------

-- Of an expression a text tells the width, and it is larger than 7.
pub record TellsOfWidth (e : Term) (text : List ℕ) : Type 0 where
  pub wide : 7 < width e
  pub told : text ≡ width_text (width e)
