-- How a line is cut off a text.
use Rattle.std.specs.Prelude.{◌≡◌, ℕ, ◌<◌, List, ◌∷◌, length}
use Rattle.code_text.specs.Inside.ListingReading.{pieces}

-- The text begins with a line of these fields, and this is what stands behind its line feed.
pub record IsCut (text : List ℕ) (fs : List (List ℕ)) (rest : List ℕ) : Type 0 where
  pub line : List ℕ
  pub cut : pieces 10 text ≡ line ∷ pieces 10 rest
  pub fields : fs ≡ pieces 32 line
  pub shorter : length rest < length text
