-- Which texts are names.
use Rattle.std.specs.Prelude.{ℕ, ◌≤◌, ◌<◌, ◌-◌, List, [], ◌∷◌, ◌++◌, length, replicate, Bool, false, IsTrue, not, ◌&&◌}
use Rattle.std.specs.List.{list_all}
use Rattle.cov_expr.specs.Bytes.{is_lower, is_word}
use Rattle.cov_expr.specs.Spellings.{is_keyword}
use Rattle.cov_expr.specs.declared.limits.TheConstants.{MOST_NAME_BYTES}

-- a lower-case letter, and then letters, digits and underscores
abbrev pub is_word_text : List ℕ → Bool
is_word_text [] = false
is_word_text (b ∷ bs) = is_lower b && list_all is_word bs

-- A name is a word that is no keyword, of as many bytes at most as a name may have.
pub record IsName (text : List ℕ) : Type 0 where
  pub some : 0 < length text
  pub short : length text ≤ MOST_NAME_BYTES
  pub word : IsTrue (is_word_text text)
  pub free : IsTrue (not (is_keyword text))

-- with zeros up to the most bytes of a name
abbrev pub padded : List ℕ → List ℕ
padded text = text ++ replicate (MOST_NAME_BYTES - length text) 0
