-- The keywords and the signs of texts, looked up in the one table of them.
use Rattle.std.specs.Prelude.{ℕ, List, [], ◌∷◌, map, Bool, false, ◌&&◌, if◌then◌else◌, Option, Some, None, is_some}
use Rattle.std.specs.Str.{bytes_eq}
use Rattle.cov_expr.specs.Bytes.{is_lower}
use Rattle.cov_expr.specs.declared.kind.Kind.{Kind}
use Rattle.cov_expr.specs.declared.spelling.TheConstants.{SPELLINGS}

-- the table: each spelling with its kind
unfoldable pub spellings : List (List ℕ × Kind)
spellings = map (λ s. (s.0.now, s.1)) SPELLINGS

-- the kind of the first of these that the text is
abbrev pub kind_among : List (List ℕ × Kind) → List ℕ → Option Kind
kind_among [] text = None
kind_among (s ∷ ss) text = if bytes_eq text s.0 then Some s.1 else kind_among ss text

-- the kind of a keyword or a sign
unfoldable pub kind_of : List ℕ → Option Kind
kind_of text = kind_among spellings text

abbrev pub begins_with_letter : List ℕ → Bool
begins_with_letter [] = false
begins_with_letter (b ∷ bs) = is_lower b

-- A keyword is a spelling of the table that begins with a letter; the others are signs.
unfoldable pub is_keyword : List ℕ → Bool
is_keyword text = begins_with_letter text && is_some (kind_of text)
