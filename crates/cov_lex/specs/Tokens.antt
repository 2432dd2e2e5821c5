-- What the tokens of a text are.
use Rattle.std.specs.Prelude.{◌≡◌, ℕ, ◌-◌, ◌<◌, ◌≤◌, List, length, take, drop, IsTrue}
use Rattle.std.specs.List.{list_all, All, AllPairs}
use Rattle.std.specs.Str.Parse.{digits_value}
use Rattle.cov_expr.specs.Bytes.{is_digit}
use Rattle.cov_expr.specs.Names.{IsName}
use Rattle.cov_expr.specs.Spellings.{is_keyword}
use Rattle.cov_lex.specs.Signs.{is_sign}
use Rattle.cov_lex.specs.declared.token.TokenKind.{TokenKind}
use Rattle.cov_lex.specs.declared.token.TokenKind.TheVariants.{Keyword, Name, Number, Sign}
use Rattle.cov_lex.specs.declared.token.Token.{Token}

-- Bytes are those of a token of a kind.
abbrev pub Spells : List ℕ → TokenKind → Type 0
Spells bytes Keyword = IsTrue (is_keyword bytes)
Spells bytes Name = IsName bytes
Spells bytes (Number n) = IsTrue (list_all is_digit bytes) × (digits_value 10 bytes ≡ n)
Spells bytes Sign = IsTrue (is_sign bytes)

-- the bytes of a token
abbrev pub bytes_of : List ℕ → Token → List ℕ
bytes_of text t = take (t.end - t.at) (drop t.at text)

-- A token has some bytes of the text, and they are those of its kind.
pub record IsToken (text : List ℕ) (t : Token) : Type 0 where
  pub some : t.at < t.end
  pub within : t.end ≤ length text
  pub spelled : Spells (bytes_of text t) t.kind

-- Each is a token of the text, and ends before each later one begins.
pub record AreTokens (text : List ℕ) (ts : List Token) : Type 0 where
  pub each : All (IsToken text) ts
  pub in_order : AllPairs (λ t u. t.end ≤ u.at) ts
