-- The only reading of a text as tokens.
use Rattle.std.specs.Prelude.{◌≡◌, ℕ, zero, suc, ◌+◌, ◌-◌, ◌==◌, nat_lt, List, [], ◌∷◌, length, if◌then◌else◌, take, codes, Result, Ok, Err}
use Rattle.std.specs.List.{list_any, take_while, before_first}
use Rattle.std.specs.Str.{bytes_eq}
use Rattle.std.specs.Str.Parse.{digits_value}
use Rattle.cov_expr.specs.Bytes.{is_lower, is_digit, is_word}
use Rattle.cov_expr.specs.Spellings.{is_keyword}
use Rattle.cov_expr.specs.declared.limits.TheConstants.{MOST_NAME_BYTES}
use Rattle.cov_lex.specs.Signs.{is_blank, doubles, singles}
use Rattle.cov_lex.specs.declared.token.TokenKind.{TokenKind}
use Rattle.cov_lex.specs.declared.token.TokenKind.TheVariants.{Keyword, Name, Number, Sign}
use Rattle.cov_lex.specs.declared.token.Token.{Token}
use Rattle.cov_lex.specs.declared.fault.LexFault.{LexFault}
use Rattle.cov_lex.specs.declared.fault.LexFault.TheVariants.{BadByte, NumberTooLarge, NameTooLong, NoMemory}

-- What stands at a place ---------------------------------------------------------------------------------------

-- a blank or a comment, or a token of a kind, of so many bytes
pub data Piece : Type 0 where
  Gap : ℕ → Piece
  Part : TokenKind → ℕ → Piece

-- a whole run of word bytes that begins at an offset
abbrev pub word_of : ℕ → List ℕ → Result Piece LexFault
word_of at run = if nat_lt MOST_NAME_BYTES (length run) then Err (NameTooLong at) else Ok (Part (if is_keyword run then Keyword else Name) (length run))

-- a whole run of digits
abbrev pub number_of : ℕ → List ℕ → Result Piece LexFault
number_of at run =
    if nat_lt 4294967295 (digits_value 10 run) then Err (NumberTooLarge at) else Ok (Part (Number (digits_value 10 run)) (length run))

-- the longest sign at the front of a text
abbrev pub sign_of : ℕ → List ℕ → Result Piece LexFault
sign_of at text =
    if list_any (bytes_eq (take 2 text)) doubles then Ok (Part Sign 2)
    else (if list_any (bytes_eq (take 1 text)) singles then Ok (Part Sign 1)
    else Err (BadByte at))

-- What stands at the front of a text that begins at an offset and isn't empty: a blank, a comment up to the next line
-- feed or the end, or the longest token.
abbrev pub piece_at : ℕ → List ℕ → Result Piece LexFault
piece_at at [] = Ok (Gap 0)
piece_at at (b ∷ bs) =
    if is_blank b then Ok (Gap 1)
    else (if bytes_eq (take 2 (b ∷ bs)) (codes "//") then Ok (Gap (length (before_first (λ c. c == 10) (b ∷ bs))))
    else (if is_lower b then word_of at (take_while is_word (b ∷ bs))
    else (if is_digit b then number_of at (take_while is_digit (b ∷ bs))
    else sign_of at (b ∷ bs))))

-- The whole text -----------------------------------------------------------------------------------------------

abbrev pub Lexed : Type 0
Lexed = Result (List Token) LexFault

abbrev pub token_and_rest : Token → Lexed → Lexed
token_and_rest t (Ok ts) = Ok (t ∷ ts)
token_and_rest t (Err fault) = Err fault

-- a piece that begins at an offset, and what is read behind the bytes that it has besides its first
abbrev pub piece_and_rest : Result Piece LexFault → ℕ → (ℕ → Lexed) → Lexed
piece_and_rest (Ok (Gap n)) at rest = rest (n - 1)
piece_and_rest (Ok (Part kind n)) at rest = token_and_rest (record { kind = kind; at = at; end = at + n }) (rest (n - 1))
piece_and_rest (Err fault) at rest = Err fault

-- The tokens of a text that begins at an offset, behind so many bytes of the piece before it. The first fault ends it.
abbrev pub tokens_from : (skipped at : ℕ) → List ℕ → Lexed
tokens_from skipped at [] = Ok []
tokens_from (suc k) at (b ∷ bs) = tokens_from k (at + 1) bs
tokens_from zero at (b ∷ bs) = piece_and_rest (piece_at at (b ∷ bs)) at (λ k. tokens_from k (at + 1) bs)

-- The tokens of a text, or its lexical fault of least offset.
unfoldable pub tokens_of : List ℕ → Lexed
tokens_of text = tokens_from 0 0 text

-- What was answered is the reading, unless memory ran out.
abbrev pub Gives : {A : Type 0} → Result A LexFault → Result A LexFault → Type 0
Gives (Ok ts) reading = reading ≡ Ok ts
Gives (Err NoMemory) reading = Unit {0}
Gives (Err fault) reading = reading ≡ Err fault
