-- The numbers in a text are words.
use Rattle.std.proofs.Common.{◌≡◌, ℕ, zero, suc, ◌+◌, ◌-◌, List, [], ◌∷◌, ◌++◌, length, map, take, codes, Bool, true, false, if◌then◌else◌, ◌==◌, nat_lt, Result, Ok, Err, refl, subst, arith, IfOk}
use Rattle.std.specs.List.{list_any, take_while, before_first}
use Rattle.std.specs.Str.{bytes_eq}
use Rattle.std.specs.Str.Parse.{digits_value}
use Rattle.std.proofs.lemmas.Bool.{ltb-false}
use Rattle.cov_expr.specs.Bytes.{is_lower, is_digit, is_word}
use Rattle.cov_expr.specs.Spellings.{is_keyword}
use Rattle.cov_expr.specs.Words.{IsWord}
use Rattle.cov_expr.specs.declared.kind.Kind.TheVariants as k
use Rattle.cov_grammar.specs.declared.token.Token.{Token}
use Rattle.cov_grammar.specs.LookAhead.{kind_is}
use Rattle.cov_lex.specs.Classified.{kind_of}
use Rattle.cov_lex.specs.Lexing.{Piece, Gap, Part, Lexed, piece_at, word_of, number_of, sign_of, tokens_from, tokens_of, token_and_rest, piece_and_rest}
use Rattle.cov_lex.specs.Signs.{is_blank, doubles, singles}
use Rattle.cov_lex.specs.Tokens.{bytes_of}
use Rattle.cov_lex.specs.declared.fault.LexFault.{LexFault}
use Rattle.cov_lex.specs.declared.fault.LexFault.TheVariants.{BadByte, NumberTooLarge, NameTooLong}
use Rattle.cov_lex.specs.declared.token.Token as lexed
use Rattle.cov_lex.specs.declared.token.TokenKind.{TokenKind}
use Rattle.cov_lex.specs.declared.token.TokenKind.TheVariants as raw
use Rattle.cov_text.specs.Numbered as numbered
use Rattle.cov_text.specs.Text.{lexed_of, numbered_of, words_of}
use Rattle.cov_text.specs.Versioned.{foreign, of_first, is_other_number, behind_version, versioned}

-- Bytes --------------------------------------------------------------------------------------------------------

-- a number is a word
abbrev IsNumberWord : TokenKind → Type 0
IsNumberWord raw.Name = Unit {0}
IsNumberWord raw.Keyword = Unit {0}
IsNumberWord (raw.Number n) = IsWord n
IsNumberWord raw.Sign = Unit {0}

abbrev IsWordPiece : Piece → Type 0
IsWordPiece (Gap n) = Unit {0}
IsWordPiece (Part kind n) = IsNumberWord kind

abbrev HasWordPiece : Result Piece LexFault → Type 0
HasWordPiece r = IfOk r IsWordPiece

word_piece : (at : ℕ) (run : List ℕ) → HasWordPiece (word_of at run)
word_piece at run = by (nat_lt 32 (length run))
  where
    by_keyword : (c : Bool) → IsNumberWord (if c then raw.Keyword else raw.Name)
    by_keyword true = tt
    by_keyword false = tt

    by : (c : Bool) → HasWordPiece (if c then Err (NameTooLong at) else Ok (Part (if is_keyword run then raw.Keyword else raw.Name) (length run)))
    by true = tt
    by false = by_keyword (is_keyword run)

number_piece : (at : ℕ) (run : List ℕ) → HasWordPiece (number_of at run)
number_piece at run = by (nat_lt 4294967295 (digits_value 10 run)) refl
  where
    by : (c : Bool) → nat_lt 4294967295 (digits_value 10 run) ≡ c
        → HasWordPiece (if c then Err (NumberTooLarge at) else Ok (Part (raw.Number (digits_value 10 run)) (length run)))
    by true e = tt
    by false e = omega (arith, ltb-false 4294967295 (digits_value 10 run) e)

sign_piece : (at : ℕ) (text : List ℕ) → HasWordPiece (sign_of at text)
sign_piece at text = by_two (list_any (bytes_eq (take 2 text)) doubles)
  where
    by_one : (c : Bool) → HasWordPiece (if c then Ok (Part raw.Sign 1) else Err (BadByte at))
    by_one true = tt
    by_one false = tt

    by_two : (c : Bool) → HasWordPiece (if c then Ok (Part raw.Sign 2) else (if list_any (bytes_eq (take 1 text)) singles then Ok (Part raw.Sign 1) else Err (BadByte at)))
    by_two true = tt
    by_two false = by_one (list_any (bytes_eq (take 1 text)) singles)

one_of : (c : Bool) (x y : Result Piece LexFault) → HasWordPiece x → HasWordPiece y → HasWordPiece (if c then x else y)
one_of true x y h g = h
one_of false x y h g = g

-- what stands at the front of a text
module _ (at b : ℕ) (bs : List ℕ) where
  abbrev digits : Result Piece LexFault
  digits = if is_digit b then number_of at (take_while is_digit (b ∷ bs)) else sign_of at (b ∷ bs)

  abbrev letters : Result Piece LexFault
  letters = if is_lower b then word_of at (take_while is_word (b ∷ bs)) else digits

  abbrev comment : Result Piece LexFault
  comment = Ok (Gap (length (before_first (λ c. c == 10) (b ∷ bs))))

  abbrev shown : Result Piece LexFault
  shown = if bytes_eq (take 2 (b ∷ bs)) (codes "//") then comment else letters

  by_digits : HasWordPiece digits
  by_digits =
      one_of (is_digit b) (number_of at (take_while is_digit (b ∷ bs))) (sign_of at (b ∷ bs))
      (number_piece at (take_while is_digit (b ∷ bs))) (sign_piece at (b ∷ bs))

  first_piece : HasWordPiece (piece_at at (b ∷ bs))
  first_piece =
      one_of (is_blank b) (Ok (Gap 1)) shown tt
      (one_of (bytes_eq (take 2 (b ∷ bs)) (codes "//")) comment letters tt
      (one_of (is_lower b) (word_of at (take_while is_word (b ∷ bs))) digits (word_piece at (take_while is_word (b ∷ bs))) by_digits))

-- Tokens -------------------------------------------------------------------------------------------------------

abbrev AreNumberWords : List lexed.Token → Type 0
AreNumberWords [] = Unit {0}
AreNumberWords (t ∷ ts) = IsNumberWord t.kind × AreNumberWords ts

abbrev HasNumberWords : Lexed → Type 0
HasNumberWords r = IfOk r AreNumberWords

words_behind : (p : Result Piece LexFault) (at : ℕ) (go : ℕ → Lexed) → HasWordPiece p → ((n : ℕ) → HasNumberWords (go n)) → HasNumberWords (piece_and_rest p at go)
words_behind (Ok (Gap n)) at go p h = h (n - 1)
words_behind (Ok (Part kind n)) at go p h = by (go (n - 1)) (h (n - 1))
  where
    by : (r : Lexed) → HasNumberWords r → HasNumberWords (token_and_rest (record { kind = kind; at = at; end = at + n }) r)
    by (Ok ts) g = (p, g)
    by (Err fault) g = tt
words_behind (Err fault) at go p h = tt

words_from : (skipped at : ℕ) (bs : List ℕ) → HasNumberWords (tokens_from skipped at bs)
words_from skipped at [] = tt
words_from (suc n) at (b ∷ bs) = words_from n (at + 1) bs
words_from zero at (b ∷ bs) = words_behind (piece_at at (b ∷ bs)) at (λ n. tokens_from n (at + 1) bs) (first_piece at b bs) (λ n. words_from n (at + 1) bs)

lexed_words : (text : List ℕ) (ts : List lexed.Token) → tokens_of text ≡ Ok ts → AreNumberWords ts
unfolding tokens_of
lexed_words text ts e = subst HasNumberWords e (words_from 0 0 text)

-- Tokens as the grammar takes them -------------------------------------------------------------------------------

-- the value of each number among tokens is a word
abbrev pub HaveWords : List Token → Type 0
HaveWords [] = Unit {0}
HaveWords (t ∷ ts) = (t.kind ≡ k.Number → IsWord t.value) × HaveWords ts

value_word : (kind : TokenKind) (word : List ℕ) (names : List (List ℕ)) → IsNumberWord kind → kind_of kind word ≡ k.Number → IsWord (numbered.token_value kind word names)
value_word raw.Name word names h e = cc
value_word raw.Keyword word names h e = omega arith
value_word (raw.Number n) word names h e = h
value_word raw.Sign word names h e = omega arith

numbered_words : (text : List ℕ) (names : List (List ℕ)) (ts : List lexed.Token) → AreNumberWords ts → HaveWords (map (numbered.word_of text names) ts)
numbered_words text names [] h = tt
numbered_words text names (t ∷ ts) h = (value_word t.kind (bytes_of text t) names h.0, numbered_words text names ts h.1)

-- one token, which may become foreign
abbrev made : Bool → Token → Token
made b t = if b then foreign t else t

made_word : (b : Bool) (t : Token) → (t.kind ≡ k.Number → IsWord t.value) → (made b t).kind ≡ k.Number → IsWord (made b t).value
made_word true t h e = cc
made_word false t h e = h e

first_words : (ts : List Token) → HaveWords ts → HaveWords (map of_first ts)
first_words [] h = tt
first_words (t ∷ ts) h = (made_word (kind_is k.Output t.kind) t h.0, first_words ts h.1)

behind_words : (ts : List Token) → HaveWords ts → HaveWords (behind_version ts)
behind_words [] h = tt
behind_words (t ∷ ts) h = (made_word (is_other_number t) t h.0, h.1)

versioned_words : (ts : List Token) → HaveWords ts → HaveWords (versioned ts)
versioned_words [] h = tt
versioned_words (t ∷ ts) h = by (kind_is k.Version t.kind)
  where
    by : (b : Bool) → HaveWords (if b then t ∷ behind_version ts else map of_first (t ∷ ts))
    by true = (h.0, behind_words ts h.1)
    by false = first_words (t ∷ ts) h

pub text_words : (text : List ℕ) → tokens_of text ≡ Ok (lexed_of text) → HaveWords (words_of text)
unfolding words_of numbered_of
text_words text lexes = versioned_words (numbered_of text) (numbered_words text (numbered.names_of text (lexed_of text)) (lexed_of text) (lexed_words text (lexed_of text) lexes))

-- Pieces -------------------------------------------------------------------------------------------------------

front_words : (us vs : List Token) → HaveWords (us ++ vs) → HaveWords us
front_words [] vs h = tt
front_words (u ∷ us) vs h = (h.0, front_words us vs h.1)

rest_words : (us vs : List Token) → HaveWords (us ++ vs) → HaveWords vs
rest_words [] vs h = h
rest_words (u ∷ us) vs h = rest_words us vs h.1

pub left_words : (us vs ts : List Token) → ts ≡ us ++ vs → HaveWords ts → HaveWords us
left_words us vs ts e h = front_words us vs (subst HaveWords e h)

pub right_words : (us vs ts : List Token) → ts ≡ us ++ vs → HaveWords ts → HaveWords vs
right_words us vs ts e h = rest_words us vs (subst HaveWords e h)
