-- What stands at the front of a text has bytes of it, and they are those of its kind.
use Rattle.std.proofs.Common.{◌≡◌, ℕ, ◌≤◌, ◌<◌, List, [], ◌∷◌, length, take, Bool, true, false, cond, not, ◌&&◌, ◌||◌, ◌==◌, nat_lt, codes, if◌then◌else◌, Result, Ok, Err, refl, sym, ap, subst, ◌∙◌, arith, get_or, length-take, IfOk}
use Rattle.std.proofs.lemmas.List.Folds.{length-prefix_len}
use Rattle.std.proofs.lemmas.List.Sums.{prefix_len-le-length, take_while-cons}
use Rattle.std.proofs.lemmas.Slice.Eq.{bytes_eq-Decides}
use Rattle.std.specs.List.{list_all, list_any, take_while, before_first}
use Rattle.std.specs.Str.{bytes_eq}
use Rattle.std.specs.Str.Parse.{digits_value}
use Rattle.cov_expr.specs.Bytes.{is_lower, is_digit, is_word}
use Rattle.cov_expr.specs.Names.{is_word_text}
use Rattle.cov_expr.specs.Spellings.{is_keyword}
use Rattle.cov_lex.specs.Signs.{is_blank, doubles, singles}
use Rattle.cov_lex.proofs.Signs.{same_length, doubles_length, singles_length, double_is_sign, single_is_sign}
use Rattle.cov_lex.specs.Tokens.{Spells}
use Rattle.cov_lex.specs.Lexing.{Piece, Gap, Part, piece_at, word_of, number_of, sign_of}
use Rattle.cov_lex.specs.declared.token.TokenKind.{TokenKind}
use Rattle.cov_lex.specs.declared.token.TokenKind.TheVariants.{Keyword, Name, Number, Sign}
use Rattle.cov_lex.specs.declared.fault.LexFault.{LexFault}
use Rattle.cov_lex.specs.declared.fault.LexFault.TheVariants.{BadByte, NumberTooLarge, NameTooLong}

abbrev pub HasBytes : ℕ → List ℕ → Type 0
HasBytes n text = (0 < n) × (n ≤ length text)

abbrev pub IsPiece : List ℕ → Piece → Type 0
IsPiece text (Gap n) = HasBytes n text
IsPiece text (Part kind n) = HasBytes n text × Spells (take n text) kind

abbrev Good : List ℕ → Result Piece LexFault → Type 0
Good text r = IfOk r (IsPiece text)

-- Runs ---------------------------------------------------------------------------------------------------------

pub run_passes : (p : ℕ → Bool) (xs : List ℕ) → list_all p (take_while p xs) ≡ true
run_passes p [] = refl
run_passes p (x ∷ xs) = ap (list_all p) (take_while-cons p x xs) ∙ by (p x) refl (run_passes p xs)
  where
    by : (b : Bool) → p x ≡ b → list_all p (take_while p xs) ≡ true → list_all p (cond b (x ∷ take_while p xs) []) ≡ true
    by true e tail = ap (λ c. c && list_all p (take_while p xs)) e ∙ tail
    by false e tail = refl

-- a run whose first byte passes
module _ (p : ℕ → Bool) (b : ℕ) (bs : List ℕ) (first : p b ≡ true) where
  run_is : take_while p (b ∷ bs) ≡ b ∷ take_while p bs
  run_is = take_while-cons p b bs ∙ ap (λ c. cond c (b ∷ take_while p bs) []) first

  run_has : HasBytes (length (take_while p (b ∷ bs))) (b ∷ bs)
  run_has = (omega (arith, ap length run_is), omega (arith, length-prefix_len p (b ∷ bs), prefix_len-le-length p (b ∷ bs)))

  run_taken : take (length (take_while p (b ∷ bs))) (b ∷ bs) ≡ take_while p (b ∷ bs)
  run_taken = ap (λ n. take n (b ∷ bs)) (length-prefix_len p (b ∷ bs))

  run_good : (kind : TokenKind) → Spells (take_while p (b ∷ bs)) kind → IsPiece (b ∷ bs) (Part kind (length (take_while p (b ∷ bs))))
  run_good kind spelled = (run_has, subst (λ text. Spells text kind) (sym run_taken) spelled)

-- Words --------------------------------------------------------------------------------------------------------

lower_is_word : (b : ℕ) → is_lower b ≡ true → is_word b ≡ true
lower_is_word b h = ap (λ c. c || is_digit b || b == 95) h

word_good : (at b : ℕ) (bs : List ℕ) → is_lower b ≡ true → Good (b ∷ bs) (word_of at (take_while is_word (b ∷ bs)))
word_good at b bs low = by_length (nat_lt 32 (length run)) refl
  where
    run : List ℕ
    run = take_while is_word (b ∷ bs)

    is_text : is_word_text run ≡ true
    is_text = ap is_word_text (run_is is_word b bs (lower_is_word b low)) ∙ ap (λ c. c && list_all is_word (take_while is_word bs)) low ∙ run_passes is_word bs

    by_keyword : (c : Bool) → is_keyword run ≡ c → length run ≤ 32 → IsPiece (b ∷ bs) (Part (if c then Keyword else Name) (length run))
    by_keyword true e short = run_good is_word b bs (lower_is_word b low) Keyword e
    by_keyword false e short =
        run_good is_word b bs (lower_is_word b low) Name (record {
          some = (run_has is_word b bs (lower_is_word b low)).0;
          short = short;
          word = is_text;
          free = ap not e;
        })

    by_length : (c : Bool) → nat_lt 32 (length run) ≡ c → Good (b ∷ bs) (if c then Err (NameTooLong at) else Ok (Part (if is_keyword run then Keyword else Name) (length run)))
    by_length true e = tt
    by_length false e = by_keyword (is_keyword run) refl (grind (arith, e))

number_good : (at b : ℕ) (bs : List ℕ) → is_digit b ≡ true → Good (b ∷ bs) (number_of at (take_while is_digit (b ∷ bs)))
number_good at b bs digit = by (nat_lt 4294967295 (digits_value 10 run))
  where
    run : List ℕ
    run = take_while is_digit (b ∷ bs)

    by : (c : Bool) → Good (b ∷ bs) (if c then Err (NumberTooLarge at) else Ok (Part (Number (digits_value 10 run)) (length run)))
    by true = tt
    by false = run_good is_digit b bs digit (Number (digits_value 10 run)) (run_passes is_digit (b ∷ bs), refl)

-- Signs --------------------------------------------------------------------------------------------------------

sign_good : (at : ℕ) (text : List ℕ) → Good text (sign_of at text)
sign_good at text = by_two (list_any (bytes_eq (take 2 text)) doubles) refl
  where
    by_one : (c : Bool) → list_any (bytes_eq (take 1 text)) singles ≡ c → Good text (if c then Ok (Part Sign 1) else Err (BadByte at))
    by_one true e = (
      (omega arith, omega (arith, length-take 1 text, same_length (take 1 text) 1 singles e singles_length)),
      single_is_sign (take 1 text) e,
    )
    by_one false e = tt

    by_two : (c : Bool) → list_any (bytes_eq (take 2 text)) doubles ≡ c → Good text (if c then Ok (Part Sign 2) else (if list_any (bytes_eq (take 1 text)) singles then Ok (Part Sign 1) else Err (BadByte at)))
    by_two true e = (
      (omega arith, omega (arith, length-take 2 text, same_length (take 2 text) 2 doubles e doubles_length)),
      double_is_sign (take 2 text) e,
    )
    by_two false e = by_one (list_any (bytes_eq (take 1 text)) singles) refl

-- All ----------------------------------------------------------------------------------------------------------

slash_goes_on : (b : ℕ) (bs : List ℕ) → bytes_eq (take 2 (b ∷ bs)) (codes "//") ≡ true → not (b == 10) ≡ true
slash_goes_on b bs e = ap (λ text. not (get_or text 0 0 == 10)) ((bytes_eq-Decides (take 2 (b ∷ bs)) (codes "//")).0 e)

pub piece_good : (at b : ℕ) (bs : List ℕ) → Good (b ∷ bs) (piece_at at (b ∷ bs))
piece_good at b bs = by_blank (is_blank b)
  where
    text : List ℕ
    text = b ∷ bs

    by_digit : (c : Bool) → is_digit b ≡ c → Good text (if c then number_of at (take_while is_digit text) else sign_of at text)
    by_digit true e = number_good at b bs e
    by_digit false e = sign_good at text

    by_lower : (c : Bool) → is_lower b ≡ c → Good text (if c then word_of at (take_while is_word text) else (if is_digit b then number_of at (take_while is_digit text) else sign_of at text))
    by_lower true e = word_good at b bs e
    by_lower false e = by_digit (is_digit b) refl

    by_comment : (c : Bool) → bytes_eq (take 2 text) (codes "//") ≡ c
        → Good text (if c then Ok (Gap (length (before_first (λ x. x == 10) text)))
        else (if is_lower b then word_of at (take_while is_word text)
        else (if is_digit b then number_of at (take_while is_digit text)
        else sign_of at text)))
    by_comment true e = run_has (λ x. not (x == 10)) b bs (slash_goes_on b bs e)
    by_comment false e = by_lower (is_lower b) refl

    by_blank : (c : Bool) → Good text (if c then Ok (Gap 1) else (if bytes_eq (take 2 text) (codes "//") then Ok (Gap (length (before_first (λ x. x == 10) text))) else (if is_lower b then word_of at (take_while is_word text) else (if is_digit b then number_of at (take_while is_digit text) else sign_of at text))))
    by_blank true = (omega arith, omega arith)
    by_blank false = by_comment (bytes_eq (take 2 text) (codes "//")) refl
