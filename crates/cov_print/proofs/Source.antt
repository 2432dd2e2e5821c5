-- What the tokens of a text are as words: names by number, numbers, keywords and signs.
use Rattle.std.proofs.Common.{◌≡◌, ℕ, zero, suc, ◌+◌, ◌-◌, ◌<◌, ◌≤◌, nat_lt, List, [], ◌∷◌, ◌++◌, length, map, get_or, take, drop, Bool, true, false, not, cond, ◌||◌, ◌&&◌, if◌then◌else◌, codes, Result, Ok, Err, IfOk, refl, sym, ap, subst, ◌∙◌, arith, true≢false, length-append, append-nil, append_assoc, IsTrue}
use Rattle.std.specs.List.{list_any, list_all, take_while}
use Rattle.std.specs.Str.{bytes_eq}
use Rattle.std.specs.Str.Parse.{digits_value}
use Rattle.cov_expr.specs.Spellings.{is_keyword}
use Rattle.cov_expr.specs.Bytes.{is_lower, is_digit, is_word}
use Rattle.cov_expr.specs.declared.expr.TheConstants.{HOLE}
use Rattle.cov_lex.specs.Signs.{is_sign, is_blank, doubles, singles}
use Rattle.cov_lex.specs.declared.token.Token as lexed
use Rattle.cov_lex.specs.declared.token.TokenKind.{TokenKind}
use Rattle.cov_lex.specs.declared.token.TokenKind.TheVariants as raw
use Rattle.cov_lex.specs.Lexing.{Piece}
use Rattle.cov_lex.specs.Lexing.{Gap, Part}
use Rattle.cov_lex.specs.declared.fault.LexFault.{LexFault}
use Rattle.cov_lex.specs.Lexing.{Lexed, piece_at, tokens_from, tokens_of, token_and_rest, piece_and_rest, word_of, number_of, sign_of}
use Rattle.cov_lex.specs.Tokens.{bytes_of, IsToken, Spells}
use Rattle.cov_expr.specs.declared.kind.Kind.{Kind}
use Rattle.cov_expr.specs.declared.kind.Kind.TheVariants as k
use Rattle.cov_lex.specs.Classified.{kind_of}
use Rattle.cov_lex.proofs.Lexical.{is_mute, spelled_is_mute, keyword_parts}
use Rattle.cov_lex.proofs.Signs.{sign_begins}
use Rattle.cov_lex.proofs.Spelled.{are_tokens}
use Rattle.cov_print.proofs.Named.{Every}
use Rattle.cov_print.proofs.Keeps.{leaf}

-- Kinds of keywords and signs ----------------------------------------------------------------------------------

pub mute_leaf : (known : ℕ → Bool) → known HOLE ≡ false → (j : Kind) (v : ℕ) → is_mute j ≡ true → (kept : List ℕ → List ℕ) → kept [] ≡ [] → kept (HOLE ∷ []) ≡ [] → kept (leaf j v) ≡ []
mute_leaf known e k.Name v h kept g i = absurd (true≢false (sym h))
mute_leaf known e k.Hole v h kept g i = i
mute_leaf known e _ v h kept g i = g

pub keyword_mute : (text : List ℕ) → is_keyword text ≡ true → is_mute (kind_of raw.Keyword text) ≡ true
keyword_mute text h = spelled_is_mute text (keyword_parts text h).1

pub sign_mute : (text : List ℕ) → is_sign text ≡ true → is_mute (kind_of raw.Sign text) ≡ true
sign_mute text h = spelled_is_mute text (sign_begins text h).1

-- Numbers ------------------------------------------------------------------------------------------------------

-- a number is a word
abbrev pub IsSmall : TokenKind → Type 0
IsSmall raw.Name = Unit {0}
IsSmall raw.Keyword = Unit {0}
IsSmall (raw.Number n) = n ≤ 4294967295
IsSmall raw.Sign = Unit {0}

abbrev SmallPiece : Result Piece LexFault → Type 0
SmallPiece (Ok (Gap n)) = Unit {0}
SmallPiece (Ok (Part kind n)) = IsSmall kind
SmallPiece (Err fault) = Unit {0}

word_small : (at : ℕ) (run : List ℕ) → SmallPiece (word_of at run)
word_small at run = by (nat_lt 32 (length run)) (is_keyword run)
  where
    by : (a b : Bool) → SmallPiece (if a then Err (Rattle.cov_lex.specs.declared.fault.LexFault.TheVariants.NameTooLong at) else Ok (Part (if b then raw.Keyword else raw.Name) (length run)))
    by true b = tt
    by false true = tt
    by false false = tt

number_small : (at : ℕ) (run : List ℕ) → SmallPiece (number_of at run)
number_small at run = by (nat_lt 4294967295 (digits_value 10 run)) refl
  where
    by : (a : Bool) → nat_lt 4294967295 (digits_value 10 run) ≡ a → SmallPiece (if a then Err (Rattle.cov_lex.specs.declared.fault.LexFault.TheVariants.NumberTooLarge at) else Ok (Part (raw.Number (digits_value 10 run)) (length run)))
    by true e = tt
    by false e = grind (arith, e)

sign_small : (at : ℕ) (text : List ℕ) → SmallPiece (sign_of at text)
sign_small at text = by (list_any (bytes_eq (take 2 text)) doubles) (list_any (bytes_eq (take 1 text)) singles)
  where
    by : (a b : Bool) → SmallPiece (if a then Ok (Part raw.Sign 2) else (if b then Ok (Part raw.Sign 1) else Err (Rattle.cov_lex.specs.declared.fault.LexFault.TheVariants.BadByte at)))
    by true b = tt
    by false true = tt
    by false false = tt

choice_small : (a b c d : Bool) (n at : ℕ) (x y z : Result Piece LexFault) → SmallPiece x → SmallPiece y → SmallPiece z
    → SmallPiece (if a then Ok (Gap 1) else (if b then Ok (Gap n) else (if c then x else (if d then y else z))))
choice_small true b c d n at x y z p q r = tt
choice_small false true c d n at x y z p q r = tt
choice_small false false true d n at x y z p q r = p
choice_small false false false true n at x y z p q r = q
choice_small false false false false n at x y z p q r = r

piece_small : (at b : ℕ) (bs : List ℕ) → SmallPiece (piece_at at (b ∷ bs))
piece_small at b bs =
    choice_small (is_blank b) (bytes_eq (take 2 (b ∷ bs)) (codes "//")) (is_lower b) (is_digit b) (length (Rattle.std.specs.List.before_first (λ c. Rattle.std.proofs.Common.◌==◌ c 10) (b ∷ bs))) at
    (word_of at (take_while is_word (b ∷ bs))) (number_of at (take_while is_digit (b ∷ bs))) (sign_of at (b ∷ bs))
    (word_small at (take_while is_word (b ∷ bs))) (number_small at (take_while is_digit (b ∷ bs))) (sign_small at (b ∷ bs))

abbrev AreSmall : List lexed.Token → Type 0
AreSmall ts = Every (λ t. IsSmall t.kind) ts

front_small : (t : lexed.Token) (r : Lexed) → IsSmall t.kind → IfOk r AreSmall → IfOk (token_and_rest t r) AreSmall
front_small t (Ok ts) h g = (h, g)
front_small t (Err fault) h g = tt

behind_small : (p : Result Piece LexFault) (at : ℕ) (go : ℕ → Lexed) → SmallPiece p → ((n : ℕ) → IfOk (go n) AreSmall) → IfOk (piece_and_rest p at go) AreSmall
behind_small (Ok (Gap n)) at go h g = g (n - 1)
behind_small (Ok (Part kind n)) at go h g = front_small (record { kind = kind; at = at; end = at + n }) (go (n - 1)) h (g (n - 1))
behind_small (Err fault) at go h g = tt

small_from : (skipped at : ℕ) (bs : List ℕ) → IfOk (tokens_from skipped at bs) AreSmall
small_from skipped at [] = tt
small_from (suc n) at (b ∷ bs) = small_from n (at + 1) bs
small_from zero at (b ∷ bs) = behind_small (piece_at at (b ∷ bs)) at (λ n. tokens_from n (at + 1) bs) (piece_small at b bs) (λ n. small_from n (at + 1) bs)

-- Tokens -------------------------------------------------------------------------------------------------------

-- a token is of its kind, and a number is a word
abbrev pub IsSound : List ℕ → lexed.Token → Type 0
IsSound text t = Spells (bytes_of text t) t.kind × IsSmall t.kind

each_sound : (text : List ℕ) (all ts : List lexed.Token) (n : ℕ) → ((i : ℕ) (d : lexed.Token) → i < length ts → IsToken text (get_or ts i d)) → AreSmall ts → Every (IsSound text) ts
each_sound text all [] n f g = tt
each_sound text all (t ∷ ts) n f g = (((f 0 t (omega arith)).spelled, g.0), each_sound text all ts n (λ i d h. f (suc i) d (omega arith)) g.1)

pub sound_tokens : (text : List ℕ) (ts : List lexed.Token) → tokens_of text ≡ Ok ts → Every (IsSound text) ts
unfolding tokens_of
sound_tokens text ts e =
    each_sound text ts ts 0 (λ i d h. (are_tokens text ts e).each i d h) (subst (λ r. IfOk r AreSmall) e (small_from 0 0 text))
