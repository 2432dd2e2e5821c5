-- The names of a text are those of its tree, in order; a text with the same names in order numbers them alike.
use Rattle.std.proofs.Common.{◌≡◌, ℕ, ◌<◌, ◌≤◌, nat_lt, List, [], ◌∷◌, ◌++◌, length, map, Bool, true, false, if◌then◌else◌, codes, Ok, refl, sym, ap, ◌∙◌, arith, true≢false, length-append}
use Rattle.std.proofs.lemmas.List.{map-append}
use Rattle.cov_expr.specs.Names.{IsName}
use Rattle.cov_expr.specs.declared.expr.TheConstants.{HOLE}
use Rattle.cov_lex.specs.declared.token.Token as lexed
use Rattle.cov_lex.specs.declared.token.TokenKind.{TokenKind}
use Rattle.cov_lex.specs.declared.token.TokenKind.TheVariants as raw
use Rattle.cov_lex.specs.Lexing.{tokens_of}
use Rattle.cov_lex.specs.Tokens.{bytes_of, Spells}
use Rattle.cov_lex.proofs.Spelled.{are_tokens}
use Rattle.cov_expr.specs.declared.kind.Kind.{Kind}
use Rattle.cov_ast.specs.NameTables.{number_of}
use Rattle.cov_lex.specs.Classified.{kind_of}
use Rattle.cov_text.specs.Numbered.{with_word, with_token, names_onto, token_value, word_of}
use Rattle.cov_text.proofs.NameNumbers.{token_inside}
use Rattle.cov_print.specs.Spelling as spec
use Rattle.cov_print.proofs.Written as w
use Rattle.cov_print.proofs.Written.{Word, plain}
use Rattle.cov_print.proofs.Keeps.{IsAt, Are, leaf, leaves, leaf_of, leaves_of, IsGood, AreGood, AllFit}
use Rattle.cov_print.proofs.Readings.{known, IsPlain, Shows, Show}
use Rattle.cov_print.proofs.Named.{Every, every_append, AreDistinct, number_name, added, IsIn, number_below, name_number}
use Rattle.cov_lex.proofs.Lexical.{is_mute}
use Rattle.cov_print.proofs.Source.{mute_leaf, keyword_mute, sign_mute, IsSmall, IsSound}

-- Names of tokens ----------------------------------------------------------------------------------------------

-- the bytes of a token, if it is a name
abbrev pub named_bytes : TokenKind → List ℕ → List (List ℕ)
named_bytes raw.Name b = b ∷ []
named_bytes raw.Keyword b = []
named_bytes (raw.Number n) b = []
named_bytes raw.Sign b = []

abbrev pub name_bytes : List ℕ → List lexed.Token → List (List ℕ)
name_bytes text [] = []
name_bytes text (t ∷ ts) = named_bytes t.kind (bytes_of text t) ++ name_bytes text ts

pub names_added : (text : List ℕ) (ns : List (List ℕ)) (ts : List lexed.Token) → names_onto text ns ts ≡ added ns (name_bytes text ts)
names_added text ns [] = refl
names_added text ns (t ∷ ts) = names_added text (with_token text ns t) ts ∙ by t.kind
  where
    by : (kind : TokenKind) → added (with_word kind (bytes_of text t) ns) (name_bytes text ts) ≡ added ns (named_bytes kind (bytes_of text t) ++ name_bytes text ts)
    by raw.Name = refl
    by raw.Keyword = refl
    by (raw.Number n) = refl
    by raw.Sign = refl

every_left : {A : Type 0} (P : A → Type 0) (xs ys : List A) → Every P (xs ++ ys) → Every P xs
every_left P [] ys h = tt
every_left P (x ∷ xs) ys h = (h.0, every_left P xs ys h.1)

every_right : {A : Type 0} (P : A → Type 0) (xs ys : List A) → Every P (xs ++ ys) → Every P ys
every_right P [] ys h = h
every_right P (x ∷ xs) ys h = every_right P xs ys h.1

pub all_names : (text : List ℕ) (ts : List lexed.Token) → Every (IsSound text) ts → Every IsName (name_bytes text ts)
all_names text [] h = tt
all_names text (t ∷ ts) h = every_append IsName (named_bytes t.kind (bytes_of text t)) (name_bytes text ts) (by t.kind h.0.0) (all_names text ts h.1)
  where
    by : (kind : TokenKind) → Spells (bytes_of text t) kind → Every IsName (named_bytes kind (bytes_of text t))
    by raw.Name s = (s, tt)
    by raw.Keyword s = tt
    by (raw.Number n) s = tt
    by raw.Sign s = tt

-- Numbers of names ---------------------------------------------------------------------------------------------

-- those that are known
abbrev pub kept : (ℕ → Bool) → List ℕ → List ℕ
kept known [] = []
kept known (x ∷ xs) = if known x then x ∷ kept known xs else kept known xs

kept_append : (known : ℕ → Bool) (xs ys : List ℕ) → kept known (xs ++ ys) ≡ kept known xs ++ kept known ys
kept_append known [] ys = refl
kept_append known (x ∷ xs) ys = by (known x) (kept_append known xs ys)
  where
    by : (b : Bool) → kept known (xs ++ ys) ≡ kept known xs ++ kept known ys → (if b then x ∷ kept known (xs ++ ys) else kept known (xs ++ ys)) ≡ (if b then x ∷ kept known xs else kept known xs) ++ kept known ys
    by true e = ap (λ l. x ∷ l) e
    by false e = e

kept_one : (known : ℕ → Bool) (x : ℕ) (b : Bool) → known x ≡ b → kept known (x ∷ []) ≡ (if b then x ∷ [] else [])
kept_one known x b e = ap (λ c. if c then x ∷ [] else []) e

module _ (all : List (List ℕ)) where
  -- the names of numbers, in order
  abbrev pub spelled : List ℕ → List (List ℕ)
  spelled xs = map (spec.name all) (kept (known all) xs)

  spelled_append : (xs ys : List ℕ) → spelled (xs ++ ys) ≡ spelled xs ++ spelled ys
  spelled_append xs ys = ap (map (spec.name all)) (kept_append (known all) xs ys) ∙ map-append (spec.name all) (kept (known all) xs) (kept (known all) ys)

  spelled_one : (x : ℕ) → known all x ≡ true → spelled (x ∷ []) ≡ spec.name all x ∷ []
  spelled_one x e = ap (map (spec.name all)) (kept_one (known all) x true e)

  spelled_none : (x : ℕ) → known all x ≡ false → spelled (x ∷ []) ≡ []
  spelled_none x e = ap (map (spec.name all)) (kept_one (known all) x false e)

  -- A text's own tokens ----------------------------------------------------------------------------------------

  module _ (text : List ℕ) where
    pub good_words : (ts : List lexed.Token) → Every (IsSound text) ts → Every (IsIn all) (name_bytes text ts) → AreGood (known all) (map (word_of text all) ts)
    good_words [] h i = tt
    good_words (t ∷ ts) h i =
        (by t.kind h.0.0 h.0.1 (every_left (IsIn all) (named_bytes t.kind (bytes_of text t)) (name_bytes text ts) i), good_words ts h.1 (every_right (IsIn all) (named_bytes t.kind (bytes_of text t)) (name_bytes text ts) i))
      where
        by : (kind : TokenKind) → Spells (bytes_of text t) kind → IsSmall kind → Every (IsIn all) (named_bytes kind (bytes_of text t))
            → IsGood (known all) (record { kind = kind_of kind (bytes_of text t); at = t.at; end = t.end; value = token_value kind (bytes_of text t) all })
        by raw.Name s m n = record { named = λ e. number_below all (bytes_of text t) n.0; small = λ e. cc }
        by raw.Keyword s m n = record {
          named = λ e. absurd (true≢false (sym (keyword_mute (bytes_of text t) s) ∙ ap is_mute e));
          small = λ e. absurd (true≢false (sym (keyword_mute (bytes_of text t) s) ∙ ap is_mute e));
        }
        by (raw.Number n) s m i = record { named = λ e. cc; small = λ e. m }
        by raw.Sign s m n = record {
          named = λ e. absurd (true≢false (sym (sign_mute (bytes_of text t) s) ∙ ap is_mute e));
          small = λ e. absurd (true≢false (sym (sign_mute (bytes_of text t) s) ∙ ap is_mute e));
        }

    pub own_names : known all HOLE ≡ false → (ts : List lexed.Token) → Every (IsSound text) ts → Every (IsIn all) (name_bytes text ts) → spelled (leaves (map (word_of text all) ts)) ≡ name_bytes text ts
    own_names hole [] h i = refl
    own_names hole (t ∷ ts) h i =
        spelled_append (leaf (kind_of t.kind (bytes_of text t)) (token_value t.kind (bytes_of text t) all)) (leaves (map (word_of text all) ts))
        ∙ ap (λ l. l ++ spelled (leaves (map (word_of text all) ts))) (by t.kind h.0.0 (every_left (IsIn all) (named_bytes t.kind (bytes_of text t)) (name_bytes text ts) i))
        ∙ ap (λ l. named_bytes t.kind (bytes_of text t) ++ l) (own_names hole ts h.1 (every_right (IsIn all) (named_bytes t.kind (bytes_of text t)) (name_bytes text ts) i))
      where
        mute : (b : List ℕ) (j : Kind) → is_mute j ≡ true → spelled (leaf j 0) ≡ []
        mute b j e = ap (map (spec.name all)) (mute_leaf (known all) hole j 0 e (kept (known all)) refl (kept_one (known all) HOLE false hole))

        by : (kind : TokenKind) → Spells (bytes_of text t) kind → Every (IsIn all) (named_bytes kind (bytes_of text t))
            → spelled (leaf (kind_of kind (bytes_of text t)) (token_value kind (bytes_of text t) all)) ≡ named_bytes kind (bytes_of text t)
        by raw.Name s n = spelled_one (number_of all (bytes_of text t)) (number_below all (bytes_of text t) n.0) ∙ ap (λ b. b ∷ []) (name_number all (codes "_") (bytes_of text t) n.0)
        by raw.Keyword s n = mute (bytes_of text t) (kind_of raw.Keyword (bytes_of text t)) (keyword_mute (bytes_of text t) s)
        by (raw.Number n) s i = refl
        by raw.Sign s n = mute (bytes_of text t) (kind_of raw.Sign (bytes_of text t)) (sign_mute (bytes_of text t) s)

    pub name_leaves : (ts : List lexed.Token) → length (name_bytes text ts) ≤ length (leaves (map (word_of text all) ts))
    name_leaves [] = omega arith
    name_leaves (t ∷ ts) =
        omega (
          arith,
          name_leaves ts,
          by t.kind,
          length-append (named_bytes t.kind (bytes_of text t)) (name_bytes text ts),
          length-append (leaf (kind_of t.kind (bytes_of text t)) (token_value t.kind (bytes_of text t) all)) (leaves (map (word_of text all) ts)),
        )
      where
        by : (kind : TokenKind) → length (named_bytes kind (bytes_of text t)) ≤ length (leaf (kind_of kind (bytes_of text t)) (token_value kind (bytes_of text t) all))
        by raw.Name = omega arith
        by raw.Keyword = omega arith
        by (raw.Number n) = omega arith
        by raw.Sign = omega arith

    -- The tokens that were written -----------------------------------------------------------------------------

    plain_bytes : (kind : TokenKind) (b : List ℕ) → IsPlain kind → named_bytes kind b ≡ []
    plain_bytes raw.Keyword b h = refl
    plain_bytes raw.Sign b h = refl
    plain_bytes raw.Name b h = absurd h
    plain_bytes (raw.Number n) b h = absurd h

    pub written_names : (ws : List Word) (ts : List lexed.Token) → AllFit (known all) ws → Show all text ws ts → spelled (leaves_of ws) ≡ name_bytes text ts
    written_names [] ts fit h = sym (ap (name_bytes text) h)
    written_names (v ∷ vs) ts fit h =
        spelled_append (leaf_of v) (leaves_of vs) ∙ ap (λ l. l ++ spelled (leaves_of vs)) (by v fit.0 h.2) ∙ ap (λ l. named_bytes h.0.kind (bytes_of text h.0) ++ l) (written_names vs h.1 fit.1 h.3) ∙ sym (ap (name_bytes text) h.4)
      where
        by : (v : Word) → Rattle.cov_print.proofs.Keeps.Fits (known all) v → Shows all v h.0.kind (bytes_of text h.0) → spelled (leaf_of v) ≡ named_bytes h.0.kind (bytes_of text h.0)
        by (w.plain j) f s = sym (plain_bytes h.0.kind (bytes_of text h.0) s.0)
        by (w.name x) f s = spelled_one x f ∙ ap (λ b. b ∷ []) (sym s.1) ∙ sym (ap (λ q. named_bytes q (bytes_of text h.0)) s.0)
        by (w.hole x) f s = spelled_none x f ∙ sym (plain_bytes h.0.kind (bytes_of text h.0) s.0)
        by (w.number n) f s = sym (ap (λ q. named_bytes q (bytes_of text h.0)) s)

    pub leaves_few : (ws : List Word) (ts : List lexed.Token) → Show all text ws ts → length (leaves_of ws) ≤ length ts
    leaves_few [] ts h = omega arith
    leaves_few (v ∷ vs) ts h = omega (arith, leaves_few vs h.1 h.3, by v, length-append (leaf_of v) (leaves_of vs), ap length h.4)
      where
        by : (v : Word) → length (leaf_of v) ≤ 1
        by (w.plain j) = omega arith
        by (w.name x) = omega arith
        by (w.hole x) = omega arith
        by (w.number n) = omega arith

    -- They are the words, where the names are numbered so.
    pub are_words : AreDistinct all → (ws : List Word) (ts : List lexed.Token) → AllFit (known all) ws → Show all text ws ts → Are ws (map (word_of text all) ts)
    are_words distinct [] ts fit h = ap (map (word_of text all)) h
    are_words distinct (v ∷ vs) ts fit h = (word_of text all h.0, map (word_of text all) h.1, by v fit.0 h.2, are_words distinct vs h.1 fit.1 h.3, ap (map (word_of text all)) h.4)
      where
        by : (v : Word) → Rattle.cov_print.proofs.Keeps.Fits (known all) v → Shows all v h.0.kind (bytes_of text h.0) → IsAt v (word_of text all h.0)
        by (w.plain j) f s = s.1
        by (w.name x) f s = (
          ap (λ q. kind_of q (bytes_of text h.0)) s.0,
          ap (λ q. token_value q (bytes_of text h.0) all) s.0 ∙ ap (number_of all) s.1 ∙ number_name all (codes "_") distinct x f,
        )
        by (w.hole x) f s = s.1
        by (w.number n) f s = (ap (λ q. kind_of q (bytes_of text h.0)) s, ap (λ q. token_value q (bytes_of text h.0) all) s)

-- there are no more tokens than bytes
pub tokens_few : (text : List ℕ) (ts : List lexed.Token) → tokens_of text ≡ Ok ts → length ts ≤ length text
tokens_few text ts e = by (nat_lt (length text) (length ts)) refl
  where
    by : (b : Bool) → nat_lt (length text) (length ts) ≡ b → length ts ≤ length text
    by false g = grind (arith, g)
    by true g = let over : length text < length ts = grind (arith, g) in let no : ⊥ = omega (arith, token_inside text ts (are_tokens text ts e) (length text) over) in absurd no
