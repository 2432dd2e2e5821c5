-- Numbers of names stay when names are added.
use Rattle.std.proofs.Common.{◌≡◌, ℕ, suc, ◌+◌, ◌-◌, ◌≤◌, ◌<◌, List, [], ◌∷◌, ◌++◌, length, length-take, length-drop, map, take, drop, drop_of_length-le, get_or, slice_set, Bool, true, false, cond, not, refl, sym, ap, subst, ◌∙◌, arith, append_assoc, append-nil, true≢false, if◌then◌else◌, ◌||◌, zero, length-append, add-one}
use Rattle.std.proofs.lemmas.Slice.Eq.{bytes_eq-Decides}
use Rattle.std.specs.List.{list_any}
use Rattle.std.specs.Str.{bytes_eq}
use Rattle.std.proofs.Math.Seq.{drop-cons}
use Rattle.cov_grammar.specs.declared.token.Token.{Token}
use Rattle.cov_lex.specs.declared.token.Token as lexed
use Rattle.cov_lex.specs.declared.token.TokenKind.{TokenKind}
use Rattle.cov_lex.specs.declared.token.TokenKind.TheVariants as raw
use Rattle.cov_lex.specs.Tokens.{bytes_of, AreTokens, IsToken, Spells}
use Rattle.cov_lex.proofs.Lexical.{only_names}
use Rattle.cov_expr.specs.Names.{IsName}
use Rattle.cov_ast.specs.NameTables.{number_of, with_name}
use Rattle.cov_text.specs.Numbered.{with_word, with_token, names_onto, token_value, word_of}
use Rattle.cov_lex.specs.Classified.{kind_of, classified, AreClassified}
use Rattle.cov_lex.specs.Classified.{number_value as lexical_value}
use Rattle.cov_grammar.specs.LookAhead.{kind_is}
use Rattle.cov_grammar.proofs.Basics.{kind_itself, kind_one}
use Rattle.cov_expr.specs.declared.kind.Kind.TheVariants as k
use Rattle.cov_text.specs.Text.{lexed_of, numbered_of, names_of}
use Rattle.cov_text.proofs.TextLaws.{lexed_is}
use Rattle.std.proofs.lemmas.List.{take_more, length-map, map-append}

-- a name that is there keeps its number
is_there : (word : List ℕ) (ns ms : List (List ℕ)) → list_any (bytes_eq word) ns ≡ true → number_of (ns ++ ms) word ≡ number_of ns word
is_there word [] ms h = absurd (true≢false (sym h))
is_there word (n ∷ ns) ms h = by (bytes_eq word n) refl (is_there word ns ms)
  where
    by : (b : Bool) → bytes_eq word n ≡ b → (list_any (bytes_eq word) ns ≡ true → number_of (ns ++ ms) word ≡ number_of ns word) → number_of (n ∷ ns ++ ms) word ≡ number_of (n ∷ ns) word
    by true e rest = rw e refl
    by false e rest = rw e (ap (λ k. 1 + k) (rest (sym (ap (λ b. b || list_any (bytes_eq word) ns) e) ∙ h)))

-- and so does one that is put behind them
is_next : (word : List ℕ) (ns ms : List (List ℕ)) → number_of (ns ++ word ∷ ms) word ≡ number_of ns word
is_next word [] ms = ap (λ b. cond (not b) (1 + number_of ms word) 0) ((bytes_eq-Decides word word).1 refl)
is_next word (n ∷ ns) ms = by (bytes_eq word n) refl (is_next word ns ms)
  where
    by : (b : Bool) → bytes_eq word n ≡ b → number_of (ns ++ word ∷ ms) word ≡ number_of ns word → number_of (n ∷ ns ++ word ∷ ms) word ≡ number_of (n ∷ ns) word
    by true e rest = rw e refl
    by false e rest = rw e (ap (λ k. 1 + k) rest)

with_name_kept : (word : List ℕ) (ns ms : List (List ℕ)) → number_of (with_name ns word ++ ms) word ≡ number_of ns word
with_name_kept word ns ms = by (list_any (bytes_eq word) ns) refl
  where
    by : (b : Bool) → list_any (bytes_eq word) ns ≡ b → number_of ((if b then ns else ns ++ word ∷ []) ++ ms) word ≡ number_of ns word
    by true e = is_there word ns ms e
    by false e = ap (λ xs. number_of xs word) (append_assoc ns (word ∷ []) ms) ∙ is_next word ns ms

-- Names are only ever put behind those that are there.
record GoesOn (ns all : List (List ℕ)) : Type 0 where
  more : List (List ℕ)
  is : all ≡ ns ++ more

name_goes_on : (word : List ℕ) (ns : List (List ℕ)) → GoesOn ns (with_name ns word)
name_goes_on word ns = by (list_any (bytes_eq word) ns)
  where
    by : (b : Bool) → GoesOn ns (if b then ns else ns ++ word ∷ [])
    by true = record { more = []; is = sym (append-nil ns) }
    by false = record { more = word ∷ []; is = refl }

word_goes_on : (kind : TokenKind) (word : List ℕ) (ns : List (List ℕ)) → GoesOn ns (with_word kind word ns)
word_goes_on raw.Name word ns = name_goes_on word ns
word_goes_on raw.Keyword word ns = record { more = []; is = sym (append-nil ns) }
word_goes_on (raw.Number n) word ns = record { more = []; is = sym (append-nil ns) }
word_goes_on raw.Sign word ns = record { more = []; is = sym (append-nil ns) }

all_go_on : (text : List ℕ) (ns : List (List ℕ)) (ts : List lexed.Token) → GoesOn ns (names_onto text ns ts)
all_go_on text ns [] = record { more = []; is = sym (append-nil ns) }
all_go_on text ns (t ∷ ts) =
    let one = word_goes_on t.kind (bytes_of text t) ns in
    let rest = all_go_on text (with_token text ns t) ts in
    record {
      more = one.more ++ rest.more;
      is = rest.is ∙ ap (λ xs. xs ++ rest.more) one.is ∙ append_assoc ns one.more rest.more;
    }

value_kept : (kind : TokenKind) (word : List ℕ) (ns ms : List (List ℕ)) → token_value kind word (with_word kind word ns ++ ms) ≡ token_value kind word ns
value_kept raw.Name word ns ms = with_name_kept word ns ms
value_kept raw.Keyword word ns ms = refl
value_kept (raw.Number n) word ns ms = refl
value_kept raw.Sign word ns ms = refl

-- the number of a token when it comes is its number among all names
pub word_kept : (text : List ℕ) (ns : List (List ℕ)) (t : lexed.Token) (ts : List lexed.Token) → word_of text (names_onto text (with_token text ns t) ts) t ≡ word_of text ns t
word_kept text ns t ts =
    let rest = all_go_on text (with_token text ns t) ts in
    ap (λ v. record { kind = kind_of t.kind (bytes_of text t); at = t.at; end = t.end; value = v })
    (ap (token_value t.kind (bytes_of text t)) rest.is ∙ value_kept t.kind (bytes_of text t) ns rest.more)

-- How many -----------------------------------------------------------------------------------------------------

one_at_most : (kind : TokenKind) (word : List ℕ) (ns : List (List ℕ)) → length (with_word kind word ns) ≤ length ns + 1
one_at_most raw.Name word ns = by (list_any (bytes_eq word) ns)
  where
    by : (b : Bool) → length (if b then ns else ns ++ word ∷ []) ≤ length ns + 1
    by true = omega arith
    by false = omega (arith, length-append ns (word ∷ []))
one_at_most raw.Keyword word ns = omega arith
one_at_most (raw.Number n) word ns = omega arith
one_at_most raw.Sign word ns = omega arith

pub few_step : (text : List ℕ) (ns ns' : List (List ℕ)) (t : lexed.Token) (i : ℕ) → ns' ≡ with_token text ns t → length ns ≤ i → length ns' ≤ i + 1
few_step text ns ns' t i e h = omega (arith, ap length e, one_at_most t.kind (bytes_of text t) ns)

-- a token has a byte of its own
ends_behind : (text : List ℕ) (ts : List lexed.Token) (d : lexed.Token) → AreTokens text ts → (i : ℕ) → i < length ts → i < (get_or ts i d).end
ends_behind text ts d are zero h = omega (arith, (are.each 0 d h).some)
ends_behind text ts d are (suc i) h =
    omega (arith, ends_behind text ts d are i (omega arith), are.in_order i (suc i) d (omega arith) h, (are.each (suc i) d h).some)

-- so there are no more tokens than bytes
pub token_inside : (text : List ℕ) (ts : List lexed.Token) → AreTokens text ts → (i : ℕ) → i < length ts → i < length text
token_inside text ts are i h =
    let d : lexed.Token = record { kind = raw.Sign; at = 0; end = 0 } in
    omega (arith, ends_behind text ts d are i h, (are.each i d h).within)

-- The loop -----------------------------------------------------------------------------------------------------

-- names have their numbers up to a token, and are read behind it
pub record Numbering (text : List ℕ) (names : List (List ℕ)) (tokens : List Token) (i : ℕ) : Type 0 where
  pub rest : names_onto text names (drop i (lexed_of text)) ≡ names_of text
  pub so_far : tokens ≡ map (word_of text (names_of text)) (take i (lexed_of text)) ++ map (classified text) (drop i (lexed_of text))
  pub few : length names ≤ i

pub started : (text : List ℕ) (tokens : List Token) → tokens ≡ map (classified text) (lexed_of text) → Numbering text [] tokens 0
unfolding names_of
started text tokens e = record { rest = refl; so_far = e; few = omega arith }

pub numbered_names : (text : List ℕ) (names : List (List ℕ)) (tokens : List Token) (i : ℕ) → Numbering text names tokens i → length (lexed_of text) ≤ i → names ≡ names_of text
numbered_names text names tokens i h past = sym (ap (names_onto text names) (drop_of_length-le (lexed_of text) past)) ∙ h.rest

take_past : (n : ℕ) (ts : List lexed.Token) → length ts ≤ n → take n ts ≡ ts
take_past zero [] h = refl
take_past zero (t ∷ ts) h = let no : ⊥ = omega (arith, h) in absurd no
take_past (suc n) [] h = refl
take_past (suc n) (t ∷ ts) h = ap (λ us. t ∷ us) (take_past n ts (omega (arith, h)))

pub numbered_tokens : (text : List ℕ) (names : List (List ℕ)) (tokens : List Token) (i : ℕ) → Numbering text names tokens i → length (lexed_of text) ≤ i → tokens ≡ numbered_of text
unfolding numbered_of names_of
numbered_tokens text names tokens i h past =
    h.so_far
    ∙ ap (λ ts. map (word_of text (names_of text)) ts ++ map (classified text) (drop i (lexed_of text))) (take_past i (lexed_of text) past)
    ∙ ap (λ ts. map (word_of text (names_of text)) (lexed_of text) ++ map (classified text) ts) (drop_of_length-le (lexed_of text) past)
    ∙ append-nil (map (word_of text (names_of text)) (lexed_of text))

-- an item behind others
get_behind : (xs ys : List Token) (x d : Token) (i : ℕ) → length xs ≡ i → get_or (xs ++ x ∷ ys) i d ≡ x
get_behind [] ys x d i e = rw (← e) refl
get_behind (y ∷ xs) ys x d i e = rw (← e) (get_behind xs ys x d (length xs) refl)

set_behind : (xs ys : List Token) (x y : Token) (i : ℕ) → length xs ≡ i → slice_set (xs ++ x ∷ ys) i y ≡ (xs ++ y ∷ []) ++ ys
set_behind [] ys x y i e = rw (← e) refl
set_behind (z ∷ xs) ys x y i e = rw (← e) (ap (λ l. z ∷ l) (set_behind xs ys x y (length xs) refl))

module _ (text : List ℕ) (d : lexed.Token) (i : ℕ) (inside : i < length (lexed_of text)) (names : List (List ℕ)) (tokens : List Token) (h : Numbering text names tokens i) where
  abbrev here : lexed.Token
  here = get_or (lexed_of text) i d

  next_is : drop i (lexed_of text) ≡ here ∷ drop (i + 1) (lexed_of text)
  next_is = drop-cons (lexed_of text) i d inside ∙ ap (λ n. here ∷ drop n (lexed_of text)) (sym (add-one i))

  front_is : take (i + 1) (lexed_of text) ≡ take i (lexed_of text) ++ here ∷ []
  front_is = take_more (lexed_of text) i d inside

  abbrev before_it : List Token
  before_it = map (word_of text (names_of text)) (take i (lexed_of text))

  so_many : length before_it ≡ i
  so_many = length-map (take i (lexed_of text)) (word_of text (names_of text)) ∙ omega (arith, length-take i (lexed_of text), inside)

  split : tokens ≡ before_it ++ classified text here ∷ map (classified text) (drop (i + 1) (lexed_of text))
  split = h.so_far ∙ ap (λ ts. before_it ++ map (classified text) ts) next_is

  -- the token that is next
  pub next_token : (e : Token) → get_or tokens i e ≡ classified text here
  next_token e = ap (λ ts. get_or ts i e) split ∙ get_behind before_it (map (classified text) (drop (i + 1) (lexed_of text))) (classified text here) e i so_many

  moved : (names' : List (List ℕ)) (tokens' : List Token) → names' ≡ with_token text names here → tokens' ≡ (before_it ++ word_of text names here ∷ []) ++ map (classified text) (drop (i + 1) (lexed_of text))
      → Numbering text names' tokens' (i + 1)
  moved names' tokens' e f =
      let rest : names_onto text (with_token text names here) (drop (i + 1) (lexed_of text)) ≡ names_of text = sym (ap (names_onto text names) next_is) ∙ h.rest in
      let kept : word_of text names here ≡ word_of text (names_of text) here = sym (word_kept text names here (drop (i + 1) (lexed_of text))) ∙ ap (λ ns. word_of text ns here) rest in
      record {
        rest = ap (λ ns. names_onto text ns (drop (i + 1) (lexed_of text))) e ∙ rest;
        so_far =
            f
            ∙ ap (λ w. (before_it ++ w ∷ []) ++ map (classified text) (drop (i + 1) (lexed_of text))) kept
            ∙ ap (λ ts. ts ++ map (classified text) (drop (i + 1) (lexed_of text)))
            (sym (ap (map (word_of text (names_of text))) front_is ∙ map-append (word_of text (names_of text)) (take i (lexed_of text)) (here ∷ [])));
        few = few_step text names names' here i e h.few;
      }

  -- a name gets its number
  pub name_step : here.kind ≡ raw.Name → (names' : List (List ℕ)) (tokens' : List Token) (w : Token) (v : ℕ) → names' ≡ with_name names (bytes_of text here) → v ≡ number_of names (bytes_of text here)
      → w ≡ record { kind = kind_of here.kind (bytes_of text here); at = here.at; end = here.end; value = v } → tokens' ≡ slice_set tokens i w → Numbering text names' tokens' (i + 1)
  name_step named names' tokens' w v e f g s =
      moved names' tokens' (e ∙ sym (ap (λ kind. with_word kind (bytes_of text here) names) named))
      (s ∙ ap (λ ts. slice_set ts i w) split ∙ set_behind before_it (map (classified text) (drop (i + 1) (lexed_of text))) (classified text here) w i so_many
      ∙ ap (λ u. (before_it ++ u ∷ []) ++ map (classified text) (drop (i + 1) (lexed_of text)))
      (g ∙ ap (λ n. record { kind = kind_of here.kind (bytes_of text here); at = here.at; end = here.end; value = n }) (f ∙ sym (ap (λ kind. token_value kind (bytes_of text here) names) named))))

  -- any other token stays
  pub other_step : kind_is k.Name (kind_of here.kind (bytes_of text here)) ≡ false → Numbering text names tokens (i + 1)
  other_step other =
      let same = by here.kind other in
      moved names tokens (sym same.0)
      (split ∙ sym (append_assoc before_it (classified text here ∷ []) (map (classified text) (drop (i + 1) (lexed_of text))))
      ∙ ap (λ v. (before_it ++ record { kind = kind_of here.kind (bytes_of text here); at = here.at; end = here.end; value = v } ∷ []) ++ map (classified text) (drop (i + 1) (lexed_of text))) (sym same.1))
    where
      by : (kind : TokenKind) → kind_is k.Name (kind_of kind (bytes_of text here)) ≡ false → (with_word kind (bytes_of text here) names ≡ names) × (token_value kind (bytes_of text here) names ≡ lexical_value kind)
      by raw.Name o = let no : true ≡ false = sym (kind_itself k.Name) ∙ o in cc
      by raw.Keyword o = (refl, refl)
      by (raw.Number n) o = (refl, refl)
      by raw.Sign o = (refl, refl)

-- The tokens of a text that has some -----------------------------------------------------------------------------

module _ (text : List ℕ) (tokens : List Token) (are : AreClassified text tokens) where
  pub read_is : lexed_of text ≡ are.read
  read_is = lexed_is text are.read are.lexes

  pub tokens_are : AreTokens text (lexed_of text)
  tokens_are = subst (AreTokens text) (sym read_is) are.tokens

  pub classified_are : tokens ≡ map (classified text) (lexed_of text)
  classified_are = are.same ∙ ap (map (classified text)) (sym read_is)

  pub as_many : length tokens ≡ length (lexed_of text)
  as_many = ap length classified_are ∙ length-map (lexed_of text) (classified text)

-- A step at the token that is next -----------------------------------------------------------------------------

as_long : (text : List ℕ) (names : List (List ℕ)) (tokens : List Token) (i : ℕ) → Numbering text names tokens i → length tokens ≡ length (lexed_of text)
as_long text names tokens i h =
    omega (
      arith,
      ap length h.so_far,
      length-append (map (word_of text (names_of text)) (take i (lexed_of text))) (map (classified text) (drop i (lexed_of text))),
      length-map (take i (lexed_of text)) (word_of text (names_of text)),
      length-map (drop i (lexed_of text)) (classified text),
      length-take i (lexed_of text),
      length-drop i (lexed_of text),
    )

abbrev no_token : lexed.Token
no_token = record { kind = raw.Sign; at = 0; end = 0 }

module _ (text : List ℕ) (old : List Token) (are : AreClassified text old) (i : ℕ) (within_old : i < length old) (names : List (List ℕ)) (tokens : List Token) (h : Numbering text names tokens i) where
  inside : i < length (lexed_of text)
  inside = omega (arith, within_old, as_many text old are)

  pub within_now : i < length tokens
  within_now = omega (arith, inside, as_long text names tokens i h)

  pub within_text : i < length text
  within_text = token_inside text (lexed_of text) (tokens_are text old are) i inside

  abbrev next : lexed.Token
  next = get_or (lexed_of text) i no_token

  is_token : IsToken text next
  is_token = (tokens_are text old are).each i no_token inside

  named : kind_is k.Name (kind_of next.kind (bytes_of text next)) ≡ true → next.kind ≡ raw.Name
  named e = only_names next.kind (bytes_of text next) is_token.spelled (sym (kind_one k.Name (kind_of next.kind (bytes_of text next)) e))

  module _ (x d : Token) (is : x ≡ get_or tokens i d) where
    same : classified text next ≡ x
    same = sym (is ∙ next_token text no_token i inside names tokens h d)

    pub ordered : x.at ≤ x.end
    ordered = subst (λ t. t.at ≤ t.end) same (omega (arith, is_token.some))

    pub within : x.end ≤ length text
    within = subst (λ t. t.end ≤ length text) same is_token.within

    pub is_name : kind_is k.Name x.kind ≡ true → IsName (take (x.end - x.at) (drop x.at text))
    is_name =
        subst (λ t. kind_is k.Name t.kind ≡ true → IsName (take (t.end - t.at) (drop t.at text))) same
        (λ e. subst (Spells (bytes_of text next)) (named e) is_token.spelled)

    pub name_goes : kind_is k.Name x.kind ≡ true → (names' : List (List ℕ)) (tokens' : List Token) (v : ℕ) → v ≡ number_of names (take (x.end - x.at) (drop x.at text)) → names' ≡ with_name names (take (x.end - x.at) (drop x.at text))
        → tokens' ≡ slice_set tokens i (record { kind = x.kind; at = x.at; end = x.end; value = v }) → Numbering text names' tokens' (i + 1)
    name_goes e names' tokens' v f g s =
        subst (λ t. kind_is k.Name t.kind ≡ true → v ≡ number_of names (take (t.end - t.at) (drop t.at text)) → names' ≡ with_name names (take (t.end - t.at) (drop t.at text)) → tokens' ≡ slice_set tokens i (record { kind = t.kind; at = t.at; end = t.end; value = v }) → Numbering text names' tokens' (i + 1))
        same (λ e' f' g' s'. name_step text no_token i inside names tokens h (named e') names' tokens' _ v g' f' refl s') e f g s

    pub other_goes : kind_is k.Name x.kind ≡ false → Numbering text names tokens (i + 1)
    other_goes = subst (λ t. kind_is k.Name t.kind ≡ false → Numbering text names tokens (i + 1)) same (other_step text no_token i inside names tokens h)
