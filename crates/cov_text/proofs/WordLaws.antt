-- What the tokens of a text are as the grammar takes them: their names have numbers of names, and they are in order.
use Rattle.std.proofs.Common.{◌≡◌, ℕ, zero, suc, ◌+◌, ◌-◌, ◌≤◌, ◌<◌, List, [], ◌∷◌, ◌++◌, length, map, Bool, true, false, if◌then◌else◌, ◌||◌, Result, Ok, Err, refl, sym, ap, subst, ◌∙◌, arith, length-append, IfOk}
use Rattle.std.proofs.lemmas.List.{length-map}
use Rattle.std.specs.List.{AllByRecursion, list_any}
use Rattle.std.specs.Str.{bytes_eq}
use Rattle.std.proofs.lemmas.Slice.Eq.{bytes_eq-Decides}
use Rattle.std.proofs.lemmas.List.Elements.{recursion_from_All}
use Rattle.cov_expr.specs.declared.limits.TheConstants.{MOST_BYTES}
use Rattle.cov_expr.specs.declared.expr.TheConstants.{HOLE}
use Rattle.cov_lex.specs.declared.token.Token as lexed
use Rattle.cov_lex.specs.declared.token.TokenKind.{TokenKind}
use Rattle.cov_lex.specs.declared.token.TokenKind.TheVariants as raw
use Rattle.cov_lex.specs.Lexing.{Piece}
use Rattle.cov_lex.specs.Lexing.{Gap, Part}
use Rattle.cov_lex.specs.declared.fault.LexFault.{LexFault}
use Rattle.cov_lex.specs.Lexing.{Lexed, piece_at, tokens_from, tokens_of, token_and_rest, piece_and_rest}
use Rattle.cov_lex.specs.Tokens.{IsToken, Spells, bytes_of}
use Rattle.cov_lex.proofs.Spelled.{are_tokens}
use Rattle.cov_expr.specs.declared.kind.Kind.TheVariants as k
use Rattle.cov_ast.specs.NameTables.{number_of, with_name}
use Rattle.cov_text.specs.Numbered.{with_word, with_token, names_onto, token_value, word_of}
use Rattle.cov_lex.specs.Classified.{kind_of}
use Rattle.cov_lex.proofs.Lexical.{only_names}
use Rattle.cov_text.specs.Text.{words_of, numbered_of, names_of, lexed_of}
use Rattle.cov_text.proofs.Summaries.{AreWithin, AreBelow, AreFine}
use Rattle.cov_text.proofs.Summaries as pieces
use Rattle.cov_text.proofs.VersionLaws.{versioned_below, versioned_places, versioned_length}

-- Places -------------------------------------------------------------------------------------------------------

abbrev raw_places : List lexed.Token → List ℕ
raw_places ts = map (λ t. t.at) ts

abbrev InOrder : (low high : ℕ) → Lexed → Type 0
InOrder low high r = IfOk r (λ ts. AreWithin low high (raw_places ts))

within_wider : (low high : ℕ) (ns : List ℕ) → AreWithin (low + 1) high ns → AreWithin low high ns
within_wider low high [] h = omega arith
within_wider low high (n ∷ ns) h = (omega (arith, h.0), h.1)

order_wider : (low high : ℕ) (r : Lexed) → InOrder (low + 1) high r → InOrder low high r
order_wider low high (Ok ts) h = within_wider low high (raw_places ts) h
order_wider low high (Err fault) h = tt

order_behind : (p : Result Piece LexFault) (at high : ℕ) (go : ℕ → Lexed) → ((n : ℕ) → InOrder (at + 1) high (go n)) → InOrder at high (piece_and_rest p at go)
order_behind (Ok (Gap n)) at high go h = order_wider at high (go (n - 1)) (h (n - 1))
order_behind (Ok (Part kind n)) at high go h = by (go (n - 1)) (h (n - 1))
  where
    by : (r : Lexed) → InOrder (at + 1) high r → InOrder at high (token_and_rest (record { kind = kind; at = at; end = at + n }) r)
    by (Ok ts) g = (omega arith, g)
    by (Err fault) g = tt
order_behind (Err fault) at high go h = tt

order_from : (skipped at high : ℕ) (bs : List ℕ) → at + length bs ≡ high → InOrder at high (tokens_from skipped at bs)
order_from skipped at high [] e = omega (arith, e)
order_from (suc n) at high (b ∷ bs) e = order_wider at high (tokens_from n (at + 1) bs) (order_from n (at + 1) high bs (omega (arith, e)))
order_from zero at high (b ∷ bs) e = order_behind (piece_at at (b ∷ bs)) at high (λ n. tokens_from n (at + 1) bs) (λ n. order_from n (at + 1) high bs (omega (arith, e)))

in_order : (text : List ℕ) (ts : List lexed.Token) → tokens_of text ≡ Ok ts → AreWithin 0 (length text) (raw_places ts)
unfolding tokens_of
in_order text ts e = subst (InOrder 0 (length text)) e (order_from 0 0 (length text) text (omega arith))

few_within : (low high : ℕ) (ns : List ℕ) → AreWithin low high ns → low + length ns ≤ high
few_within low high [] h = omega arith
few_within low high (n ∷ ns) h = omega (arith, h.0, few_within (n + 1) high ns h.1)

-- Numbers of names ---------------------------------------------------------------------------------------------

below_there : (word : List ℕ) (ns : List (List ℕ)) → list_any (bytes_eq word) ns ≡ true → number_of ns word < length ns
below_there word [] h = cc
below_there word (n ∷ ns) h = by (bytes_eq word n) refl (below_there word ns)
  where
    by : (b : Bool) → bytes_eq word n ≡ b → (list_any (bytes_eq word) ns ≡ true → number_of ns word < length ns) → number_of (n ∷ ns) word < length (n ∷ ns)
    by true e rest = rw e (omega arith)
    by false e rest = rw e (omega (arith, rest (sym (ap (λ b. b || list_any (bytes_eq word) ns) e) ∙ h)))

there_still : (word : List ℕ) (ns ms : List (List ℕ)) → list_any (bytes_eq word) ns ≡ true → list_any (bytes_eq word) (ns ++ ms) ≡ true
there_still word [] ms h = cc
there_still word (n ∷ ns) ms h = by (bytes_eq word n) refl (there_still word ns ms)
  where
    by : (b : Bool) → bytes_eq word n ≡ b → (list_any (bytes_eq word) ns ≡ true → list_any (bytes_eq word) (ns ++ ms) ≡ true) → list_any (bytes_eq word) ((n ∷ ns) ++ ms) ≡ true
    by true e rest = ap (λ b. b || list_any (bytes_eq word) (ns ++ ms)) e
    by false e rest = ap (λ b. b || list_any (bytes_eq word) (ns ++ ms)) e ∙ rest (sym (ap (λ b. b || list_any (bytes_eq word) ns) e) ∙ h)

there_last : (word : List ℕ) (ns : List (List ℕ)) → list_any (bytes_eq word) (ns ++ word ∷ []) ≡ true
there_last word [] = ap (λ b. b || false) ((bytes_eq-Decides word word).1 refl)
there_last word (n ∷ ns) = by (bytes_eq word n) refl (there_last word ns)
  where
    by : (b : Bool) → bytes_eq word n ≡ b → list_any (bytes_eq word) (ns ++ word ∷ []) ≡ true → list_any (bytes_eq word) ((n ∷ ns) ++ word ∷ []) ≡ true
    by true e rest = ap (λ b. b || list_any (bytes_eq word) (ns ++ word ∷ [])) e
    by false e rest = ap (λ b. b || list_any (bytes_eq word) (ns ++ word ∷ [])) e ∙ rest

there_with : (word : List ℕ) (ns : List (List ℕ)) → list_any (bytes_eq word) (with_name ns word) ≡ true
there_with word ns = by (list_any (bytes_eq word) ns) refl
  where
    by : (b : Bool) → list_any (bytes_eq word) ns ≡ b → list_any (bytes_eq word) (if b then ns else ns ++ word ∷ []) ≡ true
    by true e = e
    by false e = there_last word ns

there_name : (word name : List ℕ) (ns : List (List ℕ)) → list_any (bytes_eq word) ns ≡ true → list_any (bytes_eq word) (with_name ns name) ≡ true
there_name word name ns h = by (list_any (bytes_eq name) ns)
  where
    by : (b : Bool) → list_any (bytes_eq word) (if b then ns else ns ++ name ∷ []) ≡ true
    by true = h
    by false = there_still word ns (name ∷ []) h

there_word : (kind : TokenKind) (word name : List ℕ) (ns : List (List ℕ)) → list_any (bytes_eq word) ns ≡ true → list_any (bytes_eq word) (with_word kind name ns) ≡ true
there_word raw.Name word name ns h = there_name word name ns h
there_word raw.Keyword word name ns h = h
there_word (raw.Number n) word name ns h = h
there_word raw.Sign word name ns h = h

there_onto : (text word : List ℕ) (ns : List (List ℕ)) (ts : List lexed.Token) → list_any (bytes_eq word) ns ≡ true → list_any (bytes_eq word) (names_onto text ns ts) ≡ true
there_onto text word ns [] h = h
there_onto text word ns (t ∷ ts) h = there_onto text word (with_token text ns t) ts (there_word t.kind word (bytes_of text t) ns h)

-- a token that the grammar takes as a name has the number of a name
number_below : (text : List ℕ) (ns : List (List ℕ)) (ts : List lexed.Token) (kind : TokenKind) (word : List ℕ) → Spells word kind → (all : List (List ℕ)) → all ≡ names_onto text (with_word kind word ns) ts
    → kind_of kind word ≡ k.Name → token_value kind word all < length all
number_below text ns ts raw.Name word is all e h = below_there word all (ap (list_any (bytes_eq word)) e ∙ there_onto text word (with_name ns word) ts (there_with word ns))
number_below text ns ts raw.Keyword word is all e h = let no : raw.Keyword ≡ raw.Name = only_names raw.Keyword word is h in cc
number_below text ns ts (raw.Number m) word is all e h = let no : raw.Number m ≡ raw.Name = only_names (raw.Number m) word is h in cc
number_below text ns ts raw.Sign word is all e h = let no : raw.Sign ≡ raw.Name = only_names raw.Sign word is h in cc

numbers_below : (text : List ℕ) (ns : List (List ℕ)) (ts : List lexed.Token) (all : List (List ℕ)) → AllByRecursion (IsToken text) ts → all ≡ names_onto text ns ts → AreBelow (length all) (map (word_of text all) ts)
numbers_below text ns [] all are e = tt
numbers_below text ns (t ∷ ts) all are e = (number_below text ns ts t.kind (bytes_of text t) are.0.spelled all e, numbers_below text (with_token text ns t) ts all are.1 e)

-- How many names -----------------------------------------------------------------------------------------------

one_name : (kind : TokenKind) (word : List ℕ) (ns : List (List ℕ)) → length (with_word kind word ns) ≤ length ns + 1
one_name raw.Name word ns = by (list_any (bytes_eq word) ns)
  where
    by : (b : Bool) → length (if b then ns else ns ++ word ∷ []) ≤ length ns + 1
    by true = omega arith
    by false = omega (arith, length-append ns (word ∷ []))
one_name raw.Keyword word ns = omega arith
one_name (raw.Number n) word ns = omega arith
one_name raw.Sign word ns = omega arith

few_names : (text : List ℕ) (ns : List (List ℕ)) (ts : List lexed.Token) → length (names_onto text ns ts) ≤ length ns + length ts
few_names text ns [] = omega arith
few_names text ns (t ∷ ts) = omega (arith, one_name t.kind (bytes_of text t) ns, few_names text (with_token text ns t) ts)

-- Texts --------------------------------------------------------------------------------------------------------

same_places : (text : List ℕ) (all : List (List ℕ)) (ts : List lexed.Token) → raw_places ts ≡ pieces.places (map (word_of text all) ts)
same_places text all [] = refl
same_places text all (t ∷ ts) = ap (λ ps. t.at ∷ ps) (same_places text all ts)

module _ (text : List ℕ) (lexes : tokens_of text ≡ Ok (lexed_of text)) where
  order : AreWithin 0 (length text) (raw_places (lexed_of text))
  order = in_order text (lexed_of text) lexes

  few_tokens : length (lexed_of text) ≤ length text
  few_tokens = omega (arith, few_within 0 (length text) (raw_places (lexed_of text)) order, length-map (lexed_of text) (λ t. t.at))

  pub words_fine : AreFine (length (names_of text)) (words_of text)
  unfolding names_of words_of numbered_of
  words_fine = record {
    names =
        versioned_below (length (names_of text)) (numbered_of text)
        (numbers_below text [] (lexed_of text) (names_of text) (recursion_from_All (IsToken text) (lexed_of text) (are_tokens text (lexed_of text) lexes).each) refl);
    low = 0;
    high = length text;
    order = subst (AreWithin 0 (length text)) (same_places text (names_of text) (lexed_of text) ∙ sym (versioned_places (numbered_of text))) order;
  }

  module _ (short : length text ≤ MOST_BYTES) where
    -- there are fewer names than the hole's number
    pub names_few : length (names_of text) ≤ HOLE
    unfolding names_of
    names_few = omega (arith, few_names text [] (lexed_of text), few_tokens)

    pub words_few : length (words_of text) ≤ MOST_BYTES
    unfolding names_of words_of numbered_of
    words_few = omega (arith, few_tokens, length-map (lexed_of text) (word_of text (names_of text)), versioned_length (numbered_of text))
