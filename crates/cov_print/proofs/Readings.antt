-- Texts whose tokens are those of given words: from a text to the same with a token or a blank in front.
use Rattle.std.proofs.Common.{◌≡◌, ℕ, ◌+◌, ◌<◌, nat_lt, List, [], ◌∷◌, ◌++◌, length, take, drop, Bool, codes, Ok, refl, sym, ap, subst, ◌∙◌, arith, append_assoc, length-append}
use Rattle.std.proofs.Math.Seq.{drop-append_seam, take-append_seam}
use Rattle.cov_expr.specs.Spellings.{spellings}
use Rattle.cov_expr.specs.Spellings as spelled
use Rattle.cov_lex.specs.Signs.{signs, doubles, singles}
use Rattle.cov_lex.specs.declared.token.Token as lexed
use Rattle.cov_lex.specs.declared.token.TokenKind.{TokenKind}
use Rattle.cov_lex.specs.declared.token.TokenKind.TheVariants.{Keyword, Name, Number, Sign}
use Rattle.cov_lex.specs.Lexing.{Gap, Part}
use Rattle.cov_lex.specs.Lexing.{piece_at, tokens_from, token_and_rest}
use Rattle.cov_lex.specs.Tokens.{bytes_of}
use Rattle.cov_lex.proofs.Fronts.{one_token, one_gap}
use Rattle.cov_expr.specs.declared.kind.Kind.{Kind}
use Rattle.cov_expr.specs.declared.kind.Kind.TheVariants as k
use Rattle.cov_lex.specs.Classified.{kind_of}
use Rattle.cov_print.specs.Spelling as spec
use Rattle.cov_print.proofs.Written as w
use Rattle.cov_print.proofs.Written.{Word, plain}
use Rattle.cov_print.proofs.Keeps.{Fits, AllFit}

-- A keyword or a sign.
abbrev pub IsPlain : TokenKind → Type 0
IsPlain Keyword = Unit {0}
IsPlain Sign = Unit {0}
IsPlain Name = ⊥
IsPlain (Number n) = ⊥

-- the numbers that have a name
abbrev pub known : List (List ℕ) → ℕ → Bool
known all x = nat_lt x (length all)

-- Bytes that are a token of a kind are those of a word.
abbrev pub Shows : List (List ℕ) → Word → TokenKind → List ℕ → Type 0
Shows all (w.plain j) kind bytes = IsPlain kind × (kind_of kind bytes ≡ j)
Shows all (w.name x) kind bytes = (kind ≡ Name) × (bytes ≡ spec.name all x)
Shows all (w.hole x) kind bytes = IsPlain kind × (kind_of kind bytes ≡ k.Hole)
Shows all (w.number n) kind bytes = kind ≡ Number n

-- The tokens of a text are those of words.
abbrev pub Show : List (List ℕ) → List ℕ → List Word → List lexed.Token → Type 0
Show all text [] ts = ts ≡ []
Show all text (v ∷ vs) ts = (t : lexed.Token) × (us : List lexed.Token) × Shows all v t.kind (bytes_of text t) × Show all text vs us × (ts ≡ t ∷ us)

-- What is left of a text behind a front has the tokens of these words, if they can be written.
pub record Reads (all : List (List ℕ)) (text : List ℕ) (ws : List Word) : Type 0 where
  pub reads : AllFit (known all) ws → (front : List ℕ) → (ts : List lexed.Token) × (tokens_from 0 (length front) text ≡ Ok ts) × Show all (front ++ text) ws ts

module _ {all : List (List ℕ)} where
  -- a token more
  pub token : {more : List ℕ} {vs : List Word} (bytes : List ℕ) (v : Word) (kind : TokenKind) → 0 < length bytes → (AllFit (known all) (v ∷ vs) → (at : ℕ) → piece_at at (bytes ++ more) ≡ Ok (Part kind (length bytes)))
      → (Fits (known all) v → Shows all v kind bytes) → Reads all more vs → Reads all (bytes ++ more) (v ∷ vs)
  token {more} {vs} bytes v kind some piece shows h = record {
    reads = λ fit front.
        let r = h.reads fit.1 (front ++ bytes) in
        let t : lexed.Token = record { kind = kind; at = length front; end = length front + length bytes } in
        let taken : bytes_of (front ++ (bytes ++ more)) t ≡ bytes =
        ap (λ n. take n (drop (length front) (front ++ (bytes ++ more)))) (omega arith) ∙ ap (take (length bytes)) (drop-append_seam front (bytes ++ more)) ∙ take-append_seam bytes more in (
          t ∷ r.0,
          one_token bytes more kind (length front) some (piece fit (length front)) ∙ ap (token_and_rest t) (ap (λ n. tokens_from 0 n more) (sym (length-append front bytes)) ∙ r.1),
          (t, r.0, subst (Shows all v kind) (sym taken) (shows fit.0), subst (λ text. Show all text vs r.0) (append_assoc front bytes more) r.2, refl),
        );
  }

  gap : {more : List ℕ} {vs : List Word} (b : ℕ) → ((at : ℕ) → piece_at at (b ∷ more) ≡ Ok (Gap 1)) → Reads all more vs → Reads all (b ∷ more) vs
  gap {more} {vs} b piece h = record {
    reads = λ fit front.
        let r = h.reads fit (front ++ b ∷ []) in (
          r.0,
          one_gap (b ∷ []) more (length front) (omega arith) (piece (length front)) ∙ ap (λ n. tokens_from 0 n more) (sym (length-append front (b ∷ []))) ∙ r.1,
          subst (λ text. Show all text vs r.0) (append_assoc front (b ∷ []) more) r.2,
        );
  }

  pub blank : {more : List ℕ} {vs : List Word} → Reads all more vs → Reads all (32 ∷ more) vs
  blank h = gap 32 (λ at. refl) h

  pub line : {more : List ℕ} {vs : List Word} → Reads all more vs → Reads all (10 ∷ more) vs
  line h = gap 10 (λ at. refl) h

  -- Signs ------------------------------------------------------------------------------------------------------

  sign : {more : List ℕ} {vs : List Word} (bytes : List ℕ) (j : Kind) → 0 < length bytes → ((at : ℕ) → piece_at at (bytes ++ more) ≡ Ok (Part Sign (length bytes))) → kind_of Sign bytes ≡ j → Reads all more vs
      → Reads all (bytes ++ more) (plain j ∷ vs)
  sign bytes j some piece kind h = token bytes (plain j) Sign some (λ fit. piece) (λ fit. (tt, kind)) h

  pub semicolon_ : {more : List ℕ} {vs : List Word} → Reads all more vs → Reads all (codes ";" ++ more) (plain k.Semicolon ∷ vs)
  unfolding spelled.kind_of spellings signs doubles singles
  semicolon_ h = sign (codes ";") k.Semicolon (omega arith) (λ at. refl) refl h

  pub comma_ : {more : List ℕ} {vs : List Word} → Reads all more vs → Reads all (codes "," ++ more) (plain k.Comma ∷ vs)
  unfolding spelled.kind_of spellings signs doubles singles
  comma_ h = sign (codes ",") k.Comma (omega arith) (λ at. refl) refl h

  pub open_brace_ : {more : List ℕ} {vs : List Word} → Reads all more vs → Reads all (codes "{" ++ more) (plain k.OpenBrace ∷ vs)
  unfolding spelled.kind_of spellings signs doubles singles
  open_brace_ h = sign (codes "{") k.OpenBrace (omega arith) (λ at. refl) refl h

  pub close_brace_ : {more : List ℕ} {vs : List Word} → Reads all more vs → Reads all (codes "}" ++ more) (plain k.CloseBrace ∷ vs)
  unfolding spelled.kind_of spellings signs doubles singles
  close_brace_ h = sign (codes "}") k.CloseBrace (omega arith) (λ at. refl) refl h

  pub open_paren_ : {more : List ℕ} {vs : List Word} → Reads all more vs → Reads all (codes "(" ++ more) (plain k.OpenParen ∷ vs)
  unfolding spelled.kind_of spellings signs doubles singles
  open_paren_ h = sign (codes "(") k.OpenParen (omega arith) (λ at. refl) refl h

  pub close_paren_ : {more : List ℕ} {vs : List Word} → Reads all more vs → Reads all (codes ")" ++ more) (plain k.CloseParen ∷ vs)
  unfolding spelled.kind_of spellings signs doubles singles
  close_paren_ h = sign (codes ")") k.CloseParen (omega arith) (λ at. refl) refl h

  pub open_bracket_ : {more : List ℕ} {vs : List Word} → Reads all more vs → Reads all (codes "[" ++ more) (plain k.OpenBracket ∷ vs)
  unfolding spelled.kind_of spellings signs doubles singles
  open_bracket_ h = sign (codes "[") k.OpenBracket (omega arith) (λ at. refl) refl h

  pub close_bracket_ : {more : List ℕ} {vs : List Word} → Reads all more vs → Reads all (codes "]" ++ more) (plain k.CloseBracket ∷ vs)
  unfolding spelled.kind_of spellings signs doubles singles
  close_bracket_ h = sign (codes "]") k.CloseBracket (omega arith) (λ at. refl) refl h

  pub plus_ : {more : List ℕ} {vs : List Word} → Reads all more vs → Reads all (codes "+" ++ more) (plain k.Plus ∷ vs)
  unfolding spelled.kind_of spellings signs doubles singles
  plus_ h = sign (codes "+") k.Plus (omega arith) (λ at. refl) refl h

  pub minus_ : {more : List ℕ} {vs : List Word} → Reads all more vs → Reads all (codes "-" ++ more) (plain k.Minus ∷ vs)
  unfolding spelled.kind_of spellings signs doubles singles
  minus_ h = sign (codes "-") k.Minus (omega arith) (λ at. refl) refl h

  pub star_ : {more : List ℕ} {vs : List Word} → Reads all more vs → Reads all (codes "*" ++ more) (plain k.Star ∷ vs)
  unfolding spelled.kind_of spellings signs doubles singles
  star_ h = sign (codes "*") k.Star (omega arith) (λ at. refl) refl h

  pub caret_ : {more : List ℕ} {vs : List Word} → Reads all more vs → Reads all (codes "^" ++ more) (plain k.Caret ∷ vs)
  unfolding spelled.kind_of spellings signs doubles singles
  caret_ h = sign (codes "^") k.Caret (omega arith) (λ at. refl) refl h

  pub assign_ : {more : List ℕ} {vs : List Word} → Reads all more vs → Reads all (codes ":=" ++ more) (plain k.Assign ∷ vs)
  unfolding spelled.kind_of spellings signs doubles singles
  assign_ h = sign (codes ":=") k.Assign (omega arith) (λ at. refl) refl h

  pub equal_ : {more : List ℕ} {vs : List Word} → Reads all more vs → Reads all (codes "==" ++ more) (plain k.Equal ∷ vs)
  unfolding spelled.kind_of spellings signs doubles singles
  equal_ h = sign (codes "==") k.Equal (omega arith) (λ at. refl) refl h

  pub differs_ : {more : List ℕ} {vs : List Word} → Reads all more vs → Reads all (codes "!=" ++ more) (plain k.Differs ∷ vs)
  unfolding spelled.kind_of spellings signs doubles singles
  differs_ h = sign (codes "!=") k.Differs (omega arith) (λ at. refl) refl h

  pub at_most_ : {more : List ℕ} {vs : List Word} → Reads all more vs → Reads all (codes "<=" ++ more) (plain k.AtMost ∷ vs)
  unfolding spelled.kind_of spellings signs doubles singles
  at_most_ h = sign (codes "<=") k.AtMost (omega arith) (λ at. refl) refl h

  pub both_ : {more : List ℕ} {vs : List Word} → Reads all more vs → Reads all (codes "&&" ++ more) (plain k.Both ∷ vs)
  unfolding spelled.kind_of spellings signs doubles singles
  both_ h = sign (codes "&&") k.Both (omega arith) (λ at. refl) refl h

  pub either_ : {more : List ℕ} {vs : List Word} → Reads all more vs → Reads all (codes "||" ++ more) (plain k.Either ∷ vs)
  unfolding spelled.kind_of spellings signs doubles singles
  either_ h = sign (codes "||") k.Either (omega arith) (λ at. refl) refl h

  -- these go on with `=` or with themselves, so they stand in front of a blank
  pub colon_ : {more : List ℕ} {vs : List Word} → Reads all (32 ∷ more) vs → Reads all (codes ":" ++ 32 ∷ more) (plain k.Colon ∷ vs)
  unfolding spelled.kind_of spellings signs doubles singles
  colon_ h = sign (codes ":") k.Colon (omega arith) (λ at. refl) refl h

  pub less_ : {more : List ℕ} {vs : List Word} → Reads all (32 ∷ more) vs → Reads all (codes "<" ++ 32 ∷ more) (plain k.Less ∷ vs)
  unfolding spelled.kind_of spellings signs doubles singles
  less_ h = sign (codes "<") k.Less (omega arith) (λ at. refl) refl h

  pub ampersand_ : {more : List ℕ} {vs : List Word} → Reads all (32 ∷ more) vs → Reads all (codes "&" ++ 32 ∷ more) (plain k.Ampersand ∷ vs)
  unfolding spelled.kind_of spellings signs doubles singles
  ampersand_ h = sign (codes "&") k.Ampersand (omega arith) (λ at. refl) refl h

  pub bar_ : {more : List ℕ} {vs : List Word} → Reads all (32 ∷ more) vs → Reads all (codes "|" ++ 32 ∷ more) (plain k.Bar ∷ vs)
  unfolding spelled.kind_of spellings signs doubles singles
  bar_ h = sign (codes "|") k.Bar (omega arith) (λ at. refl) refl h
