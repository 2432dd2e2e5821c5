-- The tokens of a text are tokens of it, in order.
use Rattle.std.proofs.Common.{◌≡◌, ℕ, zero, suc, ◌+◌, ◌-◌, ◌≤◌, List, [], ◌∷◌, length, drop, take, Ok, Err, refl, sym, ap, subst, ◌∙◌, arith, Result, IfOk}
use Rattle.std.proofs.lemmas.List.{drop-drop}
use Rattle.std.proofs.lemmas.List.Elements.{All-nil, All-cons}
use Rattle.std.proofs.lemmas.List.Kept.{AllPairs-cons}
use Rattle.std.specs.List.{All}
use Rattle.cov_lex.specs.declared.token.Token.{Token}
use Rattle.cov_lex.specs.declared.token.TokenKind.{TokenKind}
use Rattle.cov_lex.specs.declared.fault.LexFault.{LexFault}
use Rattle.cov_lex.specs.Lexing.{Piece, Gap, Part, Lexed, piece_at, tokens_from, tokens_of, token_and_rest, piece_and_rest}
use Rattle.cov_lex.specs.Tokens.{IsToken, AreTokens, Spells}
use Rattle.cov_lex.proofs.Pieces.{piece_good, IsPiece}

-- tokens of a text, none of which begins before an offset
record AreBehind (text : List ℕ) (from : ℕ) (ts : List Token) : Type 0 where
  tokens : AreTokens text ts
  behind_it : All (λ t. from ≤ t.at) ts

abbrev Good : List ℕ → ℕ → Lexed → Type 0
Good text from r = IfOk r (AreBehind text from)

none : (text : List ℕ) (from : ℕ) → AreBehind text from []
none text from = record {
  tokens = record { each = All-nil (IsToken text); in_order = λ i j d before inside. let no : ⊥ = omega (arith, inside) in absurd no };
  behind_it = All-nil (λ t. from ≤ t.at);
}

one_more : (text : List ℕ) (from : ℕ) (t : Token) (r : Lexed) → IsToken text t → from ≤ t.at → Good text t.end r → Good text from (token_and_rest t r)
one_more text from t (Ok ts) is h g = record {
  tokens = record { each = All-cons (IsToken text) t ts is g.tokens.each; in_order = AllPairs-cons (λ u v. u.end ≤ v.at) t ts g.behind_it g.tokens.in_order };
  behind_it = All-cons (λ u. from ≤ u.at) t ts h (λ k d inside. omega (arith, g.behind_it k d inside, is.some, h));
}
one_more text from t (Err fault) is h g = tt

-- a piece, and what comes behind it
module _ (text : List ℕ) (at : ℕ) (front : List ℕ) (is : drop at text ≡ front) (len : at + length front ≡ length text) where
  token_is : (kind : TokenKind) (n : ℕ) → IsPiece front (Part kind n) → IsToken text (record { kind = kind; at = at; end = at + n })
  token_is kind n piece = record {
    some = omega (arith, piece.0.0);
    within = omega (arith, piece.0.1, len);
    spelled = subst (λ bytes. Spells bytes kind) (ap (take n) (sym is) ∙ ap (λ k. take k (drop at text)) (omega arith)) piece.1;
  }

  piece_then : (from : ℕ) (r : Result Piece LexFault) (go : ℕ → Lexed) → from ≤ at → IfOk r (IsPiece front)
      → ((n start : ℕ) → start ≤ at + 1 + (n - 1) → Good text start (go (n - 1))) → Good text from (piece_and_rest r at go)
  piece_then from (Ok (Gap n)) go h piece g = g n from (omega arith)
  piece_then from (Ok (Part kind n)) go h piece g =
      one_more text from (record { kind = kind; at = at; end = at + n }) (go (n - 1)) (token_is kind n piece) h (g n (at + n) (omega (arith, piece.0.0)))
  piece_then from (Err fault) go h piece g = tt

one_on : (text : List ℕ) (at b : ℕ) (bs : List ℕ) → drop at text ≡ b ∷ bs → drop (at + 1) text ≡ bs
one_on text at b bs is = sym (drop-drop 1 at text) ∙ ap (drop 1) is

good_from : (text : List ℕ) (skipped at : ℕ) (bs : List ℕ) (from : ℕ) → drop at text ≡ bs → at + length bs ≡ length text → from ≤ at + skipped → Good text from (tokens_from skipped at bs)
good_from text skipped at [] from is len h = none text from
good_from text (suc k) at (b ∷ bs) from is len h = good_from text k (at + 1) bs from (one_on text at b bs is) (omega (arith, len)) (omega (arith, h))
good_from text zero at (b ∷ bs) from is len h =
    piece_then text at (b ∷ bs) is len from (piece_at at (b ∷ bs)) (λ k. tokens_from k (at + 1) bs) (omega (arith, h)) (piece_good at b bs)
    (λ n start later. good_from text (n - 1) (at + 1) bs start (one_on text at b bs is) (omega (arith, len)) later)

pub are_tokens : (text : List ℕ) (ts : List Token) → tokens_of text ≡ Ok ts → AreTokens text ts
unfolding tokens_of
are_tokens text ts e = (subst (λ r. IfOk r (AreBehind text 0)) e (good_from text 0 0 text 0 refl (omega arith) (omega arith))).tokens
