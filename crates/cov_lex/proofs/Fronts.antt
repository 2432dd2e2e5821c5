-- The bytes of a token in front of what doesn't go on it are read as that token: what a printer's reading back rests on.
use Rattle.std.proofs.Common.{◌≡◌, ℕ, ◌+◌, ◌-◌, ◌<◌, List, [], ◌∷◌, ◌++◌, length, take, Bool, true, false, cond, refl, ap, ◌∙◌, arith, length-append, Ok}
use Rattle.std.proofs.Math.Seq.{drop-append_seam}
use Rattle.std.proofs.Math.Seq.{take-append_seam}
use Rattle.std.specs.List.{prefix_len, take_while, list_all}
use Rattle.std.proofs.lemmas.Bool.{and_parts}
use Rattle.cov_lex.specs.declared.token.TokenKind.{TokenKind}
use Rattle.cov_lex.specs.Lexing.{Gap, Part, piece_at, tokens_from, token_and_rest, piece_and_rest}
use Rattle.cov_lex.proofs.Steps.{rest}

seam : (b : ℕ) (bs more : List ℕ) (at : ℕ) → tokens_from (length (b ∷ bs) - 1) (at + 1) (bs ++ more) ≡ tokens_from 0 (at + length (b ∷ bs)) more
seam b bs more at =
    rest (length (b ∷ bs)) at b (bs ++ more) (omega arith, simp length-append (omega arith))
    ∙ ap (tokens_from 0 (at + length (b ∷ bs))) (drop-append_seam (b ∷ bs) more)

pub one_token : (text more : List ℕ) (kind : TokenKind) (at : ℕ) → 0 < length text → piece_at at (text ++ more) ≡ Ok (Part kind (length text))
    → tokens_from 0 at (text ++ more) ≡ token_and_rest (record { kind = kind; at = at; end = at + length text }) (tokens_from 0 (at + length text) more)
one_token [] more kind at p e = let no : ⊥ = omega arith in absurd no
one_token (b ∷ bs) more kind at p e =
    ap (λ r. piece_and_rest r at (λ k. tokens_from k (at + 1) (bs ++ more))) e ∙ ap (token_and_rest (record { kind = kind; at = at; end = at + length (b ∷ bs) })) (seam b bs more at)

pub one_gap : (text more : List ℕ) (at : ℕ) → 0 < length text → piece_at at (text ++ more) ≡ Ok (Gap (length text)) → tokens_from 0 at (text ++ more) ≡ tokens_from 0 (at + length text) more
one_gap [] more at p e = let no : ⊥ = omega arith in absurd no
one_gap (b ∷ bs) more at p e = ap (λ r. piece_and_rest r at (λ k. tokens_from k (at + 1) (bs ++ more))) e ∙ seam b bs more at

-- Nothing of a class comes first.
abbrev pub Stops : (ℕ → Bool) → List ℕ → Type 0
Stops p [] = Unit {0}
Stops p (b ∷ bs) = p b ≡ false

-- A run ends where its class does.
run_length : (p : ℕ → Bool) (text more : List ℕ) → list_all p text ≡ true → Stops p more → prefix_len p (text ++ more) ≡ length text
run_length p [] [] h g = refl
run_length p [] (b ∷ bs) h g = ap (λ c. cond c (1 + prefix_len p bs) 0) g
run_length p (b ∷ bs) more h g =
    let parts = and_parts (p b) (list_all p bs) h in
    ap (λ c. cond c (1 + prefix_len p (bs ++ more)) 0) parts.0 ∙ ap (λ n. 1 + n) (run_length p bs more parts.1 g) ∙ omega arith

pub run_of : (p : ℕ → Bool) (text more : List ℕ) → list_all p text ≡ true → Stops p more → take_while p (text ++ more) ≡ text
run_of p text more h g = ap (λ n. take n (text ++ more)) (run_length p text more h g) ∙ take-append_seam text more
