-- How deep the brackets of a text are, and how many marks it has in a row.
use Rattle.std.specs.Prelude.{◌≡◌, ℕ, ◌+◌, ◌-◌, ◌==◌, List, [], ◌∷◌, if◌then◌else◌, Option, Some, None}
use Rattle.cov_expr.specs.declared.limits.TheConstants.{MOST_BRACKETS, MOST_MARKS}
use Rattle.cov_expr.specs.declared.kind.Kind.{Kind}
use Rattle.cov_expr.specs.declared.kind.Kind.TheVariants as k
use Rattle.cov_grammar.specs.declared.token.Token.{Token}
use Rattle.cov_grammar.specs.LookAhead.{has}
use Rattle.cov_text.specs.declared.depth.Effect as Rust
use Rattle.cov_text.specs.declared.depth.Effect.TheVariants as rust

pub data Effect : Type 0 where
  opens : Effect
  closes : Effect
  marks : Effect
  other : Effect

abbrev pub effect : Kind → Effect
effect j =
    if has (k.OpenParen ∷ k.OpenBracket ∷ k.OpenBrace ∷ []) j then opens
    else (if has (k.CloseParen ∷ k.CloseBracket ∷ k.CloseBrace ∷ []) j then closes
    else (if has (k.Bang ∷ []) j then marks else other))

-- the code's word for it
abbrev pub Shows : Rust.Effect → Effect → Type 0
Shows rust.Opens e = e ≡ opens
Shows rust.Closes e = e ≡ closes
Shows rust.Marks e = e ≡ marks
Shows rust.Other e = e ≡ other

-- what a token does behind so many open brackets and so many marks in a row, and what comes behind it
abbrev pub counted : Effect → (n m at : ℕ) → (ℕ → ℕ → Option ℕ) → Option ℕ
counted opens n m at go = if n == MOST_BRACKETS then Some at else go (n + 1) 0
counted closes n m at go = go (n - 1) 0
counted marks n m at go = if m == MOST_MARKS then Some at else go n (m + 1)
counted other n m at go = go n 0

-- The place of the first token that opens a bracket past the most, or is a mark past the most in a row, behind so many open brackets and marks.
abbrev pub deep : (n m : ℕ) → List Token → Option ℕ
deep n m [] = None
deep n m (t ∷ ts) = counted (effect t.kind) n m t.at (λ x y. deep x y ts)
