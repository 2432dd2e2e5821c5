-- What the version of a text leaves of its tokens: their places, the numbers of names, and how many they are.
use Rattle.std.proofs.Common.{◌≡◌, ℕ, ◌<◌, List, [], ◌∷◌, length, map, Bool, true, false, if◌then◌else◌, not, ◌&&◌, ◌==◌, refl, sym, ap, ◌∙◌}
use Rattle.std.proofs.lemmas.List.{length-map}
use Rattle.cov_expr.specs.declared.kind.Kind.TheVariants as k
use Rattle.cov_grammar.specs.declared.token.Token.{Token}
use Rattle.cov_grammar.specs.Shapes.{head}
use Rattle.cov_grammar.specs.LookAhead.{kind_is, starts}
use Rattle.cov_grammar.proofs.Basics.{kind_itself, kind_one, left_false}
use Rattle.cov_text.specs.Versioned.{foreign, of_first, is_other_number, behind_version, versioned}
use Rattle.cov_text.proofs.Summaries.{AreBelow, places}
use Rattle.cov_text.proofs.SilentLaws.{HasNoOutput}

-- one token, which may become foreign
abbrev made : Bool → Token → Token
made b t = if b then foreign t else t

made_below : (n : ℕ) (b : Bool) (t : Token) → (t.kind ≡ k.Name → t.value < n) → (made b t).kind ≡ k.Name → (made b t).value < n
made_below n true t h e = cc
made_below n false t h e = h e

made_place : (b : Bool) (t : Token) → (made b t).at ≡ t.at
made_place true t = refl
made_place false t = refl

-- Numbers of names ---------------------------------------------------------------------------------------------

first_below : (n : ℕ) (ts : List Token) → AreBelow n ts → AreBelow n (map of_first ts)
first_below n [] h = tt
first_below n (t ∷ ts) h = (made_below n (kind_is k.Output t.kind) t h.0, first_below n ts h.1)

behind_below : (n : ℕ) (ts : List Token) → AreBelow n ts → AreBelow n (behind_version ts)
behind_below n [] h = tt
behind_below n (t ∷ ts) h = (made_below n (is_other_number t) t h.0, h.1)

pub versioned_below : (n : ℕ) (ts : List Token) → AreBelow n ts → AreBelow n (versioned ts)
versioned_below n [] h = tt
versioned_below n (t ∷ ts) h = by (kind_is k.Version t.kind)
  where
    by : (b : Bool) → AreBelow n (if b then t ∷ behind_version ts else map of_first (t ∷ ts))
    by true = (h.0, behind_below n ts h.1)
    by false = first_below n (t ∷ ts) h

-- Places -------------------------------------------------------------------------------------------------------

first_places : (ts : List Token) → places (map of_first ts) ≡ places ts
first_places [] = refl
first_places (t ∷ ts) = ap (λ p. p ∷ places (map of_first ts)) (made_place (kind_is k.Output t.kind) t) ∙ ap (λ ps. t.at ∷ ps) (first_places ts)

behind_places : (ts : List Token) → places (behind_version ts) ≡ places ts
behind_places [] = refl
behind_places (t ∷ ts) = ap (λ p. p ∷ places ts) (made_place (is_other_number t) t)

pub versioned_places : (ts : List Token) → places (versioned ts) ≡ places ts
versioned_places [] = refl
versioned_places (t ∷ ts) = by (kind_is k.Version t.kind)
  where
    by : (b : Bool) → places (if b then t ∷ behind_version ts else map of_first (t ∷ ts)) ≡ places (t ∷ ts)
    by true = ap (λ ps. t.at ∷ ps) (behind_places ts)
    by false = first_places (t ∷ ts)

pub versioned_length : (ts : List Token) → length (versioned ts) ≡ length ts
versioned_length ts = sym (length-map (versioned ts) (λ t. t.at)) ∙ ap length (versioned_places ts) ∙ length-map ts (λ t. t.at)

-- Tokens that stay ---------------------------------------------------------------------------------------------

not_output : (t : Token) → (t.kind ≡ k.Output → ⊥) → kind_is k.Output t.kind ≡ false
not_output t h = by (kind_is k.Output t.kind) refl
  where
    by : (b : Bool) → kind_is k.Output t.kind ≡ b → b ≡ false
    by true e = absurd (h (sym (kind_one k.Output t.kind e)))
    by false e = refl

first_same : (ts : List Token) → HasNoOutput ts → map of_first ts ≡ ts
first_same [] h = refl
first_same (t ∷ ts) h = ap (λ b. made b t ∷ map of_first ts) (not_output t h.0) ∙ ap (λ us. t ∷ us) (first_same ts h.1)

-- tokens without outputs, of which the first isn't `version`
pub unnamed_same : (ts : List Token) → starts (k.Version ∷ []) (head ts) ≡ false → HasNoOutput ts → versioned ts ≡ ts
unnamed_same [] other h = refl
unnamed_same (t ∷ ts) other h =
    ap (λ b. if b then t ∷ behind_version ts else map of_first (t ∷ ts)) (left_false (kind_is k.Version t.kind) false other) ∙ first_same (t ∷ ts) h

other_value : (b : Bool) (n : ℕ) → n ≡ 2 → (b && not (n == 2)) ≡ false
other_value true n e = ap (λ m. not (m == 2)) e
other_value false n e = refl

-- tokens that begin with `version 2`
pub named_same : (t u : Token) (ts : List Token) → t.kind ≡ k.Version → u.value ≡ 2 → versioned (t ∷ u ∷ ts) ≡ t ∷ u ∷ ts
named_same t u ts e two =
    ap (λ b. if b then t ∷ behind_version (u ∷ ts) else map of_first (t ∷ u ∷ ts)) (ap (kind_is k.Version) e ∙ kind_itself k.Version)
    ∙ ap (λ b. t ∷ made b u ∷ ts) (other_value (kind_is k.Number u.kind) u.value two)
