-- Statements that are asked for, of places one behind the other.
use Rattle.std.proofs.Common.{◌≡◌, ℕ, List, [], ◌∷◌, ◌++◌, Bool, true, false, Option, refl, sym, ap, ◌∙◌, append_assoc, if◌then◌else◌}
use Rattle.typing_trace.specs.Spots.{bytes_of_lines, is_asked, spot, spots_in}
use Rattle.typing_trace.specs.declared.spots.Span.{Span}
use Rattle.typing_trace.specs.declared.spots.Spot.{Spot}

pub no_lines : (bs : List ℕ) → bytes_of_lines 0 bs ≡ 0
no_lines [] = refl
no_lines (b ∷ bs) = refl

module _ (span : Option Span) (t : ℕ) where
  pub spots_append : (xs ys : List ℕ) → spots_in span t (xs ++ ys) ≡ spots_in span t xs ++ spots_in span t ys
  spots_append [] ys = refl
  spots_append (x ∷ xs) ys = each (spots_append xs ys) (is_asked span x)
    where
      each : spots_in span t (xs ++ ys) ≡ spots_in span t xs ++ spots_in span t ys → (b : Bool) → (if b then spot t x ∷ spots_in span t (xs ++ ys) else spots_in span t (xs ++ ys))
          ≡ (if b then spot t x ∷ spots_in span t xs else spots_in span t xs) ++ spots_in span t ys
      each later true = ap (λ s. spot t x ∷ s) later
      each later false = later

  -- a statement, those in it, and those behind it
  pub spots_more : (old placed new : List Spot) (at : ℕ) (inner rest : List ℕ) → placed ≡ old ++ spots_in span t (at ∷ []) → new ≡ placed ++ spots_in span t inner
      → new ++ spots_in span t rest ≡ old ++ spots_in span t (at ∷ inner ++ rest)
  spots_more old placed new at inner rest first second =
      ap (λ s. s ++ spots_in span t rest) (second ∙ ap (λ s. s ++ spots_in span t inner) first)
      ∙ append_assoc (old ++ spots_in span t (at ∷ [])) (spots_in span t inner) (spots_in span t rest)
      ∙ append_assoc old (spots_in span t (at ∷ [])) (spots_in span t inner ++ spots_in span t rest)
      ∙ ap (λ s. old ++ (spots_in span t (at ∷ []) ++ s)) (sym (spots_append inner rest))
      ∙ ap (λ s. old ++ s) (sym (spots_append (at ∷ []) (inner ++ rest)))
