-- Those of which a search was made, but for one, are the others without a valid certificate.
use Rattle.std.proofs.Common.{◌≡◌, ℕ, ◌==◌, ◌&&◌, not, Bool, true, false, cond, List, [], ◌∷◌, map, filter, refl, ap}
use Rattle.cov_ast.specs.Syntax.{Block}
use Rattle.cov_ast.specs.declared.refusal.Refusal.{Refusal}
use Rattle.typing_law.specs.ThreadEntailments.{PlacedEntailment, is_proved_in}
use Rattle.typing_rules.specs.Keeping.{SearchedEntailment, searched_for}
use Rattle.entail_refused.specs.Inside.SearchedOthers.{is_elsewhere, listed}
use Rattle.entail_refused.specs.OtherRefusals.{is_other, refusal_at}

module _ (t place number : ℕ) (body : Block) where
  abbrev unproved : List PlacedEntailment → List PlacedEntailment
  unproved gs = filter (λ g. not (is_proved_in body g)) gs

  abbrev others : List PlacedEntailment → List PlacedEntailment
  others gs = filter (is_other body place number) gs

  abbrev refusals : List PlacedEntailment → List Refusal
  refusals gs = map (λ g. refusal_at t g.place g.number) gs

  abbrev elsewhere : List PlacedEntailment → List SearchedEntailment
  elsewhere gs = filter (is_elsewhere place number) (map (searched_for 0) gs)

  pub others_listed : (gs : List PlacedEntailment) → listed t place number (map (searched_for 0) (unproved gs)) ≡ refusals (others gs)
  others_listed [] = refl
  others_listed (g ∷ gs) = by_proof (is_proved_in body g) (others_listed gs)
    where
      by_place : (same : Bool) → listed t place number (map (searched_for 0) (unproved gs)) ≡ refusals (others gs)
          → map (λ s. refusal_at t s.place s.number) (cond (not same) (searched_for 0 g ∷ elsewhere (unproved gs)) (elsewhere (unproved gs)))
          ≡ refusals (cond (not same) (g ∷ others gs) (others gs))
      by_place true rest = rest
      by_place false rest = ap (λ rs. refusal_at t g.place g.number ∷ rs) rest

      by_proof : (proved : Bool) → listed t place number (map (searched_for 0) (unproved gs)) ≡ refusals (others gs)
          → listed t place number (map (searched_for 0) (cond (not proved) (g ∷ unproved gs) (unproved gs)))
          ≡ refusals (cond (not proved && not (g.place == place && g.number == number)) (g ∷ others gs) (others gs))
      by_proof true rest = rest
      by_proof false rest = by_place (g.place == place && g.number == number) rest
