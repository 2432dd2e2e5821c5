-- What is chosen for threads, one thread after another.
use Rattle.std.proofs.Common.{◌≡◌, ℕ, zero, suc, ◌<◌, ◌≤◌, List, [], ◌∷◌, ◌++◌, length, refl, arith}
use Rattle.annotate.specs.declared.choices.ThreadChoices.{ThreadChoices}
use Rattle.annotate.specs.Inside.Choosing.{chosen_at, chosen_in}

pub chosen_before : (cs : List ThreadChoices) (c : ThreadChoices) (t place : ℕ) → t < length cs → chosen_in (cs ++ c ∷ []) t place ≡ chosen_in cs t place
chosen_before [] c t place inside = absurd (omega (arith, inside))
chosen_before (d ∷ cs) c zero place inside = refl
chosen_before (d ∷ cs) c (suc t) place inside = chosen_before cs c t place (omega (arith, inside))

pub chosen_last : (cs : List ThreadChoices) (c : ThreadChoices) (place : ℕ) → chosen_in (cs ++ c ∷ []) (length cs) place ≡ chosen_at c place
chosen_last [] c place = refl
chosen_last (d ∷ cs) c place = chosen_last cs c place

pub chosen_past : (cs : List ThreadChoices) (t place : ℕ) → length cs ≤ t → chosen_in cs t place ≡ []
chosen_past [] t place past = refl
chosen_past (d ∷ cs) zero place past = absurd (omega (arith, past))
chosen_past (d ∷ cs) (suc t) place past = chosen_past cs t place (omega (arith, past))
