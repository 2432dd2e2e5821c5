-- A text, and another one where the first is empty, by whether anything was added.
use Rattle.std.proofs.Common.{◌≡◌, ◌≢◌, ◌++◌, ◌+◌, ℕ, suc, List, [], ◌∷◌, length, refl, ap, sym, ◌∙◌, arith}
use Rattle.std.proofs.lemmas.List.{append-nil, length-append}
use Rattle.entail_losses.specs.Losses.{or_else}

-- nothing was added
pub other_told : (old text other : List ℕ) → length (old ++ text) ≡ length old → (old ++ text) ++ other ≡ old ++ or_else text other
other_told old [] other same = ap (λ t. t ++ other) (append-nil old)
other_told old (b ∷ bs) other same =
    let longer : length old + suc (length bs) ≡ length old = sym (length-append old (b ∷ bs)) ∙ same in
    absurd (omega arith)

-- something was
pub text_told : (old text other : List ℕ) → length (old ++ text) ≢ length old → old ++ text ≡ old ++ or_else text other
text_told old [] other longer = absurd (longer (ap length (append-nil old)))
text_told old (b ∷ bs) other longer = refl
