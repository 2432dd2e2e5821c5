-- Texts to which some pieces are added.
use Rattle.std.proofs.Common.{◌≡◌, ℕ, List, ◌++◌, ◌∙◌, ap, append_assoc}

-- two pieces
pub two_pieces : (old first second a b : List ℕ) → first ≡ old ++ a → second ≡ first ++ b → second ≡ old ++ (a ++ b)
two_pieces old first second a b h k = k ∙ ap (λ s. s ++ b) h ∙ append_assoc old a b

-- three
pub three_pieces : (old first second third a b c : List ℕ) → first ≡ old ++ a → second ≡ first ++ b → third ≡ second ++ c → third ≡ old ++ (a ++ b ++ c)
three_pieces old first second third a b c h k l = two_pieces old second third (a ++ b) c (two_pieces old first second a b h k) l

-- four
pub four_pieces : (old first second third fourth a b c d : List ℕ) → first ≡ old ++ a → second ≡ first ++ b → third ≡ second ++ c → fourth ≡ third ++ d
    → fourth ≡ old ++ (a ++ b ++ c ++ d)
four_pieces old first second third fourth a b c d h k l m =
    two_pieces old third fourth (a ++ b ++ c) d (three_pieces old first second third a b c h k l) m
