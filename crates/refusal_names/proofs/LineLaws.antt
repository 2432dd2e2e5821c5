-- A text to which pieces are added, one behind the other.
use Rattle.std.proofs.Common.{◌≡◌, ℕ, List, ◌++◌, Result, OnOk, ap, ◌∙◌, subst, append_assoc}

-- one piece more
longer : (text done a s next : List ℕ) → s ≡ text ++ done → next ≡ s ++ a → next ≡ text ++ (done ++ a)
longer text done a s next so_far more = more ∙ ap (λ t. t ++ a) so_far ∙ append_assoc text done a

-- the last piece, or the second of two
pub two_pieces : {T E : Type 0} (result : Result T E) (text done a s next : List ℕ) → s ≡ text ++ done → OnOk result (next ≡ s ++ a) → OnOk result (next ≡ text ++ (done ++ a))
two_pieces result text done a s next so_far more =
    subst (λ t. OnOk result (next ≡ t)) (ap (λ t. t ++ a) so_far ∙ append_assoc text done a) more

module _ {T E : Type 0} (result : Result T E) (text a b c s1 s2 s3 : List ℕ) (h1 : s1 ≡ text ++ a) (h2 : s2 ≡ s1 ++ b) where
  two : s2 ≡ text ++ (a ++ b)
  two = longer text a b s1 s2 h1 h2

  pub three_pieces : OnOk result (s3 ≡ s2 ++ c) → OnOk result (s3 ≡ text ++ (a ++ b ++ c))
  three_pieces h = two_pieces result text (a ++ b) c s2 s3 two h

  module _ (d e s4 s5 : List ℕ) (h3 : s3 ≡ s2 ++ c) (h4 : s4 ≡ s3 ++ d) where
    four : s4 ≡ text ++ (a ++ b ++ c ++ d)
    four = longer text (a ++ b ++ c) d s3 s4 (longer text (a ++ b) c s2 s3 two h3) h4

    pub five_pieces : OnOk result (s5 ≡ s4 ++ e) → OnOk result (s5 ≡ text ++ (a ++ b ++ c ++ d ++ e))
    five_pieces h = two_pieces result text (a ++ b ++ c ++ d) e s4 s5 four h

    module _ (f s6 : List ℕ) (h5 : s5 ≡ s4 ++ e) where
      pub six_pieces : OnOk result (s6 ≡ s5 ++ f) → OnOk result (s6 ≡ text ++ (a ++ b ++ c ++ d ++ e ++ f))
      six_pieces h = two_pieces result text (a ++ b ++ c ++ d ++ e) f s5 s6 (longer text (a ++ b ++ c ++ d) e s4 s5 four h5) h
