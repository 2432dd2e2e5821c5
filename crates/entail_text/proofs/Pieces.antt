-- A text to which three pieces are added, one behind the other.
use Rattle.std.proofs.Common.{◌≡◌, ℕ, List, ◌++◌, Result, OnOk, ap, ◌∙◌, subst, append_assoc}

added_three : (text a b c first second : List ℕ) → first ≡ text ++ a → second ≡ first ++ b → second ++ c ≡ text ++ (a ++ b ++ c)
added_three text a b c first second e f = ap (λ t. t ++ c) (f ∙ ap (λ t. t ++ b) e ∙ append_assoc text a b) ∙ append_assoc text (a ++ b) c

pub three_added : {T E : Type 0} (result : Result T E) (text a b c first second third : List ℕ) → first ≡ text ++ a → second ≡ first ++ b
    → OnOk result (third ≡ second ++ c) → OnOk result (third ≡ text ++ (a ++ b ++ c))
three_added result text a b c first second third e f h = subst (λ t. OnOk result (third ≡ t)) (added_three text a b c first second e f) h
