-- Which entailment of a statement has no valid certificate.
use Rattle.std.specs.Prelude.{ℕ, suc, List, [], ◌∷◌, if◌then◌else◌, Option, None, Some}
use Rattle.cov_ast.specs.Syntax.{Proof}
use Rattle.typing_law.specs.Entailments.{Entailment, is_proved}
use Rattle.typing_rules.specs.declared.purpose.Purpose.{Purpose}
use Rattle.typing_rules.specs.declared.purpose.Purpose.TheVariants.{Judge, Collect, Search}

-- the number of the first entailment without a valid certificate, where they are numbered from a number on
abbrev pub first_unproved : List Proof → (n : ℕ) → List Entailment → Option ℕ
first_unproved proofs n [] = None
first_unproved proofs n (g ∷ gs) = if is_proved proofs n g then first_unproved proofs (suc n) gs else Some n

-- the one that a walk finds: only to judge, it asks for one
abbrev pub unproved_for : Purpose → List Proof → (n : ℕ) → List Entailment → Option ℕ
unproved_for Judge proofs n gs = first_unproved proofs n gs
unproved_for (Collect wanted) proofs n gs = None
unproved_for (Search depth) proofs n gs = None
