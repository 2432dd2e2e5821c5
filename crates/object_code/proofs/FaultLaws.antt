-- Laws of what bytes are: the object of one code, or bytes with one first faulty byte, and never both.
use Rattle.std.proofs.Common.{◌≡◌, ℕ, ◌+◌, ◌<◌, ◌≤◌, nat_lt, List, ◌++◌, take, drop, refl, ap, sym, ◌∙◌, append_assoc, arith, Bool, true, false}
use Rattle.std.proofs.lemmas.Bool.{ltb-true}
use Rattle.std.proofs.lemmas.Bool.Decides.{nat_tests}
use Rattle.std.proofs.lemmas.List.{take-append-drop, take-take}
use Rattle.risc_machine.specs.declared.parts.Parts.{Parts}
use Rattle.object_code.specs.Object.{BeginsObject, IsObjectOf}
use Rattle.object_code.specs.ObjectAnswers.{IsFaultyByte}
use Rattle.object_code.proofs.Whole.{one_to_one}

module _ (bytes : List ℕ) where
  pub one_object : (p q : Parts) → IsObjectOf p bytes → IsObjectOf q bytes → p ≡ q
  one_object p q h g = one_to_one p q h.whole g.whole (sym h.spelling ∙ g.spelling)

  pub object_or_faulty : (p : Parts) (at : ℕ) → IsObjectOf p bytes → IsFaultyByte bytes at → ⊥
  object_or_faulty p at h faulty = faulty.unread p h

  -- an object that begins with bytes begins with fewer of them
  begins_with_fewer : (m n : ℕ) → m ≤ n → BeginsObject (take n bytes) → BeginsObject (take m bytes)
  begins_with_fewer m n order (p, whole, rest, is) = (
    p,
    whole,
    drop m (take n bytes) ++ rest,
    is ∙ ap (λ front. front ++ rest) (sym (take-append-drop m (take n bytes))) ∙ append_assoc (take m (take n bytes)) (drop m (take n bytes)) rest
        ∙ ap (λ front. front ++ (drop m (take n bytes) ++ rest)) (take-take m n bytes order),
  )

  none_earlier : (at other : ℕ) → IsFaultyByte bytes at → IsFaultyByte bytes other → at < other → ⊥
  none_earlier at other h g order =
      h.faulty (omega (arith, order, g.within)) (begins_with_fewer (at + 1) other (omega (arith, order)) g.before)

  pub one_faulty : (at other : ℕ) → IsFaultyByte bytes at → IsFaultyByte bytes other → at ≡ other
  one_faulty at other h g = by (nat_lt at other) (nat_lt other at) refl refl
    where
      by : (less more : Bool) → nat_lt at other ≡ less → nat_lt other at ≡ more → at ≡ other
      by true more e k = absurd (none_earlier at other h g (ltb-true at other e))
      by false true e k = absurd (none_earlier other at g h (ltb-true other at k))
      by false false e k = grind (arith, nat_tests)
