-- Small entailments, and the memories that break them, by computation.
use Rattle.std.proofs.Common.{◌≡◌, ℕ, List, [], ◌∷◌, Some, None, refl, map}
use Rattle.std.specs.List.{range_with_len}
use Rattle.cov_expr.specs.declared.expr.Op.TheVariants.{Add, Sub, Eq, Lt, Le}
use Rattle.cov_expr.specs.Term.{Term, const, var, bin}
use Rattle.entail_counter.specs.declared.binding.Binding.{Binding}
use Rattle.entail_counter.specs.Counterexamples.{counterexample}

abbrev is : ℕ → ℕ → Binding
is x v = record { variable = x; value = v }

-- nothing is known: x
of_nothing : counterexample [] (var 0) ≡ Some (is 0 0 ∷ [])
unfolding counterexample
of_nothing = refl

-- x <= 5 gives no x <= 4
too_large : counterexample (bin Le (var 0) (const 5) ∷ []) (bin Le (var 0) (const 4)) ≡ Some (is 0 5 ∷ [])
unfolding counterexample
too_large = refl

-- y == x - 1 and x <= 6 give no y <= 4: 6 - 1 is 5
through_an_equation : counterexample (bin Eq (var 1) (bin Sub (var 0) (const 1)) ∷ bin Le (var 0) (const 6) ∷ []) (bin Le (var 1) (const 4))
    ≡ Some (is 1 5 ∷ is 0 6 ∷ [])
unfolding counterexample
through_an_equation = refl

-- 3 - x == y and x + y == 3 say the same: x == 0 doesn't follow
both_ways : counterexample (bin Eq (bin Sub (const 3) (var 0)) (var 1) ∷ bin Eq (bin Add (var 0) (var 1)) (const 3) ∷ []) (bin Eq (var 0) (const 0))
    ≡ Some (is 0 1 ∷ is 1 2 ∷ [])
unfolding counterexample
both_ways = refl

-- no variable: the hypotheses hold, and the goal is 0
closed : counterexample (const 1 ∷ []) (const 0) ≡ Some []
unfolding counterexample
closed = refl

-- a hypothesis is 0, so that each goal follows
denied : counterexample (const 0 ∷ []) (const 0) ≡ None
unfolding counterexample
denied = refl

-- nothing gives x < y
small : counterexample [] (bin Lt (var 0) (var 1)) ≡ Some (is 0 0 ∷ is 1 0 ∷ [])
unfolding counterexample
small = refl

-- x <= x + 1, but for the greatest
greatest : counterexample [] (bin Le (var 0) (bin Add (var 0) (const 1))) ≡ Some (is 0 4294967295 ∷ [])
unfolding counterexample
greatest = refl

-- it follows
valid : counterexample (bin Lt (var 0) (const 4) ∷ []) (bin Le (var 0) (const 3)) ≡ None
unfolding counterexample
valid = refl

-- as many variables as are bound at most, each 0, and one more
abbrev zeros : ℕ → List Term
zeros n = map (λ x. bin Eq (var x) (const 0)) (range_with_len 0 n)

of_32 : counterexample (zeros 32) (const 0) ≡ Some (map (λ x. is x 0) (range_with_len 0 32))
unfolding counterexample
of_32 = refl

of_33 : counterexample (zeros 33) (const 0) ≡ None
unfolding counterexample
of_33 = refl
