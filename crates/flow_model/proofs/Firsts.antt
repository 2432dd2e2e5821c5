-- The first of the numbers below a bound that passes a test.
use Rattle.std.proofs.Common.{◌≡◌, ℕ, zero, suc, ◌+◌, ◌<◌, ◌≤◌, Bool, true, false, Option, Some, None, cond, refl, sym, ◌∙◌, ap, subst, ⊎_elim, arith}
use Rattle.std.specs.List.{find, range_with_len}
use Rattle.std.proofs.lemmas.Bool.{cases_eq, cond-true, cond-false}

-- a front of the numbers fails, and then one passes
found_from : (test : ℕ → Bool) (a n i : ℕ) → a ≤ i → i < a + n → test i ≡ true → ((k : ℕ) → a ≤ k → k < i → test k ≡ false)
    → find test (range_with_len a n) ≡ Some i
found_from test a zero i low high here before = absurd (omega (arith, low, high))
found_from test a (suc n) i low high here before =
    ⊎_elim
    (λ e. cond-true (test a) (Some a) (find test (range_with_len (a + 1) n)) (subst (λ j. test j ≡ true) (sym e) here) ∙ ap Some e)
    (λ d. cond-false (test a) (Some a) (find test (range_with_len (a + 1) n)) (before a (omega arith) (omega (arith, low, d)))
    ∙ found_from test (a + 1) n i (omega (arith, low, d)) (omega (arith, high)) here (λ k l h. before k (omega (arith, l)) h))
    (cases_eq a i)

none_from : (test : ℕ → Bool) (a n : ℕ) → ((k : ℕ) → a ≤ k → k < a + n → test k ≡ false) → find test (range_with_len a n) ≡ None
none_from test a zero fails = refl
none_from test a (suc n) fails =
    cond-false (test a) (Some a) (find test (range_with_len (a + 1) n)) (fails a (omega arith) (omega arith))
    ∙ none_from test (a + 1) n (λ k l h. fails k (omega (arith, l)) (omega (arith, h)))

same_from : (f g : ℕ → Bool) (a n : ℕ) → ((k : ℕ) → a ≤ k → k < a + n → f k ≡ g k) → find f (range_with_len a n) ≡ find g (range_with_len a n)
same_from f g a zero same = refl
same_from f g a (suc n) same =
    ap (λ b. cond b (Some a) (find f (range_with_len (a + 1) n))) (same a (omega arith) (omega arith))
    ∙ ap (cond (g a) (Some a)) (same_from f g (a + 1) n (λ k l h. same k (omega (arith, l)) (omega (arith, h))))

-- what none found says of the first number and of the rest
head_fails : (b : Bool) (a : ℕ) (r : Option ℕ) → cond b (Some a) r ≡ None → b ≡ false
head_fails true a r h = absurd cc
head_fails false a r h = refl

rest_fails : (b : Bool) (a : ℕ) (r : Option ℕ) → cond b (Some a) r ≡ None → r ≡ None
rest_fails true a r h = absurd cc
rest_fails false a r h = h

fails_from : (test : ℕ → Bool) (a n : ℕ) → find test (range_with_len a n) ≡ None → (k : ℕ) → a ≤ k → k < a + n → test k ≡ false
fails_from test a zero none k low high = absurd (omega (arith, low, high))
fails_from test a (suc n) none k low high =
    ⊎_elim
    (λ e. subst (λ j. test j ≡ false) e (head_fails (test a) a (find test (range_with_len (a + 1) n)) none))
    (λ d. fails_from test (a + 1) n (rest_fails (test a) a (find test (range_with_len (a + 1) n)) none) k (omega (arith, low, d)) (omega (arith, high)))
    (cases_eq a k)

pub found : (test : ℕ → Bool) (n i : ℕ) → i < n → test i ≡ true → ((k : ℕ) → k < i → test k ≡ false) → Some i ≡ find test (range_with_len 0 n)
found test n i inside here before = sym (found_from test 0 n i (omega arith) (omega (arith, inside)) here (λ k l h. before k h))

pub none_found : (test : ℕ → Bool) (n : ℕ) → ((k : ℕ) → k < n → test k ≡ false) → None ≡ find test (range_with_len 0 n)
none_found test n fails = sym (none_from test 0 n (λ k l h. fails k (omega (arith, h))))

pub same_found : (f g : ℕ → Bool) (n : ℕ) → ((k : ℕ) → k < n → f k ≡ g k) → find f (range_with_len 0 n) ≡ find g (range_with_len 0 n)
same_found f g n same = same_from f g 0 n (λ k l h. same k (omega (arith, h)))

pub none_passes : (test : ℕ → Bool) (n : ℕ) → find test (range_with_len 0 n) ≡ None → (k : ℕ) → k < n → test k ≡ false
none_passes test n none k inside = fails_from test 0 n none k (omega arith) (omega (arith, inside))
