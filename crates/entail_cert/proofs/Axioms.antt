-- Each axiom holds of all words.
use Rattle.std.proofs.Common.{◌≡◌, ◌≢◌, ℕ, ◌+◌, ◌-◌, ◌%◌, ◌^◌, ◌<◌, ◌≤◌, List, get_or, arith, not}
use Rattle.std.proofs.lemmas.Bool.Decides.{nat_tests}
use Rattle.std.proofs.lemmas.Nat.{and_comm, and_le_l, le_or_l}
use Rattle.std.specs.Int.Bits.{xor_self}
use Rattle.cov_expr.specs.declared.expr.Op.TheVariants.{Add, Sub, And, Or, Xor, Eq, Ne, Lt, Le, Both, Either}
use Rattle.cov_expr.specs.Term.{apply, flag, is_set}
use Rattle.cov_expr.specs.Words.{IsWord, AreWords}
use Rattle.cov_expr.specs.Entailment.{AllHold}
use Rattle.cov_expr.proofs.Values.{word_at, equal_values, at_most_holds}
use Rattle.entail_cert.specs.Axioms.{axioms}

-- Truth values as words ----------------------------------------------------------------------------------------

-- Sums of words ------------------------------------------------------------------------------------------------

sum_less : (x y : ℕ) → x < 2 ^ 32 → y < 2 ^ 32 → ((x + y) % 2 ^ 32 + (2 ^ 32 - y)) % 2 ^ 32 ≡ x
sum_less x y h k = omega arith

less_itself : (x : ℕ) → x < 2 ^ 32 → (x + (2 ^ 32 - x)) % 2 ^ 32 ≡ 0
less_itself x h = omega arith

module _ (x y z : ℕ) where
  axiom_1 : apply Either (apply Eq x y) (apply Ne x y) ≢ 0
  axiom_1 = grind (arith, nat_tests)

  axiom_2 : apply Either (flag (not (is_set (apply Eq x y)))) (apply Eq y x) ≢ 0
  axiom_2 = grind (arith, nat_tests)

  axiom_3 : apply Either (flag (not (is_set (apply Ne x y)))) (apply Ne y x) ≢ 0
  axiom_3 = grind (arith, nat_tests)

  axiom_4 : apply Either (flag (not (is_set (apply Eq x y)))) (flag (not (is_set (apply Ne x y)))) ≢ 0
  axiom_4 = grind (arith, nat_tests)

  axiom_5 : apply Either (flag (not (is_set (apply Both (apply Eq x y) (apply Eq y z))))) (apply Eq x z) ≢ 0
  axiom_5 = grind (arith, nat_tests)

  axiom_6 : apply Either (apply Either (apply Lt x y) (apply Eq x y)) (apply Lt y x) ≢ 0
  axiom_6 = grind (arith, nat_tests)

  axiom_7 : flag (not (is_set (apply Lt x x))) ≢ 0
  axiom_7 = grind (arith, nat_tests)

  axiom_8 : apply Either (flag (not (is_set (apply Both (apply Lt x y) (apply Lt y z))))) (apply Lt x z) ≢ 0
  axiom_8 = grind (arith, nat_tests)

  axiom_9 : apply Either (flag (not (is_set (apply Lt x y)))) (apply Le x y) ≢ 0
  axiom_9 = grind (arith, nat_tests)

  axiom_10 : apply Either (apply Either (flag (not (is_set (apply Le x y)))) (apply Lt x y)) (apply Eq x y) ≢ 0
  axiom_10 = grind (arith, nat_tests)

  axiom_11 : apply Either (flag (not (is_set (apply Eq x y)))) (apply Le x y) ≢ 0
  axiom_11 = grind (arith, nat_tests)

  axiom_12 : apply Either (flag (not (is_set (apply Both (apply Le x y) (apply Le y z))))) (apply Le x z) ≢ 0
  axiom_12 = grind (arith, nat_tests)

  axiom_13 : apply Either (flag (not (is_set (apply Both (apply Le x y) (apply Le y x))))) (apply Eq x y) ≢ 0
  axiom_13 = grind (arith, nat_tests)

  axiom_14 : apply Le 0 x ≢ 0
  axiom_14 = at_most_holds 0 x (omega arith)

  axiom_15 : IsWord x → apply Le x 4294967295 ≢ 0
  axiom_15 h = at_most_holds x 4294967295 (omega arith)

  axiom_16 : apply Eq (apply Add x y) (apply Add y x) ≢ 0
  axiom_16 = equal_values _ _ (omega arith)

  axiom_17 : IsWord x → IsWord y → apply Eq (apply Sub (apply Add x y) y) x ≢ 0
  axiom_17 h k = equal_values _ _ (sum_less x y h k)

  axiom_18 : IsWord x → apply Eq (apply Sub x x) 0 ≢ 0
  axiom_18 h = equal_values _ _ (less_itself x h)

  axiom_19 : apply Eq (apply Xor x x) 0 ≢ 0
  axiom_19 = equal_values _ _ (xor_self x)

  axiom_20 : apply Le (apply And x y) x ≢ 0
  axiom_20 = at_most_holds _ _ (and_le_l x y)

  axiom_21 : apply Le x (apply Or x y) ≢ 0
  axiom_21 = at_most_holds _ _ (le_or_l x y)

  axiom_22 : apply Either (apply Eq x 0) (apply Lt 0 x) ≢ 0
  axiom_22 = grind (arith, nat_tests)

  axiom_23 : apply Eq (apply And x y) (apply And y x) ≢ 0
  axiom_23 = equal_values _ _ (and_comm x y)

  axiom_24 : apply Either (flag (not (is_set x))) (apply Ne x 0) ≢ 0
  axiom_24 = grind (arith, nat_tests)

pub axioms_hold : (m : List ℕ) → AreWords m → AllHold axioms m
axioms_hold m w =
    let x = get_or m 0 0 in
    let y = get_or m 1 0 in
    let z = get_or m 2 0 in
    let h : IsWord x = word_at m 0 w in
    let k : IsWord y = word_at m 1 w in (
      axiom_1 x y z,
      (
        axiom_2 x y z,
        (
          axiom_3 x y z,
          (
            axiom_4 x y z,
            (
              axiom_5 x y z,
              (
                axiom_6 x y z,
                (
                  axiom_7 x y z,
                  (
                    axiom_8 x y z,
                    (
                      axiom_9 x y z,
                      (
                        axiom_10 x y z,
                        (
                          axiom_11 x y z,
                          (
                            axiom_12 x y z,
                            (
                              axiom_13 x y z,
                              (
                                axiom_14 x y z,
                                (
                                  axiom_15 x y z h,
                                  (
                                    axiom_16 x y z,
                                    (
                                      axiom_17 x y z h k,
                                      (
                                        axiom_18 x y z h,
                                        (
                                          axiom_19 x y z,
                                          (
                                            axiom_20 x y z,
                                            (
                                              axiom_21 x y z,
                                              (
                                                axiom_22 x y z,
                                                (
                                                  axiom_23 x y z,
                                                  (
                                                    axiom_24 x y z,
                                                    tt,
                                                  ),
                                                ),
                                              ),
                                            ),
                                          ),
                                        ),
                                      ),
                                    ),
                                  ),
                                ),
                              ),
                            ),
                          ),
                        ),
                      ),
                    ),
                  ),
                ),
              ),
            ),
          ),
        ),
      ),
    )
