-- What the value of an expression depends on.
use Rattle.std.proofs.Common.{◌≡◌, ℕ, zero, suc, ◌+◌, ◌-◌, ◌*◌, ◌%◌, ◌^◌, ◌<◌, ◌≤◌, ◌≢◌, ◌==◌, nat_lt, nat_le, ◌&&◌, ◌||◌, not, arith, lit<, List, [], ◌∷◌, length, get_or, set, Bool, true, false, refl, sym, ◌∙◌, ap, if◌then◌else◌, get_or-set_same, get_or-set_other}
use Rattle.std.proofs.lemmas.Bool.{eqb-true, eq-eqb, or_left, or_right, or_from}
use Rattle.std.proofs.lemmas.Bool.Decides.{nat_tests}
use Rattle.std.proofs.lemmas.Nat.{or_lt, xor_lt}
use Rattle.std.specs.Int.Bits.{and_lt}
use Rattle.cov_expr.specs.declared.expr.Op.{Op}
use Rattle.cov_expr.specs.declared.expr.Op.TheVariants.{Add, Sub, Mul, And, Or, Xor, Eq, Ne, Lt, Le, Both, Either}
use Rattle.cov_expr.specs.Term.{Term, const, var, neg, bin, value, apply, flag, is_set}
use Rattle.cov_expr.specs.Words.{IsWord, AreWords, HasWords}
use Rattle.cov_expr.specs.Trees.{mentions, is_closed, subst}
use Rattle.cov_expr.proofs.Tests.{left_true, right_true}

ap-both : (op : _) (a b c d : ℕ) → a ≡ c → b ≡ d → apply op a b ≡ apply op c d
ap-both op a b c d h k = ap (λ x. apply op x b) h ∙ ap (λ x. apply op c x) k

pub value_mentioned : (e : Term) (m n : List ℕ) → ((x : ℕ) → mentions e x ≡ true → get_or m x 0 ≡ get_or n x 0) → value e m ≡ value e n
value_mentioned (const k) m n h = refl
value_mentioned (var x) m n h = h x (eq-eqb x x refl)
value_mentioned (neg e) m n h = ap (λ v. flag (not (is_set v))) (value_mentioned e m n h)
value_mentioned (bin op a b) m n h =
    ap-both op (value a m) (value b m) (value a n) (value b n)
    (value_mentioned a m n (λ x i. h x (or_left (mentions a x) (mentions b x) i)))
    (value_mentioned b m n (λ x i. h x (or_right (mentions a x) (mentions b x) i)))

pub closed_mentions : (e : Term) (x : ℕ) → is_closed e ≡ true → mentions e x ≡ false
closed_mentions (const k) x h = refl
closed_mentions (var y) x h = let e : false ≡ true = h in cc
closed_mentions (neg e) x h = closed_mentions e x h
closed_mentions (bin op a b) x h =
    or_from (mentions a x) (mentions b x)
    (closed_mentions a x (left_true (is_closed a) (is_closed b) h))
    (closed_mentions b x (right_true (is_closed a) (is_closed b) h))

pub value-closed : (e : Term) (m n : List ℕ) → is_closed e ≡ true → value e m ≡ value e n
value-closed e m n h = value_mentioned e m n (λ x i. let k = closed_mentions e x h in let c : true ≡ false = sym i ∙ k in cc)

pub value-subst : (e part : Term) (x : ℕ) (m : List ℕ) → x < length m → value (subst e x part) m ≡ value e (set m x (value part m))
value-subst (const k) part x m h = refl
value-subst (var y) part x m h = at (y == x) refl
  where
    at : (b : Bool) → (y == x) ≡ b → value (if b then part else var y) m ≡ get_or (set m x (value part m)) y 0
    at true i = sym (rw (eqb-true y x i) (get_or-set_same m x (value part m) 0 h))
    at false i = sym (get_or-set_other m x y (value part m) 0 (λ j. let c : true ≡ false = sym (eq-eqb y x j) ∙ i in cc))
value-subst (neg e) part x m h = ap (λ v. flag (not (is_set v))) (value-subst e part x m h)
value-subst (bin op a b) part x m h =
    ap-both op (value (subst a x part) m) (value (subst b x part) m) (value a (set m x (value part m))) (value b (set m x (value part m)))
    (value-subst a part x m h) (value-subst b part x m h)

-- Values are words ---------------------------------------------------------------------------------------------

flag_word : (b : Bool) → IsWord (flag b)
flag_word true = lit< tt
flag_word false = lit< tt

rest_word : (n : ℕ) → n % 2 ^ 32 < 2 ^ 32
rest_word n = omega arith

pub apply_word : (op : Op) (x y : ℕ) → IsWord x → IsWord y → IsWord (apply op x y)
apply_word Add x y h k = rest_word (x + y)
apply_word Sub x y h k = rest_word (x + (2 ^ 32 - y))
apply_word Mul x y h k = rest_word (x * y)
apply_word And x y h k = and_lt 32 x y h k
apply_word Or x y h k = or_lt 32 x y h k
apply_word Xor x y h k = xor_lt 32 x y h k
apply_word Eq x y h k = flag_word (x == y)
apply_word Ne x y h k = flag_word (not (x == y))
apply_word Lt x y h k = flag_word (nat_lt x y)
apply_word Le x y h k = flag_word (nat_le x y)
apply_word Both x y h k = flag_word (is_set x && is_set y)
apply_word Either x y h k = flag_word (is_set x || is_set y)

pub word_at : (m : List ℕ) (x : ℕ) → AreWords m → IsWord (get_or m x 0)
word_at [] x w = lit< tt
word_at (v ∷ vs) zero w = w.0
word_at (v ∷ vs) (suc x) w = word_at vs x w.1

pub value_word : (e : Term) (m : List ℕ) → HasWords e → AreWords m → IsWord (value e m)
value_word (const k) m h w = h
value_word (var x) m h w = word_at m x w
value_word (neg e) m h w = flag_word (not (is_set (value e m)))
value_word (bin op a b) m h w = apply_word op (value a m) (value b m) (value_word a m h.0 w) (value_word b m h.1 w)

-- Values of comparisons ----------------------------------------------------------------------------------------

pub set_holds : (n : ℕ) → is_set n ≡ true → n ≢ 0
set_holds zero h = absurd cc
set_holds (suc n) h = λ e. omega (arith, e)

pub equal_values : (x y : ℕ) → x ≡ y → apply Eq x y ≢ 0
equal_values x y h = grind (arith, nat_tests)

pub values_equal : (x y : ℕ) → apply Eq x y ≢ 0 → x ≡ y
values_equal x y h = grind (arith, nat_tests)

pub at_most_holds : (x y : ℕ) → x ≤ y → apply Le x y ≢ 0
at_most_holds x y h = grind (arith, nat_tests)
