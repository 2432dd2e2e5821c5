-- The memory of bindings: what is read in it, and that what bindings settle is the value there.
use Rattle.std.proofs.Common.{◌≡◌, ◌≢◌, ℕ, zero, suc, ◌==◌, ◌&&◌, ◌||◌, not, List, [], ◌∷◌, get_or, Bool, true, false, Option, Some, None, refl, sym, ◌∙◌, ap, ap₂, if◌then◌else◌}
use Rattle.std.proofs.Math.Bool.{and-false, or-true}
use Rattle.std.proofs.lemmas.Bool.{eqb-true, eq-eqb}
use Rattle.cov_expr.specs.declared.expr.Op.{Op}
use Rattle.cov_expr.specs.declared.expr.Op.TheVariants.{Add, Sub, Mul, And, Or, Xor, Eq, Ne, Lt, Le, Both, Either}
use Rattle.cov_expr.specs.Term.{Term, const, var, neg, bin, value, apply, flag, is_set}
use Rattle.entail_counter.specs.declared.binding.Binding.{Binding}
use Rattle.entail_counter.specs.Counterexamples.{HasBindings, put, memory}
use Rattle.entail_counter.specs.Known.{bound, negated, decided, combined, known}

-- Reading ------------------------------------------------------------------------------------------------------

put_same : (x v : ℕ) (m : List ℕ) → get_or (put x v m) x 0 ≡ v
put_same zero v [] = refl
put_same zero v (w ∷ ws) = refl
put_same (suc x) v [] = put_same x v []
put_same (suc x) v (w ∷ ws) = put_same x v ws

put_other : (x v : ℕ) (m : List ℕ) (y : ℕ) → x ≢ y → get_or (put x v m) y 0 ≡ get_or m y 0
put_other zero v m zero apart = absurd (apart refl)
put_other zero v [] (suc y) apart = refl
put_other zero v (w ∷ ws) (suc y) apart = refl
put_other (suc x) v [] zero apart = refl
put_other (suc x) v [] (suc y) apart = put_other x v [] y (λ e. apart (ap suc e))
put_other (suc x) v (w ∷ ws) zero apart = refl
put_other (suc x) v (w ∷ ws) (suc y) apart = put_other x v ws y (λ e. apart (ap suc e))

abbrev or_zero : Option ℕ → ℕ
or_zero None = 0
or_zero (Some v) = v

read : (m : List Binding) (x : ℕ) → get_or (memory m) x 0 ≡ or_zero (bound m x)
read [] x = refl
read (b ∷ bs) x = at (b.variable == x) refl (read bs x)
  where
    at : (same : Bool) → (b.variable == x) ≡ same → get_or (memory bs) x 0 ≡ or_zero (bound bs x) → get_or (put b.variable b.value (memory bs)) x 0 ≡ or_zero (if same then Some b.value else bound bs x)
    at true i rest = ap (λ y. get_or (put b.variable b.value (memory bs)) y 0) (sym (eqb-true b.variable x i)) ∙ put_same b.variable b.value (memory bs)
    at false i rest =
        put_other b.variable b.value (memory bs) x (λ e. let c : true ≡ false = sym (eq-eqb b.variable x e) ∙ i in cc) ∙ rest

-- Values -------------------------------------------------------------------------------------------------------

same_some : (x y : ℕ) → Some x ≡ Some y → x ≡ y
same_some x y h = cc

set_of : (v : ℕ) → (v == 0) ≡ false → is_set v ≡ true
set_of zero h = let c : true ≡ false = h in cc
set_of (suc v) h = refl

both_left : (a b x v : ℕ) → a ≡ x → (if x == 0 then Some 0 else None) ≡ Some v → flag (is_set a && is_set b) ≡ v
both_left a b x v i h = at (x == 0) refl h
  where
    at : (z : Bool) → (x == 0) ≡ z → (if z then Some 0 else None) ≡ Some v → flag (is_set a && is_set b) ≡ v
    at true j k = ap (λ n. flag (is_set n && is_set b)) (i ∙ eqb-true x 0 j) ∙ same_some 0 v k
    at false j k = cc

both_right : (a b y v : ℕ) → b ≡ y → (if y == 0 then Some 0 else None) ≡ Some v → flag (is_set a && is_set b) ≡ v
both_right a b y v i h = at (y == 0) refl h
  where
    at : (z : Bool) → (y == 0) ≡ z → (if z then Some 0 else None) ≡ Some v → flag (is_set a && is_set b) ≡ v
    at true j k = ap (λ n. flag (is_set a && is_set n)) (i ∙ eqb-true y 0 j) ∙ ap flag (and-false (is_set a)) ∙ same_some 0 v k
    at false j k = cc

either_left : (a b x v : ℕ) → a ≡ x → (if x == 0 then None else Some 1) ≡ Some v → flag (is_set a || is_set b) ≡ v
either_left a b x v i h = at (x == 0) refl h
  where
    at : (z : Bool) → (x == 0) ≡ z → (if z then None else Some 1) ≡ Some v → flag (is_set a || is_set b) ≡ v
    at true j k = cc
    at false j k = ap (λ t. flag (t || is_set b)) (ap is_set i ∙ set_of x j) ∙ same_some 1 v k

either_right : (a b y v : ℕ) → b ≡ y → (if y == 0 then None else Some 1) ≡ Some v → flag (is_set a || is_set b) ≡ v
either_right a b y v i h = at (y == 0) refl h
  where
    at : (z : Bool) → (y == 0) ≡ z → (if z then None else Some 1) ≡ Some v → flag (is_set a || is_set b) ≡ v
    at true j k = cc
    at false j k = ap (λ t. flag (is_set a || t)) (ap is_set i ∙ set_of y j) ∙ ap flag (or-true (is_set a)) ∙ same_some 1 v k

by_left : (op : Op) (a b x v : ℕ) → a ≡ x → decided op x ≡ Some v → apply op a b ≡ v
by_left Both a b x v i h = both_left a b x v i h
by_left Either a b x v i h = either_left a b x v i h
by_left Add a b x v i h = cc
by_left Sub a b x v i h = cc
by_left Mul a b x v i h = cc
by_left And a b x v i h = cc
by_left Or a b x v i h = cc
by_left Xor a b x v i h = cc
by_left Eq a b x v i h = cc
by_left Ne a b x v i h = cc
by_left Lt a b x v i h = cc
by_left Le a b x v i h = cc

by_right : (op : Op) (a b y v : ℕ) → b ≡ y → decided op y ≡ Some v → apply op a b ≡ v
by_right Both a b y v i h = both_right a b y v i h
by_right Either a b y v i h = either_right a b y v i h
by_right Add a b y v i h = cc
by_right Sub a b y v i h = cc
by_right Mul a b y v i h = cc
by_right And a b y v i h = cc
by_right Or a b y v i h = cc
by_right Xor a b y v i h = cc
by_right Eq a b y v i h = cc
by_right Ne a b y v i h = cc
by_right Lt a b y v i h = cc
by_right Le a b y v i h = cc

by_parts : (op : Op) (a b v : ℕ) (oa ob : Option ℕ) → ((w : ℕ) → oa ≡ Some w → a ≡ w) → ((w : ℕ) → ob ≡ Some w → b ≡ w)
    → combined op oa ob ≡ Some v → apply op a b ≡ v
by_parts op a b v (Some x) (Some y) f g h = ap₂ (apply op) (f x refl) (g y refl) ∙ same_some (apply op x y) v h
by_parts op a b v (Some x) None f g h = by_left op a b x v (f x refl) h
by_parts op a b v None (Some y) f g h = by_right op a b y v (g y refl) h
by_parts op a b v None None f g h = cc

by_part : (a v : ℕ) (o : Option ℕ) → ((w : ℕ) → o ≡ Some w → a ≡ w) → negated o ≡ Some v → flag (not (is_set a)) ≡ v
by_part a v None f h = cc
by_part a v (Some x) f h = ap (λ n. flag (not (is_set n))) (f x refl) ∙ same_some (flag (not (is_set x))) v h

-- what bindings settle is the value in each memory that has their values
pub known_value : (e : Term) (m : List Binding) (n : List ℕ) → HasBindings m n → (v : ℕ) → known e m ≡ Some v → value e n ≡ v
known_value (const k) m n has v h = same_some k v h
known_value (var x) m n has v h = has x v h
known_value (neg e) m n has v h = by_part (value e n) v (known e m) (known_value e m n has) h
known_value (bin op a b) m n has v h =
    by_parts op (value a n) (value b n) v (known a m) (known b m) (known_value a m n has) (known_value b m n has) h

pub own_memory : (m : List Binding) → HasBindings m (memory m)
own_memory m x v h = read m x ∙ ap or_zero h
