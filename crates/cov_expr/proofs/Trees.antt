-- What the tests on trees say.
use Rattle.std.proofs.Common.{◌≡◌, ℕ, zero, suc, ◌==◌, ◌&&◌, ◌||◌, List, [], ◌∷◌, ◌++◌, true, false, refl, sym, ◌∙◌, ap}
use Rattle.std.proofs.Math.Bool.{or-false}
use Rattle.std.proofs.lemmas.Bool.{eqb-true, eq-eqb, and_from}
use Rattle.std.proofs.lemmas.List.Folds.{list_any-append}
use Rattle.cov_expr.specs.declared.expr.Op.{Op}
use Rattle.cov_expr.specs.declared.expr.Op.TheVariants.{Add, Sub, Mul, And, Or, Xor, Eq, Ne, Lt, Le, Both, Either}
use Rattle.cov_expr.specs.Term.{Term, const, var, neg, bin}
use Rattle.cov_expr.specs.Trees.{op_number, same, has_term, has_number, add_new, mentions, occurrences}
use Rattle.cov_expr.proofs.Tests.{or_regrouped, left_true, right_true}

-- Numbers and truth values -------------------------------------------------------------------------------------

-- Equal trees --------------------------------------------------------------------------------------------------

op_at : ℕ → Op
op_at zero = Add
op_at (suc zero) = Sub
op_at (suc (suc zero)) = Mul
op_at (suc (suc (suc zero))) = And
op_at (suc (suc (suc (suc zero)))) = Or
op_at (suc (suc (suc (suc (suc zero))))) = Xor
op_at (suc (suc (suc (suc (suc (suc zero)))))) = Eq
op_at (suc (suc (suc (suc (suc (suc (suc zero))))))) = Ne
op_at (suc (suc (suc (suc (suc (suc (suc (suc zero)))))))) = Lt
op_at (suc (suc (suc (suc (suc (suc (suc (suc (suc zero))))))))) = Le
op_at (suc (suc (suc (suc (suc (suc (suc (suc (suc (suc zero)))))))))) = Both
op_at (suc (suc (suc (suc (suc (suc (suc (suc (suc (suc (suc n))))))))))) = Either

op_back : (o : Op) → op_at (op_number o) ≡ o
unfolding op_at
op_back Add = refl
op_back Sub = refl
op_back Mul = refl
op_back And = refl
op_back Or = refl
op_back Xor = refl
op_back Eq = refl
op_back Ne = refl
op_back Lt = refl
op_back Le = refl
op_back Both = refl
op_back Either = refl

pub op_is : (o q : Op) → op_number o ≡ op_number q → o ≡ q
op_is o q n = sym (op_back o) ∙ ap op_at n ∙ op_back q

pub same_is : (e f : Term) → same e f ≡ true → e ≡ f
same_is (const j) (const k) h = ap const (eqb-true j k h)
same_is (var x) (var y) h = ap var (eqb-true x y h)
same_is (neg a) (neg b) h = ap neg (same_is a b h)
same_is (bin o a b) (bin q c d) h =
    let i = left_true ((op_number o == op_number q) && same a c) (same b d) h in
    let n = op_is o q (eqb-true (op_number o) (op_number q) (left_true (op_number o == op_number q) (same a c) i)) in
    let x = same_is a c (right_true (op_number o == op_number q) (same a c) i) in
    let y = same_is b d (right_true ((op_number o == op_number q) && same a c) (same b d) h) in
    cc
same_is _ _ h = let e : false ≡ true = h in cc

pub same_refl : (e : Term) → same e e ≡ true
same_refl (const k) = eq-eqb k k refl
same_refl (var x) = eq-eqb x x refl
same_refl (neg a) = same_refl a
same_refl (bin o a b) =
    and_from ((op_number o == op_number o) && same a a) (same b b)
    (and_from (op_number o == op_number o) (same a a) (eq-eqb (op_number o) (op_number o) refl) (same_refl a))
    (same_refl b)

-- Parts --------------------------------------------------------------------------------------------------------

pub has_term_append : (es fs : List Term) (c : Term) → has_term (es ++ fs) c ≡ (has_term es c || has_term fs c)
has_term_append es fs c = list_any-append (λ f. same f c) es fs

pub add_new-append : (ys zs xs : List ℕ) → add_new xs (ys ++ zs) ≡ add_new (add_new xs ys) zs
add_new-append [] zs xs = refl
add_new-append (y ∷ ys) zs xs = add_new-append ys zs _

pub add_new-both : (xs mid new ys zs : List ℕ) → mid ≡ add_new xs ys → new ≡ add_new mid zs → new ≡ add_new xs (ys ++ zs)
add_new-both xs mid new ys zs e f = f ∙ ap (λ found. add_new found zs) e ∙ sym (add_new-append ys zs xs)

-- Occurrences --------------------------------------------------------------------------------------------------

pub has_number-append : (xs ys : List ℕ) (c : ℕ) → has_number (xs ++ ys) c ≡ (has_number xs c || has_number ys c)
has_number-append [] ys c = refl
has_number-append (x ∷ xs) ys c = ap (λ b. x == c || b) (has_number-append xs ys c) ∙ or_regrouped (x == c) (has_number xs c) (has_number ys c)

pub occurs : (e : Term) (c : ℕ) → has_number (occurrences e) c ≡ mentions e c
occurs (const k) c = refl
occurs (var x) c = or-false (x == c)
occurs (neg e) c = occurs e c
occurs (bin op a b) c = has_number-append (occurrences a) (occurrences b) c ∙ (λ i. occurs a c i || occurs b c i)
