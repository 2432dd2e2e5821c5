-- Laws of keys: no two expressions have the same, and no key goes on as another.
use Rattle.std.proofs.Common.{◌≡◌, ℕ, ◌||◌, List, [], ◌∷◌, ◌++◌, Bool, true, false, true≢false, map, refl, sym, ap, subst, ◌∙◌, append_assoc, arith}
use Rattle.std.specs.List.{list_any}
use Rattle.std.specs.Str.{bytes_eq}
use Rattle.std.proofs.lemmas.Bool.{false_from_ne_true}
use Rattle.std.proofs.lemmas.Slice.Eq.{bytes_eq-Decides}
use Rattle.cov_expr.specs.declared.expr.Op.TheVariants.{Add, Eq, Both, Either}
use Rattle.cov_expr.specs.Term.{Term, const, var, neg, bin}
use Rattle.cov_expr.specs.Trees.{has_term, same}
use Rattle.cov_expr.proofs.Trees.{op_is, same_is, same_refl}
use Rattle.typing_state.specs.Keys.{key}

-- Worked rows --------------------------------------------------------------------------------------------------

row_sum : key (bin Add (var 4) (const 7)) ≡ 3 ∷ 1 ∷ 4 ∷ 0 ∷ 7 ∷ []
row_sum = refl

row_last : key (bin Either (const 0) (neg (var 0))) ≡ 14 ∷ 0 ∷ 0 ∷ 2 ∷ 1 ∷ 0 ∷ []
row_last = refl

row_leaning : key (bin Both (bin Eq (var 1) (const 0)) (var 2)) ≡ 13 ∷ 9 ∷ 1 ∷ 1 ∷ 0 ∷ 0 ∷ 1 ∷ 2 ∷ []
row_leaning = refl

-- One key, one expression --------------------------------------------------------------------------------------

head_is : {x y : ℕ} {xs ys : List ℕ} → x ∷ xs ≡ y ∷ ys → x ≡ y
head_is e = ap (λ l. first 0 l) e
  where
    first : ℕ → List ℕ → ℕ
    first d [] = d
    first d (x ∷ xs) = x

tail_is : {x y : ℕ} {xs ys : List ℕ} → x ∷ xs ≡ y ∷ ys → xs ≡ ys
tail_is e = ap (λ l. rest l) e
  where
    rest : List ℕ → List ℕ
    rest [] = []
    rest (x ∷ xs) = xs

-- where two keys go on in some way to one list, they are one key and go on alike
key_from : (a b : Term) (s t : List ℕ) → key a ++ s ≡ key b ++ t → (a ≡ b) × (s ≡ t)
key_from (const j) (const k) s t e = (ap const (head_is (tail_is e)), tail_is (tail_is e))
key_from (var x) (var y) s t e = (ap var (head_is (tail_is e)), tail_is (tail_is e))
key_from (neg a) (neg b) s t e =
    let rest = key_from a b s t (tail_is e) in
    (ap neg rest.0, rest.1)
key_from (bin o a b) (bin q c d) s t e =
    let op : o ≡ q = op_is o q (omega (arith, head_is e)) in
    let first = key_from a c (key b ++ s) (key d ++ t) (sym (append_assoc (key a) (key b) s) ∙ tail_is e ∙ append_assoc (key c) (key d) t) in
    let second = key_from b d s t first.1 in
    ((λ i. bin (op i) (first.0 i) (second.0 i)), second.1)
key_from (const j) (var y) s t e = absurd (omega (arith, head_is e))
key_from (const j) (neg b) s t e = absurd (omega (arith, head_is e))
key_from (const j) (bin q c d) s t e = absurd (omega (arith, head_is e))
key_from (var x) (const k) s t e = absurd (omega (arith, head_is e))
key_from (var x) (neg b) s t e = absurd (omega (arith, head_is e))
key_from (var x) (bin q c d) s t e = absurd (omega (arith, head_is e))
key_from (neg a) (const k) s t e = absurd (omega (arith, head_is e))
key_from (neg a) (var y) s t e = absurd (omega (arith, head_is e))
key_from (neg a) (bin q c d) s t e = absurd (omega (arith, head_is e))
key_from (bin o a b) (const k) s t e = absurd (omega (arith, head_is e))
key_from (bin o a b) (var y) s t e = absurd (omega (arith, head_is e))
key_from (bin o a b) (neg d) s t e = absurd (omega (arith, head_is e))

pub key_is : (a b : Term) → key a ≡ key b → a ≡ b
key_is a b e = (key_from a b [] [] (ap (λ l. l ++ []) e)).0

-- keys are compared in the place of expressions
pub keys_same : (e f : Term) → bytes_eq (key e) (key f) ≡ same f e
keys_same e f = at (same f e) refl
  where
    at : (b : Bool) → same f e ≡ b → bytes_eq (key e) (key f) ≡ same f e
    at true h = (bytes_eq-Decides (key e) (key f)).1 (ap key (sym (same_is f e h))) ∙ sym h
    at false h =
        false_from_ne_true (bytes_eq (key e) (key f))
        (λ k. let is : e ≡ f = key_is e f ((bytes_eq-Decides (key e) (key f)).0 k) in
        true≢false (sym (subst (λ g. same g e ≡ true) is (same_refl e)) ∙ h))
        ∙ sym h

-- so an expression is found by its key
pub found_by_key : (es : List Term) (e : Term) → list_any (bytes_eq (key e)) (map key es) ≡ has_term es e
found_by_key [] e = refl
found_by_key (f ∷ fs) e = λ i. keys_same e f i || found_by_key fs e i
