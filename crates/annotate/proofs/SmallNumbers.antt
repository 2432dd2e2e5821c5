-- The numbers in a valid certificate of a class are those of hypotheses.
use Rattle.std.proofs.Common.{◌≡◌, ℕ, zero, suc, ◌+◌, ◌*◌, ◌<◌, ◌≤◌, ◌==◌, ◌&&◌, ◌||◌, not, List, [], ◌∷◌, ◌++◌, length, Bool, true, false, Option, Some, None, refl, sym, ap, ◌∙◌, true≢false, slice_get, arith, length-append}
use Rattle.std.proofs.lemmas.Bool.{and_parts}
use Rattle.cov_expr.specs.declared.expr.Op.{Op}
use Rattle.cov_expr.specs.declared.expr.Op.TheVariants.{Both, Either, Eq}
use Rattle.cov_expr.specs.Term.{Term, const, var}
use Rattle.cov_expr.specs.Trees.{same}
use Rattle.cov_ast.specs.Syntax.{Cert}
use Rattle.cov_ast.specs.Syntax as by
use Rattle.entail_cert.specs.Axioms.{numbered}
use Rattle.entail_cert.specs.Valid.{filled, first_bad, is_negation, is_some_and, one, only_if, only_with, operands, operands_of, two}
use Rattle.cert_search.specs.Classes.{definition_in, hypothesis_named, is_in_class, is_lemma, is_of_another, is_step, is_within, opened, replacement}
use Rattle.cert_search.proofs.Choices.{definition_sides}
use Rattle.cert_search.proofs.Complete.{child_free, only_if_free, two_free}

-- Each number is one of so many, and a search finds certificates of its kind.
abbrev pub IsNumbered : (most : ℕ) → Cert → Type 0
IsNumbered m by.auto = Unit {0}
IsNumbered m by.reflexive = Unit {0}
IsNumbered m by.ring = Unit {0}
IsNumbered m by.range = Unit {0}
IsNumbered m (by.hyp i) = i ≤ m
IsNumbered m (by.absurdity i j) = (i ≤ m) × (j ≤ m)
IsNumbered m (by.and c d) = IsNumbered m c × IsNumbered m d
IsNumbered m (by.left c) = IsNumbered m c
IsNumbered m (by.right c) = IsNumbered m c
IsNumbered m (by.unpack i c) = (i ≤ m) × IsNumbered m c
IsNumbered m (by.cases i c d) = (i ≤ m) × IsNumbered m c × IsNumbered m d
IsNumbered m (by.have e c d) = IsNumbered m c × IsNumbered m d
IsNumbered m (by.fwd i e c) = (i ≤ m) × IsNumbered m c
IsNumbered m (by.rev i e c) = (i ≤ m) × IsNumbered m c
IsNumbered m by.calc = ⊥
IsNumbered m (by.clash i) = ⊥
IsNumbered m (by.split e c d) = ⊥
IsNumbered m (by.negation c) = ⊥
IsNumbered m (by.contra c) = ⊥
IsNumbered m (by.instance i es c) = ⊥

some_and : {A : Type 0} (test : A → Bool) (o : Option A) → is_some_and test o ≡ true → (x : A) × (o ≡ Some x) × (test x ≡ true)
some_and test None h = absurd (true≢false (sym h))
some_and test (Some x) h = (x, refl, h)

got_below : (xs : List Term) (i : ℕ) (e : Term) → slice_get xs i ≡ Some e → i < length xs
got_below [] i e h = cc
got_below (x ∷ xs) zero e h = omega arith
got_below (x ∷ xs) (suc i) e h = omega (arith, got_below xs i e h)

number_below : (hyps : List Term) (i : ℕ) (e : Term) → numbered hyps i ≡ Some e → i ≤ length hyps
number_below hyps zero e h = omega arith
number_below hyps (suc i) e h = omega (arith, got_below hyps i e h)

of_operands : (op : Op) (hyps : List Term) (i : ℕ) (x : Term × Term) → operands_of op (numbered hyps i) ≡ Some x → i ≤ length hyps
of_operands op hyps i x h = go (numbered hyps i) refl h
  where
    go : (o : Option Term) → numbered hyps i ≡ o → operands_of op o ≡ Some x → i ≤ length hyps
    go None e k = cc
    go (Some y) e k = number_below hyps i y e

of_definition : (hyps : List Term) (i : ℕ) (x : ℕ × Term) → definition_in (numbered hyps i) ≡ Some x → i ≤ length hyps
of_definition hyps i x h = of_operands Eq hyps i (var x.0, x.1) (definition_sides (numbered hyps i) x.0 x.1 h)

-- What no node of which fails ----------------------------------------------------------------------------------

with_none : {A : Type 0} (o : Option A) (x : A) (f : A → Option (List ℕ)) → o ≡ Some x → only_with o f ≡ None → f x ≡ None
with_none o x f e h = ap (λ p. only_with p f) (sym e) ∙ h

negation_some : (hyps : List Term) (i j : ℕ) → is_negation (numbered hyps i) (numbered hyps j) ≡ true → (i ≤ length hyps) × (j ≤ length hyps)
negation_some hyps i j h = go (numbered hyps i) refl (numbered hyps j) refl h
  where
    go : (o : Option Term) → numbered hyps i ≡ o → (p : Option Term) → numbered hyps j ≡ p → is_negation o p ≡ true → (i ≤ length hyps) × (j ≤ length hyps)
    go None e p f k = absurd (true≢false (sym k))
    go (Some x) e None f k = absurd (true≢false (sym k))
    go (Some x) e (Some y) f k = (number_below hyps i x e, number_below hyps j y f)

-- Classes ------------------------------------------------------------------------------------------------------

leaf_numbered : (hyps : List Term) (goal : Term) (c : Cert) (m : ℕ) → length hyps ≤ m → is_in_class 0 [] (const 0) c ≡ true → first_bad hyps goal c ≡ None → IsNumbered m c
leaf_numbered hyps goal by.auto m few h v = tt
leaf_numbered hyps goal by.reflexive m few h v = tt
leaf_numbered hyps goal by.ring m few h v = tt
leaf_numbered hyps goal by.range m few h v = tt
leaf_numbered hyps goal (by.absurdity i j) m few h v =
    let b = negation_some hyps i j (only_if_free (is_negation (numbered hyps i) (numbered hyps j)) None v).0 in (omega (arith, b.0, few), omega (arith, b.1, few))
leaf_numbered hyps goal _ m few h v = absurd (true≢false (sym h))

module _ (d : ℕ) (rest : (hyps : List Term) (goal : Term) (c : Cert) (m : ℕ) → length hyps + 2 * d ≤ m → is_in_class d hyps goal c ≡ true → first_bad hyps goal c ≡ None → IsNumbered m c)
    (hyps : List Term) (goal : Term) (m : ℕ) (few : length hyps + 2 * suc d ≤ m) where
  abbrev child : List Term → Term → Cert → Bool
  child = is_in_class d

  none_more : length hyps + 2 * d ≤ m
  none_more = omega (arith, few)

  one_more : (e : Term) → length (hyps ++ e ∷ []) + 2 * d ≤ m
  one_more e = omega (arith, few, length-append hyps (e ∷ []))

  two_more : (e f : Term) → length (hyps ++ e ∷ f ∷ []) + 2 * d ≤ m
  two_more e f = omega (arith, few, length-append hyps (e ∷ f ∷ []))

  named_numbered : (c : Cert) (o : Option ℕ) → hypothesis_named c ≡ o → (j : ℕ) → o ≡ Some j → j ≤ m → IsNumbered m c
  named_numbered (by.hyp i) o e j k l = let same : Some i ≡ Some j = e ∙ k in let is : i ≡ j = cc in omega (arith, is, l)
  named_numbered _ o e j k l = cc

  lemma_numbered : (f : Term) (i : ℕ) (t : Term) (c e : Cert) → is_of_another child hyps goal f t e i (hypothesis_named c) (definition_in (numbered hyps i)) ≡ true
      → first_bad (hyps ++ f ∷ []) goal e ≡ None → IsNumbered m (by.have f (by.rev i t c) e)
  lemma_numbered f i t c e g v =
      let o = some_and _ (definition_in (numbered hyps i)) g in
      let a = and_parts _ (child (hyps ++ f ∷ []) goal e) o.2 in
      let b = and_parts _ (is_within f) a.0 in
      let s = and_parts _ (same f (filled t o.0.1)) b.0 in
      let w = and_parts _ (is_within t) s.0 in
      let n = some_and _ (hypothesis_named c) w.0 in
      let x = and_parts (not (i == n.0)) _ n.2 in
      let y = some_and _ (numbered hyps n.0) x.1 in (
        (omega (arith, of_definition hyps i o.0 o.1, few), named_numbered c (hypothesis_named c) refl n.0 n.1 (omega (arith, number_below hyps n.0 y.0 y.1, few))),
        rest (hyps ++ f ∷ []) goal e m (one_more f) a.1 v,
      )

  replaced_numbered : (f : Term) (r e : Cert) → is_lemma child hyps goal f (replacement r) e ≡ true → first_bad (hyps ++ f ∷ []) goal e ≡ None → IsNumbered m (by.have f r e)
  replaced_numbered f (by.rev i t c) e g v = lemma_numbered f i t c e g v
  replaced_numbered f _ e g v = absurd (true≢false (sym g))

  step_numbered : (c : Cert) → is_step child hyps goal c ≡ true → first_bad hyps goal c ≡ None → IsNumbered m c
  step_numbered (by.and c e) g v =
      let o = some_and (λ (a, b). child hyps a c && child hyps b e) (operands Both goal) g in
      let both = and_parts (child hyps o.0.0 c) (child hyps o.0.1 e) o.2 in
      let w = two_free (first_bad hyps o.0.0 c) (first_bad hyps o.0.1 e) (with_none (operands Both goal) o.0 (λ (a, b). two (first_bad hyps a c) (first_bad hyps b e)) o.1 v) in
      (rest hyps o.0.0 c m none_more both.0 w.0, rest hyps o.0.1 e m none_more both.1 w.1)
  step_numbered (by.left c) g v =
      let o = some_and (λ (a, b). child hyps a c) (operands Either goal) g in
      rest hyps o.0.0 c m none_more o.2 (child_free 1 (first_bad hyps o.0.0 c) (with_none (operands Either goal) o.0 (λ (a, b). one (first_bad hyps a c)) o.1 v))
  step_numbered (by.right c) g v =
      let o = some_and (λ (a, b). child hyps b c) (operands Either goal) g in
      rest hyps o.0.1 c m none_more o.2 (child_free 1 (first_bad hyps o.0.1 c) (with_none (operands Either goal) o.0 (λ (a, b). one (first_bad hyps b c)) o.1 v))
  step_numbered (by.unpack i c) g v =
      let o = some_and (λ (a, b). child (hyps ++ a ∷ b ∷ []) goal c) (operands_of Both (numbered hyps i)) g in (
        omega (arith, of_operands Both hyps i o.0 o.1, few),
        rest (hyps ++ o.0.0 ∷ o.0.1 ∷ []) goal c m (two_more o.0.0 o.0.1) o.2
            (child_free 1 (first_bad (hyps ++ o.0.0 ∷ o.0.1 ∷ []) goal c)
            (with_none (operands_of Both (numbered hyps i)) o.0 (λ (a, b). one (first_bad (hyps ++ a ∷ b ∷ []) goal c)) o.1 v)),
      )
  step_numbered (by.cases i c e) g v =
      let o = some_and (λ (a, b). child (hyps ++ a ∷ []) goal c && child (hyps ++ b ∷ []) goal e) (operands_of Either (numbered hyps i)) g in
      let both = and_parts (child (hyps ++ o.0.0 ∷ []) goal c) (child (hyps ++ o.0.1 ∷ []) goal e) o.2 in
      let w = two_free (first_bad (hyps ++ o.0.0 ∷ []) goal c) (first_bad (hyps ++ o.0.1 ∷ []) goal e)
      (with_none (operands_of Either (numbered hyps i)) o.0 (λ (a, b). two (first_bad (hyps ++ a ∷ []) goal c) (first_bad (hyps ++ b ∷ []) goal e)) o.1 v) in (
        omega (arith, of_operands Either hyps i o.0 o.1, few),
        rest (hyps ++ o.0.0 ∷ []) goal c m (one_more o.0.0) both.0 w.0,
        rest (hyps ++ o.0.1 ∷ []) goal e m (one_more o.0.1) both.1 w.1,
      )
  step_numbered (by.fwd i t c) g v =
      let o = some_and (λ (x, e). is_within t && same t (opened goal x) && child hyps (filled t e) c) (definition_in (numbered hyps i)) g in
      let a = and_parts _ (child hyps (filled t o.0.1) c) o.2 in
      let s = definition_sides (numbered hyps i) o.0.0 o.0.1 o.1 in
      let w = with_none (operands_of Eq (numbered hyps i)) (var o.0.0, o.0.1) (λ (a, b). only_if (same (filled t a) goal) (one (first_bad hyps (filled t b) c))) s v in (
        omega (arith, of_definition hyps i o.0 o.1, few),
        rest hyps (filled t o.0.1) c m none_more a.1
            (child_free 1 (first_bad hyps (filled t o.0.1) c) (only_if_free (same (filled t (var o.0.0)) goal) (one (first_bad hyps (filled t o.0.1) c)) w).1),
      )
  step_numbered (by.have f c e) g v = replaced_numbered f c e g (two_free (first_bad hyps f c) (first_bad (hyps ++ f ∷ []) goal e) v).1
  step_numbered _ g v = absurd (true≢false (sym g))

pub class_numbered : (d : ℕ) (hyps : List Term) (goal : Term) (c : Cert) (m : ℕ) → length hyps + 2 * d ≤ m → is_in_class d hyps goal c ≡ true → first_bad hyps goal c ≡ None → IsNumbered m c
class_numbered zero hyps goal c m few h v = leaf_numbered hyps goal c m (omega (arith, few)) h v
class_numbered (suc d) hyps goal c m few h v =
    go (is_in_class d hyps goal c) refl h (λ i. class_numbered d hyps goal c m (omega (arith, few)) i v) (λ i. step_numbered d (λ hs e k n l i w. class_numbered d hs e k n l i w) hyps goal m few c i v)
  where
    go : (b : Bool) → is_in_class d hyps goal c ≡ b → (b || is_step (is_in_class d) hyps goal c) ≡ true → (is_in_class d hyps goal c ≡ true → IsNumbered m c)
        → (is_step (is_in_class d) hyps goal c ≡ true → IsNumbered m c) → IsNumbered m c
    go true i k f g = f i
    go false i k f g = g k
