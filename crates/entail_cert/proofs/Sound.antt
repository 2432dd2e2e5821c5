-- A valid certificate gives its entailment.
use Rattle.std.proofs.Common.{◌≡◌, ℕ, List, [], ◌∷◌, ◌++◌, Bool, true, false, Option, Some, None, is_none, refl, sym, ◌∙◌, ap, subst, inl, inr}
use Rattle.cov_expr.specs.declared.expr.Op.TheVariants.{Eq, Both, Either}
use Rattle.cov_expr.specs.Term.{Term, const, neg, bin, value}
use Rattle.cov_expr.specs.Trees.{same}
use Rattle.cov_expr.specs.Words.{AreWords, HasWords}
use Rattle.cov_expr.specs.Entailment.{Holds, AllHold}
use Rattle.cov_expr.proofs.Trees.{same_is}
use Rattle.cov_expr.proofs.Tests.{left_true, right_true}
use Rattle.cov_expr.proofs.Values.{equal_values, values_equal}
use Rattle.cov_ast.specs.Syntax.{Cert}
use Rattle.cov_ast.specs.Syntax as by
use Rattle.entail_range.specs.Range.{range_valid}
use Rattle.entail_range.proofs.Sound.{range_sound}
use Rattle.entail_ring.proofs.Sound.{ring_equal_sound}
use Rattle.entail_cert.specs.Axioms.{numbered, axiom_for}
use Rattle.entail_cert.specs.WordTests.{is_of_words}
use Rattle.entail_cert.specs.Valid.{is_plain, is_true, is_false, is_some_and, is_negation, is_reflexive, operands, operands_of, negated, are_ring_equal, is_ring, is_range, filled, only_if, only_with, one, two, first_bad}
use Rattle.entail_cert.proofs.Truth.{operands_is, operands_of_is, negated_is, both_of, both_left, both_right, either_left, either_right, either_cases, neg_fails, either_way, words_of, true_holds, false_fails, all_both, numbered_holds, plain_holds, filled_same}

-- Where no node fails ------------------------------------------------------------------------------------------

some_none : {A : Type 0} (C : Type 0) (x : A) → Some x ≡ None → C
some_none C x h = cc

pub none_is : (x : Option (List ℕ)) → is_none x ≡ true → x ≡ None
none_is None h = refl
none_is (Some p) h = let c : false ≡ true = h in cc

only_if_true : (b : Bool) (x : Option (List ℕ)) → only_if b x ≡ None → b ≡ true
only_if_true true x h = refl
only_if_true false x h = some_none (false ≡ true) [] h

only_if_children : (b : Bool) (x : Option (List ℕ)) → only_if b x ≡ None → x ≡ None
only_if_children true x h = h
only_if_children false x h = some_none (x ≡ None) [] h

pub record IsThere (A : Type 0) (o : Option A) (f : A → Option (List ℕ)) : Type 0 where
  pub it : A
  pub is : o ≡ Some it
  pub free : f it ≡ None

only_with_there : (A : Type 0) (o : Option A) (f : A → Option (List ℕ)) → only_with o f ≡ None → IsThere A o f
only_with_there A None f h = some_none (IsThere A None f) [] h
only_with_there A (Some x) f h = record { it = x; is = refl; free = h }

one_free : (x : Option (List ℕ)) → one x ≡ None → x ≡ None
one_free None h = refl
one_free (Some p) h = some_none (Some p ≡ None) (1 ∷ p) h

two_first : (x y : Option (List ℕ)) → two x y ≡ None → x ≡ None
two_first None y h = refl
two_first (Some p) y h = some_none (Some p ≡ None) (1 ∷ p) h

two_second : (x y : Option (List ℕ)) → two x y ≡ None → y ≡ None
two_second None None h = refl
two_second None (Some p) h = some_none (Some p ≡ None) (2 ∷ p) h
two_second (Some p) y h = some_none (y ≡ None) (1 ∷ p) h

some_and_there : (test : Term → Bool) (o : Option Term) → is_some_and test o ≡ true → (e : Term) × ((o ≡ Some e) × (test e ≡ true))
some_and_there test None h = let c : false ≡ true = h in cc
some_and_there test (Some e) h = (e, (refl, h))

-- Soundness ----------------------------------------------------------------------------------------------------

-- each instance of an axiom in a certificate holds in a memory
abbrev pub InstancesHold : List ℕ → Cert → Type 0
InstancesHold m by.auto = Unit {0}
InstancesHold m (by.hyp i) = Unit {0}
InstancesHold m by.calc = Unit {0}
InstancesHold m (by.clash i) = Unit {0}
InstancesHold m (by.and c d) = InstancesHold m c × InstancesHold m d
InstancesHold m (by.left c) = InstancesHold m c
InstancesHold m (by.right c) = InstancesHold m c
InstancesHold m (by.unpack i c) = InstancesHold m c
InstancesHold m (by.cases i c d) = InstancesHold m c × InstancesHold m d
InstancesHold m (by.split e c d) = InstancesHold m c × InstancesHold m d
InstancesHold m (by.have e c d) = InstancesHold m c × InstancesHold m d
InstancesHold m (by.absurdity i j) = Unit {0}
InstancesHold m (by.negation c) = InstancesHold m c
InstancesHold m (by.contra c) = InstancesHold m c
InstancesHold m by.reflexive = Unit {0}
InstancesHold m (by.fwd i t c) = InstancesHold m c
InstancesHold m (by.rev i t c) = InstancesHold m c
InstancesHold m (by.instance k es c) = ((e : Term) → axiom_for k es ≡ Some e → Holds e m) × InstancesHold m c
InstancesHold m by.ring = Unit {0}
InstancesHold m by.range = Unit {0}

module _ (m : List ℕ) (m_words : AreWords m) where
  negation_fails : (o p : Option Term) → is_negation o p ≡ true → ((e : Term) → o ≡ Some e → Holds e m) → ((e : Term) → p ≡ Some e → Holds e m) → ⊥
  negation_fails None p h k l = let c : false ≡ true = h in cc
  negation_fails (Some e) None h k l = let c : false ≡ true = h in cc
  negation_fails (Some e) (Some f) h k l = neg_fails (value e m) (l (neg e) (ap Some (same_is f (neg e) h))) (k e refl)

  reflexive_holds : (o : Option (Term × Term)) (goal : Term) → is_reflexive o ≡ true → ((p : Term × Term) → o ≡ Some p → goal ≡ bin Eq p.0 p.1) → Holds goal m
  reflexive_holds None goal h k = let c : false ≡ true = h in cc
  reflexive_holds (Some p) goal h k =
      subst (λ g. Holds g m) (sym (k p refl)) (equal_values (value p.0 m) (value p.1 m) (ap (λ e. value e m) (same_is p.0 p.1 h)))

  ring_holds : (goal : Term) → is_ring goal ≡ true → Holds goal m
  ring_holds goal h = at (operands Eq goal) refl (left_true (are_ring_equal (operands Eq goal)) (is_of_words goal) h)
    where
      at : (o : Option (Term × Term)) → operands Eq goal ≡ o → are_ring_equal o ≡ true → Holds goal m
      at None i j = let c : false ≡ true = j in cc
      at (Some p) i j =
          let s = operands_is Eq goal p i in
          let w : HasWords (bin Eq p.0 p.1) = subst HasWords s (words_of goal (right_true (are_ring_equal (operands Eq goal)) (is_of_words goal) h)) in
          subst (λ g. Holds g m) (sym s) (equal_values (value p.0 m) (value p.1 m) (ring_equal_sound p.0 p.1 w.0 w.1 j m m_words))

  -- a goal that a template gives of equal expressions
  replaced_holds : (t a b goal : Term) → value a m ≡ value b m → same (filled t a) goal ≡ true → Holds (filled t b) m → Holds goal m
  replaced_holds t a b goal e h k = subst (λ g. Holds g m) (same_is (filled t a) goal h) (λ z. k (sym (filled_same m t a b e) ∙ z))

  -- hypotheses with one more
  with_one : (hyps : List Term) (e : Term) → AllHold hyps m → Holds e m → AllHold (hyps ++ e ∷ []) m
  with_one hyps e h k = all_both m hyps (e ∷ []) h (k, tt)

  pub cert_sound : (c : Cert) (hyps : List Term) (goal : Term) → first_bad hyps goal c ≡ None → InstancesHold m c → AllHold hyps m → Holds goal m
  cert_sound by.auto hyps goal h w k = plain_holds m hyps goal (only_if_true (is_plain hyps goal) None h) k
  cert_sound (by.hyp i) hyps goal h w k =
      let s = some_and_there (λ h. same h goal) (numbered hyps i) (only_if_true (is_some_and (λ h. same h goal) (numbered hyps i)) None h) in
      subst (λ g. Holds g m) (same_is s.0 goal s.1.1) (numbered_holds m hyps i s.0 s.1.0 k)
  cert_sound by.calc hyps goal h w k = true_holds m goal (only_if_true (is_true goal) None h)
  cert_sound (by.clash i) hyps goal h w k =
      let s = some_and_there is_false (numbered hyps i) (only_if_true (is_some_and is_false (numbered hyps i)) None h) in
      absurd (false_fails m s.0 s.1.1 (numbered_holds m hyps i s.0 s.1.0 k))
  cert_sound (by.and c d) hyps goal h w k =
      let s = only_with_there (Term × Term) (operands Both goal) (λ (a, b). two (first_bad hyps a c) (first_bad hyps b d)) h in
      let x = cert_sound c hyps s.it.0 (two_first (first_bad hyps s.it.0 c) (first_bad hyps s.it.1 d) s.free) w.0 k in
      let y = cert_sound d hyps s.it.1 (two_second (first_bad hyps s.it.0 c) (first_bad hyps s.it.1 d) s.free) w.1 k in
      subst (λ g. Holds g m) (sym (operands_is Both goal s.it s.is)) (both_of (value s.it.0 m) (value s.it.1 m) x y)
  cert_sound (by.left c) hyps goal h w k =
      let s = only_with_there (Term × Term) (operands Either goal) (λ (a, b). one (first_bad hyps a c)) h in
      let x = cert_sound c hyps s.it.0 (one_free (first_bad hyps s.it.0 c) s.free) w k in
      subst (λ g. Holds g m) (sym (operands_is Either goal s.it s.is)) (either_left (value s.it.0 m) (value s.it.1 m) x)
  cert_sound (by.right c) hyps goal h w k =
      let s = only_with_there (Term × Term) (operands Either goal) (λ (a, b). one (first_bad hyps b c)) h in
      let x = cert_sound c hyps s.it.1 (one_free (first_bad hyps s.it.1 c) s.free) w k in
      subst (λ g. Holds g m) (sym (operands_is Either goal s.it s.is)) (either_right (value s.it.0 m) (value s.it.1 m) x)
  cert_sound (by.unpack i c) hyps goal h w k =
      let s = only_with_there (Term × Term) (operands_of Both (numbered hyps i)) (λ (a, b). one (first_bad (hyps ++ a ∷ b ∷ []) goal c)) h in
      let x = numbered_holds m hyps i (bin Both s.it.0 s.it.1) (operands_of_is Both (numbered hyps i) s.it s.is) k in
      cert_sound c (hyps ++ s.it.0 ∷ s.it.1 ∷ []) goal (one_free (first_bad (hyps ++ s.it.0 ∷ s.it.1 ∷ []) goal c) s.free) w
      (all_both m hyps (s.it.0 ∷ s.it.1 ∷ []) k (both_left (value s.it.0 m) (value s.it.1 m) x, (both_right (value s.it.0 m) (value s.it.1 m) x, tt)))
  cert_sound (by.cases i c d) hyps goal h w k =
      let s = only_with_there (Term × Term) (operands_of Either (numbered hyps i)) (λ (a, b). two (first_bad (hyps ++ a ∷ []) goal c) (first_bad (hyps ++ b ∷ []) goal d)) h in
      let x = numbered_holds m hyps i (bin Either s.it.0 s.it.1) (operands_of_is Either (numbered hyps i) s.it s.is) k in
      let first = two_first (first_bad (hyps ++ s.it.0 ∷ []) goal c) (first_bad (hyps ++ s.it.1 ∷ []) goal d) s.free in
      let second = two_second (first_bad (hyps ++ s.it.0 ∷ []) goal c) (first_bad (hyps ++ s.it.1 ∷ []) goal d) s.free in
      elim (either_cases (value s.it.0 m) (value s.it.1 m) x) [
        | inl y ↦ cert_sound c (hyps ++ s.it.0 ∷ []) goal first w.0 (with_one hyps s.it.0 k y)
        | inr y ↦ cert_sound d (hyps ++ s.it.1 ∷ []) goal second w.1 (with_one hyps s.it.1 k y)
      ]
  cert_sound (by.split e c d) hyps goal h w k =
      let first = two_first (first_bad (hyps ++ e ∷ []) goal c) (first_bad (hyps ++ neg e ∷ []) goal d) h in
      let second = two_second (first_bad (hyps ++ e ∷ []) goal c) (first_bad (hyps ++ neg e ∷ []) goal d) h in
      either_way (value e m) (Holds goal m)
      (λ y. cert_sound c (hyps ++ e ∷ []) goal first w.0 (with_one hyps e k y))
      (λ y. cert_sound d (hyps ++ neg e ∷ []) goal second w.1 (with_one hyps (neg e) k y))
  cert_sound (by.have e c d) hyps goal h w k =
      let x = cert_sound c hyps e (two_first (first_bad hyps e c) (first_bad (hyps ++ e ∷ []) goal d) h) w.0 k in
      cert_sound d (hyps ++ e ∷ []) goal (two_second (first_bad hyps e c) (first_bad (hyps ++ e ∷ []) goal d) h) w.1 (with_one hyps e k x)
  cert_sound (by.absurdity i j) hyps goal h w k =
      absurd (negation_fails (numbered hyps i) (numbered hyps j) (only_if_true (is_negation (numbered hyps i) (numbered hyps j)) None h)
      (λ e o. numbered_holds m hyps i e o k) (λ e o. numbered_holds m hyps j e o k))
  cert_sound (by.negation c) hyps goal h w k =
      let s = only_with_there Term (negated goal) (λ a. one (first_bad (hyps ++ a ∷ []) (const 0) c)) h in
      let free = one_free (first_bad (hyps ++ s.it ∷ []) (const 0) c) s.free in
      subst (λ g. Holds g m) (sym (negated_is goal s.it s.is))
      (either_way (value s.it m) (Holds (neg s.it) m)
      (λ y. absurd (cert_sound c (hyps ++ s.it ∷ []) (const 0) free w (with_one hyps s.it k y) refl)) (λ y. y))
  cert_sound (by.contra c) hyps goal h w k =
      let free = one_free (first_bad (hyps ++ neg goal ∷ []) (const 0) c) h in
      either_way (value goal m) (Holds goal m) (λ y. y)
      (λ y. absurd (cert_sound c (hyps ++ neg goal ∷ []) (const 0) free w (with_one hyps (neg goal) k y) refl))
  cert_sound by.reflexive hyps goal h w k =
      reflexive_holds (operands Eq goal) goal (only_if_true (is_reflexive (operands Eq goal)) None h) (λ p i. operands_is Eq goal p i)
  cert_sound (by.fwd i t c) hyps goal h w k =
      let s = only_with_there (Term × Term) (operands_of Eq (numbered hyps i)) (λ (a, b). only_if (same (filled t a) goal) (one (first_bad hyps (filled t b) c))) h in
      let x = numbered_holds m hyps i (bin Eq s.it.0 s.it.1) (operands_of_is Eq (numbered hyps i) s.it s.is) k in
      let e = values_equal (value s.it.0 m) (value s.it.1 m) x in
      let next = one (first_bad hyps (filled t s.it.1) c) in
      let y = cert_sound c hyps (filled t s.it.1) (one_free (first_bad hyps (filled t s.it.1) c) (only_if_children (same (filled t s.it.0) goal) next s.free)) w k in
      replaced_holds t s.it.0 s.it.1 goal e (only_if_true (same (filled t s.it.0) goal) next s.free) y
  cert_sound (by.rev i t c) hyps goal h w k =
      let s = only_with_there (Term × Term) (operands_of Eq (numbered hyps i)) (λ (a, b). only_if (same (filled t b) goal) (one (first_bad hyps (filled t a) c))) h in
      let x = numbered_holds m hyps i (bin Eq s.it.0 s.it.1) (operands_of_is Eq (numbered hyps i) s.it s.is) k in
      let e = sym (values_equal (value s.it.0 m) (value s.it.1 m) x) in
      let next = one (first_bad hyps (filled t s.it.0) c) in
      let y = cert_sound c hyps (filled t s.it.0) (one_free (first_bad hyps (filled t s.it.0) c) (only_if_children (same (filled t s.it.1) goal) next s.free)) w k in
      replaced_holds t s.it.1 s.it.0 goal e (only_if_true (same (filled t s.it.1) goal) next s.free) y
  cert_sound (by.instance n es c) hyps goal h w k =
      let s = only_with_there Term (axiom_for n es) (λ e. one (first_bad (hyps ++ e ∷ []) goal c)) h in
      cert_sound c (hyps ++ s.it ∷ []) goal (one_free (first_bad (hyps ++ s.it ∷ []) goal c) s.free) w.1 (with_one hyps s.it k (w.0 s.it s.is))
  cert_sound by.ring hyps goal h w k = ring_holds goal (only_if_true (is_ring goal) None h)
  cert_sound by.range hyps goal h w k =
      let i = only_if_true (is_range hyps goal) None h in
      range_sound hyps goal (words_of goal (right_true (range_valid hyps goal) (is_of_words goal) i)) (left_true (range_valid hyps goal) (is_of_words goal) i) m m_words k
