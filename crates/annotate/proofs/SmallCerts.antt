-- Certificates of a class are small: they have few nodes, one above another, and their expressions are within the limits of those of a text.
use Rattle.std.proofs.Common.{◌≡◌, ℕ, zero, suc, ◌+◌, ◌*◌, ◌≤◌, nat_le, nat_lt, max, ◌&&◌, ◌||◌, not, List, [], ◌∷◌, ◌++◌, map, Bool, true, false, Option, Some, None, refl, sym, ap, ◌∙◌, true≢false, arith}
use Rattle.std.specs.List.{list_all}
use Rattle.std.proofs.lemmas.Bool.{and_from, and_parts}
use Rattle.cov_expr.specs.declared.expr.Op.TheVariants.{Both, Either}
use Rattle.cov_expr.specs.Term.{Term, const, var, neg, bin}
use Rattle.cov_expr.specs.Trees.{height, nodes, same}
use Rattle.cov_ast.specs.Syntax.{Cert}
use Rattle.cov_ast.specs.Syntax as by
use Rattle.cov_print.proofs.Sizes.{cert_height, cert_nodes, inside_fine, proof_fine, term_fine}
use Rattle.entail_cert.specs.Axioms.{numbered}
use Rattle.entail_cert.specs.Valid.{filled, is_some_and, operands, operands_of}
use Rattle.policy_class.specs.Resolved.{resolved_cert, resolved_term}
use Rattle.cert_search.specs.Classes.{definition_in, hypothesis_named, is_in_class, is_lemma, is_of_another, is_step, is_within, opened, replacement}

-- a certificate of at most so many nodes, of which at most so many stand one above another
record IsSmall (n h : ℕ) (c : Cert) : Type 0 where
  few : cert_nodes c ≤ n
  low : cert_height c ≤ h
  inside : inside_fine c ≡ true

some_and : {A : Type 0} (test : A → Bool) (o : Option A) → is_some_and test o ≡ true → (x : A) × (o ≡ Some x) × (test x ≡ true)
some_and test None h = absurd (true≢false (sym h))
some_and test (Some x) h = (x, refl, h)

not_past : (most n : ℕ) → nat_le n most ≡ true → not (nat_lt most n) ≡ true
not_past most n h = go (nat_lt most n) refl
  where
    go : (b : Bool) → nat_lt most n ≡ b → not b ≡ true
    go true e = absurd (grind (arith, e, h))
    go false e = refl

within_fine : (e : Term) → is_within e ≡ true → term_fine e ≡ true
within_fine e h =
    let parts = and_parts (nat_le (nodes e) 1000) (nat_le (height e) 64) h in
    and_from (not (nat_lt 1000 (nodes e))) (not (nat_lt 64 (height e)) && true) (not_past 1000 (nodes e) parts.0)
    (and_from (not (nat_lt 64 (height e))) true (not_past 64 (height e) parts.1) refl)

module _ (n h : ℕ) (child : List Term → Term → Cert → Bool) (rest : (hyps : List Term) (goal : Term) (c : Cert) → child hyps goal c ≡ true → IsSmall n h c)
    (some : 1 ≤ n) (above : 1 ≤ h) where
  abbrev more_nodes : ℕ
  more_nodes = 3 + 2 * n

  abbrev more_height : ℕ
  more_height = 2 + h

  -- a node above one, and above two
  one_child : (c : Cert) → IsSmall n h c → (d : Cert) → cert_nodes d ≡ 1 + cert_nodes c → cert_height d ≡ 1 + cert_height c → inside_fine d ≡ true
      → IsSmall more_nodes more_height d
  one_child c s d e f i = record { few = omega (arith, e, s.few); low = omega (arith, f, s.low); inside = i }

  two_children : (c d : Cert) → IsSmall n h c → IsSmall n h d → (e : Cert) → cert_nodes e ≡ 1 + cert_nodes c + cert_nodes d
      → cert_height e ≡ 1 + max (cert_height c) (cert_height d) → inside_fine e ≡ true → IsSmall more_nodes more_height e
  two_children c d s r e k l i = record { few = omega (arith, k, s.few, r.few); low = omega (arith, l, s.low, r.low); inside = i }

  named_small : (c : Cert) (o : Option ℕ) → hypothesis_named c ≡ o → (j : ℕ) → o ≡ Some j → (cert_nodes c ≡ 1) × (cert_height c ≡ 1) × (inside_fine c ≡ true)
  named_small (by.hyp i) o e j k = (refl, refl, refl)
  named_small _ o e j k = cc

  lemma_small : (hyps : List Term) (goal f : Term) (i : ℕ) (t : Term) (c d : Cert)
      → is_of_another child hyps goal f t d i (hypothesis_named c) (definition_in (numbered hyps i)) ≡ true → IsSmall more_nodes more_height (by.have f (by.rev i t c) d)
  lemma_small hyps goal f i t c d g =
      let o = some_and _ (definition_in (numbered hyps i)) g in
      let a = and_parts _ (child (hyps ++ f ∷ []) goal d) o.2 in
      let b = and_parts _ (is_within f) a.0 in
      let s = and_parts _ (same f (filled t o.0.1)) b.0 in
      let w = and_parts _ (is_within t) s.0 in
      let m = some_and _ (hypothesis_named c) w.0 in
      let leaf = named_small c (hypothesis_named c) refl m.0 m.1 in
      let small = rest (hyps ++ f ∷ []) goal d a.1 in
      record {
        few = omega (arith, leaf.0, small.few);
        low = omega (arith, leaf.1, small.low, above);
        inside =
            and_from (term_fine f) (inside_fine (by.rev i t c) && inside_fine d) (within_fine f b.1)
            (and_from (inside_fine (by.rev i t c)) (inside_fine d) (and_from (term_fine t) (inside_fine c) (within_fine t w.1) leaf.2) small.inside);
      }

  replaced_small : (hyps : List Term) (goal f : Term) (r d : Cert) → is_lemma child hyps goal f (replacement r) d ≡ true → IsSmall more_nodes more_height (by.have f r d)
  replaced_small hyps goal f (by.rev i t c) d g = lemma_small hyps goal f i t c d g
  replaced_small hyps goal f _ d g = absurd (true≢false (sym g))

  step_small : (hyps : List Term) (goal : Term) (c : Cert) → is_step child hyps goal c ≡ true → IsSmall more_nodes more_height c
  step_small hyps goal (by.and c d) g =
      let o = some_and (λ (a, b). child hyps a c && child hyps b d) (operands Both goal) g in
      let both = and_parts (child hyps o.0.0 c) (child hyps o.0.1 d) o.2 in
      let s = rest hyps o.0.0 c both.0 in
      let r = rest hyps o.0.1 d both.1 in
      two_children c d s r (by.and c d) refl refl (and_from (inside_fine c) (inside_fine d) s.inside r.inside)
  step_small hyps goal (by.left c) g =
      let o = some_and (λ (a, b). child hyps a c) (operands Either goal) g in
      let s = rest hyps o.0.0 c o.2 in
      one_child c s (by.left c) refl refl s.inside
  step_small hyps goal (by.right c) g =
      let o = some_and (λ (a, b). child hyps b c) (operands Either goal) g in
      let s = rest hyps o.0.1 c o.2 in
      one_child c s (by.right c) refl refl s.inside
  step_small hyps goal (by.unpack i c) g =
      let o = some_and (λ (a, b). child (hyps ++ a ∷ b ∷ []) goal c) (operands_of Both (numbered hyps i)) g in
      let s = rest (hyps ++ o.0.0 ∷ o.0.1 ∷ []) goal c o.2 in
      one_child c s (by.unpack i c) refl refl s.inside
  step_small hyps goal (by.cases i c d) g =
      let o = some_and (λ (a, b). child (hyps ++ a ∷ []) goal c && child (hyps ++ b ∷ []) goal d) (operands_of Either (numbered hyps i)) g in
      let both = and_parts (child (hyps ++ o.0.0 ∷ []) goal c) (child (hyps ++ o.0.1 ∷ []) goal d) o.2 in
      let s = rest (hyps ++ o.0.0 ∷ []) goal c both.0 in
      let r = rest (hyps ++ o.0.1 ∷ []) goal d both.1 in
      two_children c d s r (by.cases i c d) refl refl (and_from (inside_fine c) (inside_fine d) s.inside r.inside)
  step_small hyps goal (by.fwd i t c) g =
      let o = some_and (λ (x, e). is_within t && same t (opened goal x) && child hyps (filled t e) c) (definition_in (numbered hyps i)) g in
      let a = and_parts _ (child hyps (filled t o.0.1) c) o.2 in
      let b = and_parts (is_within t) (same t (opened goal o.0.0)) a.0 in
      let s = rest hyps (filled t o.0.1) c a.1 in
      one_child c s (by.fwd i t c) refl refl (and_from (term_fine t) (inside_fine c) (within_fine t b.0) s.inside)
  step_small hyps goal (by.have f c d) g = replaced_small hyps goal f c d g
  step_small hyps goal _ g = absurd (true≢false (sym g))

leaf_small : (c : Cert) → is_in_class 0 [] (const 0) c ≡ true → IsSmall 1 1 c
leaf_small by.auto g = record { few = omega arith; low = omega arith; inside = refl }
leaf_small by.reflexive g = record { few = omega arith; low = omega arith; inside = refl }
leaf_small by.ring g = record { few = omega arith; low = omega arith; inside = refl }
leaf_small by.range g = record { few = omega arith; low = omega arith; inside = refl }
leaf_small (by.absurdity i j) g = record { few = omega arith; low = omega arith; inside = refl }
leaf_small _ g = absurd (true≢false (sym g))

-- of a class more
class_more : (n h d : ℕ) → ((hyps : List Term) (goal : Term) (c : Cert) → is_in_class d hyps goal c ≡ true → IsSmall n h c) → 1 ≤ n → 1 ≤ h
    → (hyps : List Term) (goal : Term) (c : Cert) → is_in_class (suc d) hyps goal c ≡ true → IsSmall (3 + 2 * n) (2 + h) c
class_more n h d rest some above hyps goal c g = go (is_in_class d hyps goal c) refl g
  where
    go : (b : Bool) → is_in_class d hyps goal c ≡ b → (b || is_step (is_in_class d) hyps goal c) ≡ true → IsSmall (3 + 2 * n) (2 + h) c
    go true i k = let s = rest hyps goal c i in record { few = omega (arith, s.few); low = omega (arith, s.low); inside = s.inside }
    go false i k = step_small n h (is_in_class d) rest some above hyps goal c k

class_small : (d : ℕ) → d ≤ 2 → (hyps : List Term) (goal : Term) (c : Cert) → is_in_class d hyps goal c ≡ true → IsSmall 13 5 c
class_small zero lt hyps goal c g = let s = leaf_small c g in record { few = omega (arith, s.few); low = omega (arith, s.low); inside = s.inside }
class_small (suc zero) lt hyps goal c g =
    let s = class_more 1 1 0 (λ hs e k i. leaf_small k i) (omega arith) (omega arith) hyps goal c g in
    record { few = omega (arith, s.few); low = omega (arith, s.low); inside = s.inside }
class_small (suc (suc zero)) lt hyps goal c g =
    let s = class_more 5 3 1 (class_more 1 1 0 (λ hs e k i. leaf_small k i) (omega arith) (omega arith)) (omega arith) (omega arith) hyps goal c g in
    record { few = omega (arith, s.few); low = omega (arith, s.low); inside = s.inside }
class_small (suc (suc (suc d))) lt hyps goal c g = absurd (omega (arith, lt))

-- Other numbers for names --------------------------------------------------------------------------------------

module _ (f l : ℕ → ℕ) where
  term_nodes : (e : Term) → nodes (resolved_term f l e) ≡ nodes e
  term_nodes (const k) = refl
  term_nodes (var x) = refl
  term_nodes (neg e) = ap (λ n. n + 1) (term_nodes e)
  term_nodes (bin op a b) = λ i. term_nodes a i + term_nodes b i + 1

  term_height : (e : Term) → height (resolved_term f l e) ≡ height e
  term_height (const k) = refl
  term_height (var x) = refl
  term_height (neg e) = ap (λ n. n + 1) (term_height e)
  term_height (bin op a b) = λ i. max (term_height a i) (term_height b i) + 1

  term_same : (e : Term) → term_fine (resolved_term f l e) ≡ term_fine e
  term_same e = λ i. not (nat_lt 1000 (term_nodes e i)) && (not (nat_lt 64 (term_height e i)) && true)

  terms_same : (es : List Term) → list_all term_fine (map (resolved_term f l) es) ≡ list_all term_fine es
  terms_same [] = refl
  terms_same (e ∷ es) = λ i. term_same e i && terms_same es i

  -- measures of the certificate
  record IsAlike (c : Cert) : Type 0 where
    few : cert_nodes (resolved_cert f l c) ≡ cert_nodes c
    low : cert_height (resolved_cert f l c) ≡ cert_height c
    inside : inside_fine (resolved_cert f l c) ≡ inside_fine c

  alike : (c : Cert) → IsAlike c
  alike by.auto = record { few = refl; low = refl; inside = refl }
  alike (by.hyp i) = record { few = refl; low = refl; inside = refl }
  alike by.calc = record { few = refl; low = refl; inside = refl }
  alike (by.clash i) = record { few = refl; low = refl; inside = refl }
  alike (by.absurdity i j) = record { few = refl; low = refl; inside = refl }
  alike by.reflexive = record { few = refl; low = refl; inside = refl }
  alike by.ring = record { few = refl; low = refl; inside = refl }
  alike by.range = record { few = refl; low = refl; inside = refl }
  alike (by.left c) = let a = alike c in record { few = ap (λ n. 1 + n) a.few; low = ap (λ n. 1 + n) a.low; inside = a.inside }
  alike (by.right c) = let a = alike c in record { few = ap (λ n. 1 + n) a.few; low = ap (λ n. 1 + n) a.low; inside = a.inside }
  alike (by.unpack i c) = let a = alike c in record { few = ap (λ n. 1 + n) a.few; low = ap (λ n. 1 + n) a.low; inside = a.inside }
  alike (by.negation c) = let a = alike c in record { few = ap (λ n. 1 + n) a.few; low = ap (λ n. 1 + n) a.low; inside = a.inside }
  alike (by.contra c) = let a = alike c in record { few = ap (λ n. 1 + n) a.few; low = ap (λ n. 1 + n) a.low; inside = a.inside }
  alike (by.fwd i e c) =
      let a = alike c in record { few = ap (λ n. 1 + n) a.few; low = ap (λ n. 1 + n) a.low; inside = λ j. term_same e j && a.inside j }
  alike (by.rev i e c) =
      let a = alike c in record { few = ap (λ n. 1 + n) a.few; low = ap (λ n. 1 + n) a.low; inside = λ j. term_same e j && a.inside j }
  alike (by.instance k es c) =
      let a = alike c in record { few = ap (λ n. 1 + n) a.few; low = ap (λ n. 1 + n) a.low; inside = λ j. terms_same es j && a.inside j }
  alike (by.and c d) =
      let a = alike c in
      let b = alike d in
      record { few = λ j. 1 + a.few j + b.few j; low = λ j. 1 + max (a.low j) (b.low j); inside = λ j. a.inside j && b.inside j }
  alike (by.cases i c d) =
      let a = alike c in
      let b = alike d in
      record { few = λ j. 1 + a.few j + b.few j; low = λ j. 1 + max (a.low j) (b.low j); inside = λ j. a.inside j && b.inside j }
  alike (by.split e c d) =
      let a = alike c in
      let b = alike d in
      record {
        few = λ j. 1 + a.few j + b.few j;
        low = λ j. 1 + max (a.low j) (b.low j);
        inside = λ j. term_same e j && (a.inside j && b.inside j);
      }
  alike (by.have e c d) =
      let a = alike c in
      let b = alike d in
      record {
        few = λ j. 1 + a.few j + b.few j;
        low = λ j. 1 + max (a.low j) (b.low j);
        inside = λ j. term_same e j && (a.inside j && b.inside j);
      }

-- A certificate is within the limits of one of a text.
abbrev pub IsFine : Cert → Type 0
IsFine c = proof_fine (record { number = 0; cert = c }) ≡ true

below : (most n k : ℕ) → n ≤ k → k ≤ most → nat_le n most ≡ true
below most n k h g = go (nat_le n most) refl
  where
    go : (b : Bool) → nat_le n most ≡ b → b ≡ true
    go true e = refl
    go false e = absurd (grind (arith, e, h, g))

-- a certificate of a class, by other numbers for names
pub class_fine : (f l : ℕ → ℕ) (d : ℕ) → d ≤ 2 → (hyps : List Term) (goal : Term) (c : Cert) → is_in_class d hyps goal c ≡ true → IsFine (resolved_cert f l c)
class_fine f l d lt hyps goal c g =
    let s = class_small d lt hyps goal c g in
    let a = alike f l c in
    let r = resolved_cert f l c in
    and_from (not (nat_lt 10000 (cert_nodes r)) && (not (nat_lt 64 (cert_height r)) && true)) (inside_fine r)
    (and_from (not (nat_lt 10000 (cert_nodes r))) (not (nat_lt 64 (cert_height r)) && true)
    (ap (λ n. not (nat_lt 10000 n)) a.few ∙ not_past 10000 (cert_nodes c) (below 10000 (cert_nodes c) 13 s.few (omega arith)))
    (and_from (not (nat_lt 64 (cert_height r))) true (ap (λ n. not (nat_lt 64 n)) a.low ∙ not_past 64 (cert_height c) (below 64 (cert_height c) 5 s.low (omega arith))) refl))
    (a.inside ∙ s.inside)
