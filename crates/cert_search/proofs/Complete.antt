-- Where a certificate of the class is valid, the search finds one.
use Rattle.std.proofs.Common.{◌≡◌, ℕ, zero, suc, ◌+◌, ◌==◌, List, [], ◌∷◌, ◌++◌, slice_get, Bool, true, false, not, ◌&&◌, Option, Some, None, option_map, is_some, ◌⊎◌, refl, sym, ◌∙◌, ap, inl, inr, arith, if◌then◌else◌}
use Rattle.std.proofs.lemmas.Bool.{and_from, or_cases, or_parts, eqb-true, eq-eqb}
use Rattle.cov_expr.specs.declared.expr.Op.TheVariants.{Eq, Both, Either}
use Rattle.cov_expr.specs.declared.expr.TheConstants.{HOLE}
use Rattle.cov_expr.specs.Term.{Term, const, var, neg, bin}
use Rattle.cov_expr.specs.Trees.{op_number, same, mentions}
use Rattle.cov_expr.proofs.Trees.{same_is, same_refl}
use Rattle.cov_expr.proofs.Tests.{left_true, right_true}
use Rattle.cov_ast.specs.Syntax.{Cert}
use Rattle.cov_ast.specs.Syntax as by
use Rattle.entail_cert.specs.Axioms.{numbered}
use Rattle.entail_cert.specs.Valid.{is_plain, is_negation, is_reflexive, operands, operands_of, negated, is_ring, is_range, filled, only_if, in_child, one, two, first_bad}
use Rattle.cert_search.specs.Classes.{is_within, opened, definition_in, is_step, is_leaf, is_in_class}
use Rattle.cert_search.specs.Searching.{leaf_where, number_of, denied_by, contradiction, leaf, is_sound_template, by_both, by_either, by_parts, by_cases, by_hypothesis, by_hypotheses, by_lemma, by_equation, by_one, by_lemmas, step, search}
use Rattle.cert_search.proofs.Choices.{none_some, some_left, some_right, some_mapped, some_joined, some_where, definition_sides}

-- Where no node fails ------------------------------------------------------------------------------------------

wrong : (C : Type 0) → false ≡ true → C
wrong C h = cc

pub only_if_free : (b : Bool) (x : Option (List ℕ)) → only_if b x ≡ None → (b ≡ true) × (x ≡ None)
only_if_free true x h = (refl, h)
only_if_free false x h = none_some ((false ≡ true) × (x ≡ None)) [] (sym h)

pub child_free : (n : ℕ) (x : Option (List ℕ)) → in_child n x ≡ None → x ≡ None
child_free n None h = refl
child_free n (Some p) h = none_some (Some p ≡ None) (n ∷ p) (sym h)

pub two_free : (x y : Option (List ℕ)) → two x y ≡ None → (x ≡ None) × (y ≡ None)
two_free None y h = (refl, child_free 2 y h)
two_free (Some p) y h = none_some ((Some p ≡ None) × (y ≡ None)) (1 ∷ p) (sym h)

pub record Numbered (hyps : List Term) (i : ℕ) (h : Term) : Type 0 where
  pub index : ℕ
  pub number : i ≡ suc index
  pub there : slice_get hyps index ≡ Some h

numbered_at : (hyps : List Term) (i : ℕ) (h : Term) → numbered hyps i ≡ Some h → Numbered hyps i h
numbered_at hyps zero h e = none_some (Numbered hyps zero h) h e
numbered_at hyps (suc k) h e = record { index = k; number = refl; there = e }

-- Leaves -------------------------------------------------------------------------------------------------------

if_some : (b : Bool) (n : ℕ) (o : Option ℕ) → is_some o ≡ true → is_some (if b then Some n else o) ≡ true
if_some true n o h = refl
if_some false n o h = h

number_some : (n k : ℕ) (hs : List Term) (h e : Term) → slice_get hs k ≡ Some h → same h e ≡ true → is_some (number_of hs n e) ≡ true
number_some n k [] h e s t = none_some (false ≡ true) h s
number_some n zero (x ∷ hs) h e s t =
    let i : x ≡ h = cc in
    let j : same x e ≡ true = rw i t in
    rw j refl
number_some n (suc k) (x ∷ hs) h e s t = if_some (same x e) n (number_of hs (suc n) e) (number_some (suc n) k hs h e s t)

contradiction_some : (all : List Term) (n k : ℕ) (hs : List Term) (h : Term) → slice_get hs k ≡ Some h → is_some (denied_by all (negated h)) ≡ true
    → is_some (contradiction all n hs) ≡ true
contradiction_some all n k [] h s t = none_some (is_some (contradiction all n []) ≡ true) h s
contradiction_some all n zero (x ∷ hs) h s t =
    let i : x ≡ h = cc in
    let o = denied_by all (negated x) in
    some_left (option_map (λ i. by.absurdity i n) o) (contradiction all (suc n) hs) (mapped o (rw i t))
  where
    mapped : (o : Option ℕ) → is_some o ≡ true → is_some (option_map (λ i. by.absurdity i n) o) ≡ true
    mapped None h = h
    mapped (Some i) h = refl
contradiction_some all n (suc k) (x ∷ hs) h s t =
    some_right (option_map (λ i. by.absurdity i n) (denied_by all (negated x))) (contradiction all (suc n) hs) (contradiction_some all (suc n) k hs h s t)

module _ (hyps : List Term) (goal : Term) where
  absurd_some : (i j : ℕ) (o p : Option Term) → numbered hyps i ≡ o → numbered hyps j ≡ p → is_negation o p ≡ true → is_some (contradiction hyps 1 hyps) ≡ true
  absurd_some i j None p k l h = wrong (is_some (contradiction hyps 1 hyps) ≡ true) h
  absurd_some i j (Some e) None k l h = wrong (is_some (contradiction hyps 1 hyps) ≡ true) h
  absurd_some i j (Some e) (Some f) k l h =
      let a = numbered_at hyps i e k in
      let b = numbered_at hyps j f l in
      let is : f ≡ neg e = same_is f (neg e) h in
      let denied : is_some (number_of hyps 1 e) ≡ true = number_some 1 a.index hyps e e a.there (same_refl e) in
      contradiction_some hyps 1 b.index hyps f b.there (rw is denied)

  is_there : (b : Bool) (c : Cert) → b ≡ true → is_some (leaf_where b c) ≡ true
  is_there b c h = some_where b (Some c) h refl

  plain_some : is_plain hyps goal ≡ true → is_some (leaf hyps goal) ≡ true
  plain_some h = some_left (leaf_where (is_plain hyps goal) by.auto) _ (is_there (is_plain hyps goal) by.auto h)

  reflexive_some : is_reflexive (operands Eq goal) ≡ true → is_some (leaf hyps goal) ≡ true
  reflexive_some h =
      some_right (leaf_where (is_plain hyps goal) by.auto) _
      (some_left (leaf_where (is_reflexive (operands Eq goal)) by.reflexive) _ (is_there (is_reflexive (operands Eq goal)) by.reflexive h))

  range_some : is_range hyps goal ≡ true → is_some (leaf hyps goal) ≡ true
  range_some h =
      some_right (leaf_where (is_plain hyps goal) by.auto) _
      (some_right (leaf_where (is_reflexive (operands Eq goal)) by.reflexive) _
      (some_left (leaf_where (is_range hyps goal) by.range) _ (is_there (is_range hyps goal) by.range h)))

  ring_some : is_ring goal ≡ true → is_some (leaf hyps goal) ≡ true
  ring_some h =
      some_right (leaf_where (is_plain hyps goal) by.auto) _
      (some_right (leaf_where (is_reflexive (operands Eq goal)) by.reflexive) _
      (some_right (leaf_where (is_range hyps goal) by.range) _
      (some_left (leaf_where (is_ring goal) by.ring) _ (is_there (is_ring goal) by.ring h))))

  contradiction_leaf : is_some (contradiction hyps 1 hyps) ≡ true → is_some (leaf hyps goal) ≡ true
  contradiction_leaf h =
      some_right (leaf_where (is_plain hyps goal) by.auto) _
      (some_right (leaf_where (is_reflexive (operands Eq goal)) by.reflexive) _
      (some_right (leaf_where (is_range hyps goal) by.range) _
      (some_right (leaf_where (is_ring goal) by.ring) _ h)))

  pub leaf_complete : (c : Cert) → is_leaf c ≡ true → first_bad hyps goal c ≡ None → is_some (leaf hyps goal) ≡ true
  leaf_complete by.auto l h = plain_some (only_if_free (is_plain hyps goal) None h).0
  leaf_complete by.reflexive l h = reflexive_some (only_if_free (is_reflexive (operands Eq goal)) None h).0
  leaf_complete by.range l h = range_some (only_if_free (is_range hyps goal) None h).0
  leaf_complete by.ring l h = ring_some (only_if_free (is_ring goal) None h).0
  leaf_complete (by.absurdity i j) l h =
      contradiction_leaf (absurd_some i j (numbered hyps i) (numbered hyps j) refl refl (only_if_free (is_negation (numbered hyps i) (numbered hyps j)) None h).0)
  leaf_complete _ l h = wrong (is_some (leaf hyps goal) ≡ true) l

-- Steps --------------------------------------------------------------------------------------------------------

none_there : (a b c d e : Bool) → (a && false && b && c && d && e) ≡ true → false ≡ true
none_there true b c d e h = h
none_there false b c d e h = h

-- what a template gives where the whole doesn't mention the variable
pub unmentioned : (g : Term) (x : ℕ) (e : Term) → mentions g x ≡ false → same (filled (opened g x) (var x)) g ≡ true → filled (opened g x) e ≡ g
unmentioned (const k) x e m s = refl
unmentioned (var y) x e m s = rw m (at (y == HOLE) refl)
  where
    at : (b : Bool) → (y == HOLE) ≡ b → filled (var y) e ≡ var y
    at true i =
        let t : same (filled (var y) (var x)) (var y) ≡ true = (rw m at s) in
        let u : (x == y) ≡ true = (rw i at t) in
        wrong (filled (var y) e ≡ var y) (sym m ∙ eq-eqb y x (sym (eqb-true x y u)))
    at false i = rw i refl
unmentioned (neg a) x e m s = ap neg (unmentioned a x e m s)
unmentioned (bin op a b) x e m s =
    let parts = or_parts (mentions a x) (mentions b x) m in
    let left = unmentioned a x e parts.0 (right_true (op_number op == op_number op) (same (filled (opened a x) (var x)) a)
    (left_true ((op_number op == op_number op) && same (filled (opened a x) (var x)) a) (same (filled (opened b x) (var x)) b) s)) in
    let right = unmentioned b x e parts.1 (right_true ((op_number op == op_number op) && same (filled (opened a x) (var x)) a) (same (filled (opened b x) (var x)) b) s) in
    cc

module _ (find : List Term → Term → Option Cert) (child : List Term → Term → Cert → Bool)
    (complete : (hyps : List Term) (goal : Term) (c : Cert) → child hyps goal c ≡ true → first_bad hyps goal c ≡ None → is_some (find hyps goal) ≡ true)
    (hyps : List Term) (goal : Term) where
  abbrev Found : Type 0
  Found = is_some (step find hyps goal) ≡ true

  from_both : is_some (by_both find hyps goal (operands Both goal)) ≡ true → Found
  from_both h = some_left (by_both find hyps goal (operands Both goal)) _ h

  from_either : is_some (by_either find hyps goal (operands Either goal)) ≡ true → Found
  from_either h =
      some_right (by_both find hyps goal (operands Both goal)) _ (some_left (by_either find hyps goal (operands Either goal)) _ h)

  from_hypotheses : is_some (by_hypotheses find hyps goal 1 hyps) ≡ true → Found
  from_hypotheses h =
      some_right (by_both find hyps goal (operands Both goal)) _
      (some_right (by_either find hyps goal (operands Either goal)) _ (some_left (by_hypotheses find hyps goal 1 hyps) _ h))

  from_lemmas : is_some (by_lemmas find hyps goal 1 hyps) ≡ true → Found
  from_lemmas h =
      some_right (by_both find hyps goal (operands Both goal)) _
      (some_right (by_either find hyps goal (operands Either goal)) _ (some_right (by_hypotheses find hyps goal 1 hyps) _ h))

  -- goals
  both_found : (o : Option (Term × Term)) (c d : Cert) → operands Both goal ≡ o → is_step child hyps goal (by.and c d) ≡ true
      → first_bad hyps goal (by.and c d) ≡ None → Found
  both_found None c d i h f = wrong Found (rw i at h)
  both_found (Some s) c d i h f =
      let k : (child hyps s.0 c && child hyps s.1 d) ≡ true = (rw i at h) in
      let l : two (first_bad hyps s.0 c) (first_bad hyps s.1 d) ≡ None = (rw i at f) in
      from_both (rw i (some_joined by.and (find hyps s.0) (find hyps s.1)
      (complete hyps s.0 c (left_true (child hyps s.0 c) (child hyps s.1 d) k) (two_free (first_bad hyps s.0 c) (first_bad hyps s.1 d) l).0)
      (complete hyps s.1 d (right_true (child hyps s.0 c) (child hyps s.1 d) k) (two_free (first_bad hyps s.0 c) (first_bad hyps s.1 d) l).1)))

  left_found : (o : Option (Term × Term)) (c : Cert) → operands Either goal ≡ o → is_step child hyps goal (by.left c) ≡ true
      → first_bad hyps goal (by.left c) ≡ None → Found
  left_found None c i h f = wrong Found (rw i at h)
  left_found (Some s) c i h f =
      let k : child hyps s.0 c ≡ true = (rw i at h) in
      let l : one (first_bad hyps s.0 c) ≡ None = (rw i at f) in
      from_either (rw i (some_left (option_map by.left (find hyps s.0)) (option_map by.right (find hyps s.1))
      (some_mapped by.left (find hyps s.0) (complete hyps s.0 c k (child_free 1 (first_bad hyps s.0 c) l)))))

  right_found : (o : Option (Term × Term)) (c : Cert) → operands Either goal ≡ o → is_step child hyps goal (by.right c) ≡ true
      → first_bad hyps goal (by.right c) ≡ None → Found
  right_found None c i h f = wrong Found (rw i at h)
  right_found (Some s) c i h f =
      let k : child hyps s.1 c ≡ true = (rw i at h) in
      let l : one (first_bad hyps s.1 c) ≡ None = (rw i at f) in
      from_either (rw i (some_right (option_map by.left (find hyps s.0)) (option_map by.right (find hyps s.1))
      (some_mapped by.right (find hyps s.1) (complete hyps s.1 c k (child_free 1 (first_bad hyps s.1 c) l)))))

  -- hypotheses
  hypotheses_some : (n k : ℕ) (hs : List Term) (h : Term) → slice_get hs k ≡ Some h → ((m : ℕ) → is_some (by_hypothesis find hyps goal m h) ≡ true)
      → is_some (by_hypotheses find hyps goal n hs) ≡ true
  hypotheses_some n k [] h s t = none_some (is_some (by_hypotheses find hyps goal n []) ≡ true) h s
  hypotheses_some n zero (x ∷ hs) h s t =
      let i : x ≡ h = cc in
      some_left (by_hypothesis find hyps goal n x) (by_hypotheses find hyps goal (suc n) hs) (rw i (t n))
  hypotheses_some n (suc k) (x ∷ hs) h s t =
      some_right (by_hypothesis find hyps goal n x) (by_hypotheses find hyps goal (suc n) hs) (hypotheses_some (suc n) k hs h s t)

  hypothesis_found : (i : ℕ) (h : Term) → numbered hyps i ≡ Some h → ((m : ℕ) → is_some (by_hypothesis find hyps goal m h) ≡ true) → Found
  hypothesis_found i h n t = let a = numbered_at hyps i h n in from_hypotheses (hypotheses_some 1 a.index hyps h a.there t)

  unpack_found : (o : Option Term) (i : ℕ) (c : Cert) → numbered hyps i ≡ o → is_step child hyps goal (by.unpack i c) ≡ true
      → first_bad hyps goal (by.unpack i c) ≡ None → Found
  unpack_found None i c n h f = wrong Found (rw n at h)
  unpack_found (Some e) i c n h f = at (operands Both e) refl
    where
      at : (o : Option (Term × Term)) → operands Both e ≡ o → Found
      at None k = wrong Found (rw (n, k) at h)
      at (Some s) k =
          let l : child (hyps ++ s.0 ∷ s.1 ∷ []) goal c ≡ true = (rw (n, k) at h) in
          let g : one (first_bad (hyps ++ s.0 ∷ s.1 ∷ []) goal c) ≡ None = (rw (n, k) at f) in
          let t = complete (hyps ++ s.0 ∷ s.1 ∷ []) goal c l (child_free 1 (first_bad (hyps ++ s.0 ∷ s.1 ∷ []) goal c) g) in
          hypothesis_found i e n (λ m. some_left (by_parts find hyps goal m (operands Both e)) _
          (rw k (some_mapped (by.unpack m) (find (hyps ++ s.0 ∷ s.1 ∷ []) goal) t)))

  cases_found : (o : Option Term) (i : ℕ) (c d : Cert) → numbered hyps i ≡ o → is_step child hyps goal (by.cases i c d) ≡ true
      → first_bad hyps goal (by.cases i c d) ≡ None → Found
  cases_found None i c d n h f = wrong Found (rw n at h)
  cases_found (Some e) i c d n h f = at (operands Either e) refl
    where
      at : (o : Option (Term × Term)) → operands Either e ≡ o → Found
      at None k = wrong Found (rw (n, k) at h)
      at (Some s) k =
          let l : (child (hyps ++ s.0 ∷ []) goal c && child (hyps ++ s.1 ∷ []) goal d) ≡ true = (rw (n, k) at h) in
          let g : two (first_bad (hyps ++ s.0 ∷ []) goal c) (first_bad (hyps ++ s.1 ∷ []) goal d) ≡ None = (rw (n, k) at f) in
          let first = complete (hyps ++ s.0 ∷ []) goal c (left_true (child (hyps ++ s.0 ∷ []) goal c) (child (hyps ++ s.1 ∷ []) goal d) l)
          (two_free (first_bad (hyps ++ s.0 ∷ []) goal c) (first_bad (hyps ++ s.1 ∷ []) goal d) g).0 in
          let second = complete (hyps ++ s.1 ∷ []) goal d (right_true (child (hyps ++ s.0 ∷ []) goal c) (child (hyps ++ s.1 ∷ []) goal d) l)
          (two_free (first_bad (hyps ++ s.0 ∷ []) goal c) (first_bad (hyps ++ s.1 ∷ []) goal d) g).1 in
          hypothesis_found i e n (λ m. some_right (by_parts find hyps goal m (operands Both e)) _
          (some_left (by_cases find hyps goal m (operands Either e)) _
          (rw k (some_joined (by.cases m) (find (hyps ++ s.0 ∷ []) goal) (find (hyps ++ s.1 ∷ []) goal) first second))))

  -- replacements in the goal, unless it doesn't mention the variable: then the child is one for the goal itself
  forward_found : (o : Option Term) (i : ℕ) (t : Term) (c : Cert) → numbered hyps i ≡ o → is_step child hyps goal (by.fwd i t c) ≡ true
      → first_bad hyps goal (by.fwd i t c) ≡ None → Found ⊎ (is_some (find hyps goal) ≡ true)
  forward_found None i t c n h f = inl (wrong Found (rw n at h))
  forward_found (Some e) i t c n h f = at (definition_in (Some e)) refl
    where
      at : (o : Option (ℕ × Term)) → definition_in (Some e) ≡ o → Found ⊎ (is_some (find hyps goal) ≡ true)
      at None k = inl (wrong Found (rw (n, k) at h))
      at (Some q) k =
          let l : (is_within t && same t (opened goal q.0) && child hyps (filled t q.1) c) ≡ true = (rw (n, k) at h) in
          let front = left_true (is_within t && same t (opened goal q.0)) (child hyps (filled t q.1) c) l in
          let below = right_true (is_within t && same t (opened goal q.0)) (child hyps (filled t q.1) c) l in
          let within = left_true (is_within t) (same t (opened goal q.0)) front in
          let is = same_is t (opened goal q.0) (right_true (is_within t) (same t (opened goal q.0)) front) in
          let sides : operands_of Eq (numbered hyps i) ≡ Some (var q.0, q.1) = rw n (definition_sides (Some e) q.0 q.1 k) in
          let g : only_if (same (filled t (var q.0)) goal) (one (first_bad hyps (filled t q.1) c)) ≡ None = (rw sides at f) in
          let again = (only_if_free (same (filled t (var q.0)) goal) (one (first_bad hyps (filled t q.1) c)) g).0 in
          let free = child_free 1 (first_bad hyps (filled t q.1) c) (only_if_free (same (filled t (var q.0)) goal) (one (first_bad hyps (filled t q.1) c)) g).1 in
          let some = complete hyps (filled t q.1) c below free in
          mentioned q k (rw is at within) (rw is at again) (rw is at some) (mentions goal q.0) refl
        where
          mentioned : (q : ℕ × Term) → definition_in (Some e) ≡ Some q → is_within (opened goal q.0) ≡ true → same (filled (opened goal q.0) (var q.0)) goal ≡ true
              → is_some (find hyps (filled (opened goal q.0) q.1)) ≡ true → (b : Bool) → mentions goal q.0 ≡ b → Found ⊎ (is_some (find hyps goal) ≡ true)
          mentioned q k within again some true m =
              let tests : (mentions goal q.0 && is_sound_template (opened goal q.0) q.0 goal) ≡ true =
              and_from (mentions goal q.0) (is_sound_template (opened goal q.0) q.0 goal) m
              (and_from (is_within (opened goal q.0)) (same (filled (opened goal q.0) (var q.0)) goal) within again) in
              inl (hypothesis_found i e n (λ m. some_right (by_parts find hyps goal m (operands Both e)) _
              (some_right (by_cases find hyps goal m (operands Either e)) _
              (rw k (some_where (mentions goal q.0 && is_sound_template (opened goal q.0) q.0 goal) _ tests
              (some_mapped (by.fwd m (opened goal q.0)) (find hyps (filled (opened goal q.0) q.1)) some))))))
          mentioned q k within again some false m =
              let is = unmentioned goal q.0 q.1 m again in
              inr (rw is at some)

  -- replacements in hypotheses
  equation_some : (i x : ℕ) (e : Term) (n k j : ℕ) (hs : List Term) (h : Term) → j ≡ n + k → slice_get hs k ≡ Some h
      → is_some (by_lemma find hyps goal i x e j h) ≡ true → is_some (by_equation find hyps goal i x e n hs) ≡ true
  equation_some i x e n k j [] h a s t = none_some (is_some (by_equation find hyps goal i x e n []) ≡ true) h s
  equation_some i x e n zero j (y ∷ hs) h a s t =
      let b : y ≡ h = cc in
      let c : n ≡ j = omega arith in
      some_left (by_lemma find hyps goal i x e n y) (by_equation find hyps goal i x e (suc n) hs) (rw (b, c) t)
  equation_some i x e n (suc k) j (y ∷ hs) h a s t =
      some_right (by_lemma find hyps goal i x e n y) (by_equation find hyps goal i x e (suc n) hs)
      (equation_some i x e (suc n) k j hs h (omega arith) s t)

  lemmas_some : (n k i : ℕ) (hs : List Term) (h : Term) → i ≡ n + k → slice_get hs k ≡ Some h
      → is_some (by_one find hyps goal i (definition_in (Some h))) ≡ true → is_some (by_lemmas find hyps goal n hs) ≡ true
  lemmas_some n k i [] h a s t = none_some (is_some (by_lemmas find hyps goal n []) ≡ true) h s
  lemmas_some n zero i (y ∷ hs) h a s t =
      let b : y ≡ h = cc in
      let c : n ≡ i = omega arith in
      some_left (by_one find hyps goal n (definition_in (Some y))) (by_lemmas find hyps goal (suc n) hs) (rw (b, c) t)
  lemmas_some n (suc k) i (y ∷ hs) h a s t =
      some_right (by_one find hyps goal n (definition_in (Some y))) (by_lemmas find hyps goal (suc n) hs) (lemmas_some (suc n) k i hs h (omega arith) s t)

  pub lemma_found : (i j : ℕ) (g h : Term) (q : ℕ × Term) → numbered hyps i ≡ Some g → definition_in (Some g) ≡ Some q → numbered hyps j ≡ Some h
      → is_some (by_lemma find hyps goal i q.0 q.1 j h) ≡ true → Found
  lemma_found i j g h q n d m t =
      let a = numbered_at hyps i g n in
      let b = numbered_at hyps j h m in
      let k : j ≡ 1 + b.index = omega arith in
      let l : i ≡ 1 + a.index = omega arith in
      from_lemmas (lemmas_some 1 a.index i hyps g l a.there (rw d (equation_some i q.0 q.1 1 b.index j hyps h k b.there t)))

  -- a hypothesis that is made of another
  made_found : (i : ℕ) (t f : Term) (p c : Cert) (q : ℕ × Term) (g : Term) → numbered hyps i ≡ Some g → definition_in (Some g) ≡ Some q
      → is_step child hyps goal (by.have f (by.rev i t p) c) ≡ true
      → first_bad hyps goal (by.have f (by.rev i t p) c) ≡ None → Found
  made_found i t f (by.hyp j) c q g n d h b = at (numbered hyps j) refl
    where
      at : (o : Option Term) → numbered hyps j ≡ o → Found
      at None m = wrong Found (none_there (not (i == j)) (is_within t) (same f (filled t q.1)) (is_within f) (child (hyps ++ f ∷ []) goal c) (rw (n, d, m) at h))
      at (Some k) m =
          let l : (not (i == j) && (mentions k q.0 && same t (opened k q.0)) && is_within t && same f (filled t q.1) && is_within f && child (hyps ++ f ∷ []) goal c) ≡ true =
          (rw (n, d, m) at h) in
          let tests = left_true (not (i == j) && (mentions k q.0 && same t (opened k q.0)) && is_within t && same f (filled t q.1) && is_within f) (child (hyps ++ f ∷ []) goal c) l in
          let below = right_true (not (i == j) && (mentions k q.0 && same t (opened k q.0)) && is_within t && same f (filled t q.1) && is_within f) (child (hyps ++ f ∷ []) goal c) l in
          let four = left_true (not (i == j) && (mentions k q.0 && same t (opened k q.0)) && is_within t && same f (filled t q.1)) (is_within f) tests in
          let small = right_true (not (i == j) && (mentions k q.0 && same t (opened k q.0)) && is_within t && same f (filled t q.1)) (is_within f) tests in
          let three = left_true (not (i == j) && (mentions k q.0 && same t (opened k q.0)) && is_within t) (same f (filled t q.1)) four in
          let f_is = same_is f (filled t q.1) (right_true (not (i == j) && (mentions k q.0 && same t (opened k q.0)) && is_within t) (same f (filled t q.1)) four) in
          let both = left_true (not (i == j) && (mentions k q.0 && same t (opened k q.0))) (is_within t) three in
          let within = right_true (not (i == j) && (mentions k q.0 && same t (opened k q.0))) (is_within t) three in
          let apart = left_true (not (i == j)) (mentions k q.0 && same t (opened k q.0)) both in
          let of_it = right_true (not (i == j)) (mentions k q.0 && same t (opened k q.0)) both in
          let has = left_true (mentions k q.0) (same t (opened k q.0)) of_it in
          let t_is = same_is t (opened k q.0) (right_true (mentions k q.0) (same t (opened k q.0)) of_it) in
          let sides : operands_of Eq (numbered hyps i) ≡ Some (var q.0, q.1) = rw n (definition_sides (Some g) q.0 q.1 d) in
          let w : two (only_if (same (filled t q.1) f) (one (only_if (same k (filled t (var q.0))) None))) (first_bad (hyps ++ f ∷ []) goal c) ≡ None =
          (rw (sides, m) at b) in
          let front = (only_if_free (same (filled t q.1) f) (one (only_if (same k (filled t (var q.0))) None))
          (two_free (only_if (same (filled t q.1) f) (one (only_if (same k (filled t (var q.0))) None))) (first_bad (hyps ++ f ∷ []) goal c) w).0).1 in
          let again = same_is k (filled t (var q.0)) (only_if_free (same k (filled t (var q.0))) None (child_free 1 (only_if (same k (filled t (var q.0))) None) front)).0 in
          let free = (two_free (only_if (same (filled t q.1) f) (one (only_if (same k (filled t (var q.0))) None))) (first_bad (hyps ++ f ∷ []) goal c) w).1 in
          let some = complete (hyps ++ f ∷ []) goal c below free in
          put k m apart has t_is within again f_is small some
        where
          put : (k : Term) → numbered hyps j ≡ Some k → not (i == j) ≡ true → mentions k q.0 ≡ true → t ≡ opened k q.0 → is_within t ≡ true → k ≡ filled t (var q.0)
              → f ≡ filled t q.1 → is_within f ≡ true → is_some (find (hyps ++ f ∷ []) goal) ≡ true → Found
          put k m apart has t_is within again f_is small some =
              let u = opened k q.0 in
              let made_is : f ≡ filled u q.1 = (rw t_is at f_is) in
              let stated : same (filled u (var q.0)) k ≡ true = rw (← t_is, ← again) (same_refl k) in
              let tests : (not (i == j) && mentions k q.0 && is_sound_template u q.0 k) ≡ true =
              and_from (not (i == j) && mentions k q.0) (is_sound_template u q.0 k) (and_from (not (i == j)) (mentions k q.0) apart has)
              (and_from (is_within u) (same (filled u (var q.0)) k) (rw t_is at within) stated) in
              lemma_found i j g k q n d m
              (some_where (not (i == j) && mentions k q.0 && is_sound_template u q.0 k) _ tests
              (some_where (is_within (filled u q.1)) _ (rw made_is at small)
              (some_mapped (by.have (filled u q.1) (by.rev i u (by.hyp j))) (find (hyps ++ filled u q.1 ∷ []) goal) (rw made_is at some))))
  made_found i t f _ c q g n d h b = wrong Found (rw (n, d) at h)

  have_found : (f : Term) (c d : Cert) → is_step child hyps goal (by.have f c d) ≡ true → first_bad hyps goal (by.have f c d) ≡ None → Found
  have_found f (by.rev i t p) d h b = at (numbered hyps i) refl
    where
      at : (o : Option Term) → numbered hyps i ≡ o → Found
      at None n = wrong Found (rw n at h)
      at (Some g) n = with_equation (definition_in (Some g)) refl
        where
          with_equation : (o : Option (ℕ × Term)) → definition_in (Some g) ≡ o → Found
          with_equation None e = wrong Found (rw (n, e) at h)
          with_equation (Some q) e = made_found i t f p d q g n e h b
  have_found f _ d h b = wrong Found h

  pub step_complete : (c : Cert) → is_step child hyps goal c ≡ true → first_bad hyps goal c ≡ None → Found ⊎ (is_some (find hyps goal) ≡ true)
  step_complete (by.and c d) h f = inl (both_found (operands Both goal) c d refl h f)
  step_complete (by.left c) h f = inl (left_found (operands Either goal) c refl h f)
  step_complete (by.right c) h f = inl (right_found (operands Either goal) c refl h f)
  step_complete (by.unpack i c) h f = inl (unpack_found (numbered hyps i) i c refl h f)
  step_complete (by.cases i c d) h f = inl (cases_found (numbered hyps i) i c d refl h f)
  step_complete (by.fwd i t c) h f = forward_found (numbered hyps i) i t c refl h f
  step_complete (by.have e c d) h f = inl (have_found e c d h f)
  step_complete _ h f = inl (wrong Found h)

-- Where a certificate of the class has no node that fails, the search finds one.
pub search_complete : (d : ℕ) (hyps : List Term) (goal : Term) (c : Cert) → is_in_class d hyps goal c ≡ true → first_bad hyps goal c ≡ None
    → is_some (search d hyps goal) ≡ true
search_complete zero hyps goal c h f = leaf_complete hyps goal c h f
search_complete (suc d) hyps goal c h f =
    elim (or_cases (is_in_class d hyps goal c) (is_step (is_in_class d) hyps goal c) h) [
      | inl k ↦ some_left (search d hyps goal) (step (search d) hyps goal) (search_complete d hyps goal c k f)
      | inr k ↦ elim (step_complete (search d) (is_in_class d) (search_complete d) hyps goal c k f) [
        | inl found ↦ some_right (search d hyps goal) (step (search d) hyps goal) found
        | inr below ↦ some_left (search d hyps goal) (step (search d) hyps goal) below
      ]
    ]
