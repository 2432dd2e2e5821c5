-- What the search finds is in the class and valid.
use Rattle.std.proofs.Common.{◌≡◌, ℕ, zero, suc, ◌==◌, List, [], ◌∷◌, ◌++◌, drop, Bool, true, false, not, ◌&&◌, Option, Some, None, option_map, refl, subst, inl, inr, if◌then◌else◌}
use Rattle.std.proofs.lemmas.Bool.{and_from, or_left, or_right}
use Rattle.cov_expr.specs.declared.expr.Op.TheVariants.{Eq, Both, Either}
use Rattle.cov_expr.specs.Term.{Term, const, var, neg, bin}
use Rattle.cov_expr.specs.Trees.{same, mentions}
use Rattle.cov_expr.proofs.Trees.{same_is, same_refl}
use Rattle.cov_expr.proofs.Tests.{left_true, right_true}
use Rattle.cov_ast.specs.Syntax.{Cert}
use Rattle.cov_ast.specs.Syntax as by
use Rattle.entail_cert.specs.Axioms.{numbered}
use Rattle.entail_cert.specs.Valid.{is_plain, is_negation, is_reflexive, is_some_and, operands, operands_of, negated, is_ring, is_range, filled, only_if, first_bad}
use Rattle.cert_search.specs.Classes.{is_within, opened, definition_in, is_step, is_leaf, is_in_class}
use Rattle.cert_search.specs.Searching.{only_where, leaf_where, number_of, denied_by, contradiction, leaf, is_sound_template, by_both, by_either, by_parts, by_cases, by_replacement, by_hypothesis, by_hypotheses, by_lemma, by_equation, by_one, by_lemmas, step, search}
use Rattle.cert_search.proofs.Choices.{none_some, first_some, mapped_some, joined_some, where_true, where_some, drop_head, drop_tail, definition_sides}

-- a certificate that passes a test, and no node of which fails
pub record Fits (test : List Term → Term → Cert → Bool) (hyps : List Term) (goal : Term) (c : Cert) : Type 0 where
  pub passes : test hyps goal c ≡ true
  pub free : first_bad hyps goal c ≡ None

-- Leaves -------------------------------------------------------------------------------------------------------

only_if_holds : (b : Bool) → b ≡ true → only_if b None ≡ None
only_if_holds true h = refl
only_if_holds false h = let c : false ≡ true = h in cc

abbrev is_leaf_there : List Term → Term → Cert → Bool
is_leaf_there hyps goal c = is_leaf c

module _ (hyps : List Term) (goal : Term) where
  -- a leaf whose condition is a test
  leaf_fits : (b : Bool) (k c : Cert) → is_leaf k ≡ true → first_bad hyps goal k ≡ only_if b None → leaf_where b k ≡ Some c → Fits is_leaf_there hyps goal c
  leaf_fits true k c i e h =
      let s : k ≡ c = cc in
      subst (λ c. Fits is_leaf_there hyps goal c) s (record { passes = i; free = e })
  leaf_fits false k c i e h = none_some (Fits is_leaf_there hyps goal c) c h

number_found : (all : List Term) (n i : ℕ) (hs : List Term) (e : Term) → drop n all ≡ hs → number_of hs (suc n) e ≡ Some i → is_some_and (λ h. same h e) (numbered all i) ≡ true
number_found all n i [] e d h = none_some (is_some_and (λ h. same h e) (numbered all i) ≡ true) i h
number_found all n i (x ∷ hs) e d h = at (same x e) refl (λ k. number_found all (suc n) i hs e (drop_tail n all x hs d) k) h
  where
    at : (b : Bool) → same x e ≡ b → (number_of hs (suc (suc n)) e ≡ Some i → is_some_and (λ h. same h e) (numbered all i) ≡ true)
        → (if b then Some (suc n) else number_of hs (suc (suc n)) e) ≡ Some i → is_some_and (λ h. same h e) (numbered all i) ≡ true
    at true k rest f =
        let g : suc n ≡ i = cc in
        let p : numbered all (suc n) ≡ Some x = drop_head n all x hs d in
        subst (λ i. is_some_and (λ h. same h e) (numbered all i) ≡ true) g (rw p k)
    at false k rest f = rest f

negates : (o : Option Term) (f : Option Term) (h a : Term) → f ≡ Some h → negated h ≡ Some a → is_some_and (λ e. same e a) o ≡ true → is_negation o f ≡ true
negates None f h a p n s = let c : false ≡ true = s in cc
negates (Some e) f h a p n s = rw p (at h n)
  where
    at : (h : Term) → negated h ≡ Some a → same h (neg e) ≡ true
    at (neg b) n =
        let k : b ≡ a = cc in
        rw (k, same_is e a s) (same_refl a)
    at (const k) n = none_some (false ≡ true) a n
    at (var x) n = none_some (false ≡ true) a n
    at (bin op b c) n = none_some (false ≡ true) a n

module _ (hyps : List Term) (goal : Term) where
  denied_fits : (n : ℕ) (h : Term) (o : Option Term) (c : Cert) → numbered hyps (suc n) ≡ Some h → negated h ≡ o
      → option_map (λ i. by.absurdity i (suc n)) (denied_by hyps o) ≡ Some c → Fits is_leaf_there hyps goal c
  denied_fits n h None c p k e = none_some (Fits is_leaf_there hyps goal c) c e
  denied_fits n h (Some a) c p k e = at (number_of hyps 1 a) refl e
    where
      at : (f : Option ℕ) → number_of hyps 1 a ≡ f → option_map (λ i. by.absurdity i (suc n)) f ≡ Some c → Fits is_leaf_there hyps goal c
      at None i e = none_some (Fits is_leaf_there hyps goal c) c e
      at (Some i) found e =
          let s : by.absurdity i (suc n) ≡ c = cc in
          let t : is_negation (numbered hyps i) (numbered hyps (suc n)) ≡ true =
          negates (numbered hyps i) (numbered hyps (suc n)) h a p k (number_found hyps 0 i hyps a refl found) in
          subst (λ c. Fits is_leaf_there hyps goal c) s (record { passes = refl; free = only_if_holds _ t })

  contradiction_fits : (n : ℕ) (hs : List Term) (c : Cert) → drop n hyps ≡ hs → contradiction hyps (suc n) hs ≡ Some c → Fits is_leaf_there hyps goal c
  contradiction_fits n [] c d e = none_some (Fits is_leaf_there hyps goal c) c e
  contradiction_fits n (h ∷ hs) c d e =
      elim (first_some (option_map (λ i. by.absurdity i (suc n)) (denied_by hyps (negated h))) (contradiction hyps (suc (suc n)) hs) c e) [
        | inl k ↦ denied_fits n h (negated h) c (drop_head n hyps h hs d) refl k
        | inr k ↦ contradiction_fits (suc n) hs c (drop_tail n hyps h hs d) k
      ]

  pub leaf_sound : (c : Cert) → leaf hyps goal ≡ Some c → Fits is_leaf_there hyps goal c
  leaf_sound c e =
      elim (first_some (leaf_where (is_plain hyps goal) by.auto) _ c e) [
        | inl k ↦ leaf_fits hyps goal (is_plain hyps goal) by.auto c refl refl k
        | inr e ↦ elim (first_some (leaf_where (is_reflexive (operands Eq goal)) by.reflexive) _ c e) [
          | inl k ↦ leaf_fits hyps goal (is_reflexive (operands Eq goal)) by.reflexive c refl refl k
          | inr e ↦ elim (first_some (leaf_where (is_range hyps goal) by.range) _ c e) [
            | inl k ↦ leaf_fits hyps goal (is_range hyps goal) by.range c refl refl k
            | inr e ↦ elim (first_some (leaf_where (is_ring goal) by.ring) _ c e) [
              | inl k ↦ leaf_fits hyps goal (is_ring goal) by.ring c refl refl k
              | inr e ↦ contradiction_fits 0 hyps c refl e
            ]
          ]
        ]
      ]

-- Steps --------------------------------------------------------------------------------------------------------

ands : (a b : Bool) → a ≡ true → b ≡ true → (a && b) ≡ true
ands a b h k = and_from a b h k

module _ (find : List Term → Term → Option Cert) (child : List Term → Term → Cert → Bool)
    (ok : (hyps : List Term) (goal : Term) (c : Cert) → find hyps goal ≡ Some c → Fits child hyps goal c)
    (hyps : List Term) (goal : Term) where
  abbrev Is : Cert → Type 0
  Is c = Fits (is_step child) hyps goal c

  both_fits : (o : Option (Term × Term)) (c : Cert) → operands Both goal ≡ o → by_both find hyps goal o ≡ Some c → Is c
  both_fits None c i e = none_some (Is c) c e
  both_fits (Some s) c i e =
      let j = joined_some by.and (find hyps s.0) (find hyps s.1) c e in
      let f = ok hyps s.0 j.first j.first_there in
      let g = ok hyps s.1 j.second j.second_there in
      subst Is j.is (record {
        passes = rw i (ands (child hyps s.0 j.first) (child hyps s.1 j.second) f.passes g.passes);
        free = rw (i, f.free, g.free) refl;
      })

  either_fits : (o : Option (Term × Term)) (c : Cert) → operands Either goal ≡ o → by_either find hyps goal o ≡ Some c → Is c
  either_fits None c i e = none_some (Is c) c e
  either_fits (Some s) c i e =
      elim (first_some (option_map by.left (find hyps s.0)) (option_map by.right (find hyps s.1)) c e) [
        | inl k ↦
            let m = mapped_some by.left (find hyps s.0) c k in
            let f = ok hyps s.0 m.part m.there in
            subst Is m.is (record { passes = rw i f.passes; free = rw (i, f.free) refl })
        | inr k ↦
            let m = mapped_some by.right (find hyps s.1) c k in
            let f = ok hyps s.1 m.part m.there in
            subst Is m.is (record { passes = rw i f.passes; free = rw (i, f.free) refl })
      ]

  parts_fits : (n : ℕ) (o : Option (Term × Term)) (c : Cert) → operands_of Both (numbered hyps n) ≡ o → by_parts find hyps goal n o ≡ Some c → Is c
  parts_fits n None c i e = none_some (Is c) c e
  parts_fits n (Some s) c i e =
      let m = mapped_some (by.unpack n) (find (hyps ++ s.0 ∷ s.1 ∷ []) goal) c e in
      let f = ok (hyps ++ s.0 ∷ s.1 ∷ []) goal m.part m.there in
      subst Is m.is (record { passes = rw i f.passes; free = rw (i, f.free) refl })

  cases_fits : (n : ℕ) (o : Option (Term × Term)) (c : Cert) → operands_of Either (numbered hyps n) ≡ o → by_cases find hyps goal n o ≡ Some c → Is c
  cases_fits n None c i e = none_some (Is c) c e
  cases_fits n (Some s) c i e =
      let j = joined_some (by.cases n) (find (hyps ++ s.0 ∷ []) goal) (find (hyps ++ s.1 ∷ []) goal) c e in
      let f = ok (hyps ++ s.0 ∷ []) goal j.first j.first_there in
      let g = ok (hyps ++ s.1 ∷ []) goal j.second j.second_there in
      subst Is j.is (record {
        passes = rw i (ands (child (hyps ++ s.0 ∷ []) goal j.first) (child (hyps ++ s.1 ∷ []) goal j.second) f.passes g.passes);
        free = rw (i, f.free, g.free) refl;
      })

  forward_fits : (n x : ℕ) (e : Term) (part : Cert) → definition_in (numbered hyps n) ≡ Some (x, e) → is_within (opened goal x) ≡ true
      → same (filled (opened goal x) (var x)) goal ≡ true → Fits child hyps (filled (opened goal x) e) part → Is (by.fwd n (opened goal x) part)
  forward_fits n x e part i within again f =
      let s = definition_sides (numbered hyps n) x e i in
      record {
        passes = rw i (ands (is_within (opened goal x) && same (opened goal x) (opened goal x)) (child hyps (filled (opened goal x) e) part)
            (ands (is_within (opened goal x)) (same (opened goal x) (opened goal x)) within (same_refl (opened goal x))) f.passes);
        free = rw (s, again, f.free) refl;
      }

  replacement_fits : (n : ℕ) (o : Option (ℕ × Term)) (c : Cert) → definition_in (numbered hyps n) ≡ o → by_replacement find hyps goal n o ≡ Some c → Is c
  replacement_fits n None c i e = none_some (Is c) c e
  replacement_fits n (Some q) c i e =
      let t = opened goal q.0 in
      let fits = where_true (mentions goal q.0 && is_sound_template t q.0 goal) _ c e in
      let sound = right_true (mentions goal q.0) (is_sound_template t q.0 goal) fits in
      let within = left_true (is_within t) (same (filled t (var q.0)) goal) sound in
      let again = right_true (is_within t) (same (filled t (var q.0)) goal) sound in
      let m = mapped_some (by.fwd n t) (find hyps (filled t q.1)) c (where_some (mentions goal q.0 && is_sound_template t q.0 goal) _ c e) in
      let f = ok hyps (filled t q.1) m.part m.there in
      subst Is m.is (forward_fits n q.0 q.1 m.part i within again f)

  hypothesis_fits : (n : ℕ) (h : Term) (c : Cert) → numbered hyps n ≡ Some h → by_hypothesis find hyps goal n h ≡ Some c → Is c
  hypothesis_fits n h c p e =
      elim (first_some (by_parts find hyps goal n (operands Both h)) _ c e) [
        | inl k ↦ parts_fits n (operands Both h) c (rw p refl) k
        | inr e ↦ elim (first_some (by_cases find hyps goal n (operands Either h)) _ c e) [
          | inl k ↦ cases_fits n (operands Either h) c (rw p refl) k
          | inr k ↦ replacement_fits n (definition_in (Some h)) c (rw p refl) k
        ]
      ]

  hypotheses_fits : (n : ℕ) (hs : List Term) (c : Cert) → drop n hyps ≡ hs → by_hypotheses find hyps goal (suc n) hs ≡ Some c → Is c
  hypotheses_fits n [] c d e = none_some (Is c) c e
  hypotheses_fits n (h ∷ hs) c d e =
      elim (first_some (by_hypothesis find hyps goal (suc n) h) (by_hypotheses find hyps goal (suc (suc n)) hs) c e) [
        | inl k ↦ hypothesis_fits (suc n) h c (drop_head n hyps h hs d) k
        | inr k ↦ hypotheses_fits (suc n) hs c (drop_tail n hyps h hs d) k
      ]

  made_fits : (i x : ℕ) (e : Term) (j : ℕ) (h t f : Term) (part : Cert) → definition_in (numbered hyps i) ≡ Some (x, e) → numbered hyps j ≡ Some h
      → t ≡ opened h x → f ≡ filled t e → not (i == j) ≡ true → mentions h x ≡ true → is_within t ≡ true → filled t (var x) ≡ h → is_within f ≡ true
      → Fits child (hyps ++ f ∷ []) goal part → Is (by.have f (by.rev i t (by.hyp j)) part)
  made_fits i x e j h t f part d p t_is f_is apart has within again small g =
      let s = definition_sides (numbered hyps i) x e d in
      let stated : same h (filled t (var x)) ≡ true = rw again (same_refl h) in
      let opens : same t (opened h x) ≡ true = rw (← t_is) (same_refl t) in
      let fills : same f (filled t e) ≡ true = rw (← f_is) (same_refl f) in
      let fills_back : same (filled t e) f ≡ true = rw (← f_is) (same_refl f) in
      record {
        passes = rw (d, p, apart, has, opens, within, fills, small, g.passes) refl;
        free = rw (s, fills_back, p, stated, g.free) refl;
      }

  lemma_fits : (i x : ℕ) (e : Term) (j : ℕ) (h : Term) (c : Cert) → definition_in (numbered hyps i) ≡ Some (x, e) → numbered hyps j ≡ Some h
      → by_lemma find hyps goal i x e j h ≡ Some c → Is c
  lemma_fits i x e j h c d p k =
      let t = opened h x in
      let f = filled t e in
      let made : Option Cert = option_map (by.have f (by.rev i t (by.hyp j))) (find (hyps ++ f ∷ []) goal) in
      let tests = where_true (not (i == j) && mentions h x && is_sound_template t x h) (only_where (is_within f) made) c k in
      let rest = where_some (not (i == j) && mentions h x && is_sound_template t x h) (only_where (is_within f) made) c k in
      let front = left_true (not (i == j) && mentions h x) (is_sound_template t x h) tests in
      let sound = right_true (not (i == j) && mentions h x) (is_sound_template t x h) tests in
      let apart = left_true (not (i == j)) (mentions h x) front in
      let has = right_true (not (i == j)) (mentions h x) front in
      let within = left_true (is_within t) (same (filled t (var x)) h) sound in
      let again = same_is (filled t (var x)) h (right_true (is_within t) (same (filled t (var x)) h) sound) in
      let small = where_true (is_within f) made c rest in
      let m = mapped_some (by.have f (by.rev i t (by.hyp j))) (find (hyps ++ f ∷ []) goal) c (where_some (is_within f) made c rest) in
      let g = ok (hyps ++ f ∷ []) goal m.part m.there in
      subst Is m.is (made_fits i x e j h t f m.part d p refl refl apart has within again small g)

  equation_fits : (i x : ℕ) (e : Term) (n : ℕ) (hs : List Term) (c : Cert) → definition_in (numbered hyps i) ≡ Some (x, e) → drop n hyps ≡ hs
      → by_equation find hyps goal i x e (suc n) hs ≡ Some c → Is c
  equation_fits i x e n [] c q d k = none_some (Is c) c k
  equation_fits i x e n (h ∷ hs) c q d k =
      elim (first_some (by_lemma find hyps goal i x e (suc n) h) (by_equation find hyps goal i x e (suc (suc n)) hs) c k) [
        | inl k ↦ lemma_fits i x e (suc n) h c q (drop_head n hyps h hs d) k
        | inr k ↦ equation_fits i x e (suc n) hs c q (drop_tail n hyps h hs d) k
      ]

  one_fits : (i : ℕ) (o : Option (ℕ × Term)) (c : Cert) → definition_in (numbered hyps i) ≡ o → by_one find hyps goal i o ≡ Some c → Is c
  one_fits i None c q k = none_some (Is c) c k
  one_fits i (Some e) c q k = equation_fits i e.0 e.1 0 hyps c q refl k

  lemmas_fit : (n : ℕ) (hs : List Term) (c : Cert) → drop n hyps ≡ hs → by_lemmas find hyps goal (suc n) hs ≡ Some c → Is c
  lemmas_fit n [] c d e = none_some (Is c) c e
  lemmas_fit n (h ∷ hs) c d e =
      elim (first_some (by_one find hyps goal (suc n) (definition_in (Some h))) (by_lemmas find hyps goal (suc (suc n)) hs) c e) [
        | inl k ↦ one_fits (suc n) (definition_in (Some h)) c (rw (drop_head n hyps h hs d) refl) k
        | inr k ↦ lemmas_fit (suc n) hs c (drop_tail n hyps h hs d) k
      ]

  pub step_sound : (c : Cert) → step find hyps goal ≡ Some c → Is c
  step_sound c e =
      elim (first_some (by_both find hyps goal (operands Both goal)) _ c e) [
        | inl k ↦ both_fits (operands Both goal) c refl k
        | inr e ↦ elim (first_some (by_either find hyps goal (operands Either goal)) _ c e) [
          | inl k ↦ either_fits (operands Either goal) c refl k
          | inr e ↦ elim (first_some (by_hypotheses find hyps goal 1 hyps) (by_lemmas find hyps goal 1 hyps) c e) [
            | inl k ↦ hypotheses_fits 0 hyps c refl k
            | inr k ↦ lemmas_fit 0 hyps c refl k
          ]
        ]
      ]

-- What the search finds is in the class, and no node of it fails.
pub search_sound : (d : ℕ) (hyps : List Term) (goal : Term) (c : Cert) → search d hyps goal ≡ Some c → Fits (is_in_class d) hyps goal c
search_sound zero hyps goal c e = let f = leaf_sound hyps goal c e in record { passes = f.passes; free = f.free }
search_sound (suc d) hyps goal c e =
    elim (first_some (search d hyps goal) (step (search d) hyps goal) c e) [
      | inl k ↦
          let f = search_sound d hyps goal c k in
          record { passes = or_left (is_in_class d hyps goal c) (is_step (is_in_class d) hyps goal c) f.passes; free = f.free }
      | inr k ↦
          let f = step_sound (search d) (is_in_class d) (search_sound d) hyps goal c k in
          record { passes = or_right (is_in_class d hyps goal c) (is_step (is_in_class d) hyps goal c) f.passes; free = f.free }
    ]
