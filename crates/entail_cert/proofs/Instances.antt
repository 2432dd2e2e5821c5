-- Instances of axioms hold, where they are made of words.
use Rattle.std.proofs.Common.{◌≡◌, ◌≢◌, ℕ, zero, suc, ◌<◌, ◌==◌, ◌&&◌, not, List, [], ◌∷◌, length, map, get_or, slice_get, Bool, true, false, Option, Some, None, IfSome, All, refl, sym, ◌∙◌, ap, subst, if◌then◌else◌, inl, inr, arith, lit<}
use Rattle.std.proofs.lemmas.Bool.{eqb-true, or_cases}
use Rattle.std.proofs.lemmas.Bool.Decides.{eqb_tells}
use Rattle.std.specs.List.{list_all}
use Rattle.std.proofs.lemmas.List.Elements.{All-head, All-tail}
use Rattle.cov_expr.specs.Term.{Term, const, var, neg, bin, value, apply, flag, is_set}
use Rattle.cov_expr.specs.Trees.{mentions, vars}
use Rattle.cov_expr.specs.Words.{AreWords, HasWords}
use Rattle.cov_expr.specs.Entailment.{Holds, Entails}
use Rattle.cov_ast.specs.Syntax.{Cert}
use Rattle.cov_ast.specs.Syntax as by
use Rattle.cov_ast.specs.WellFormed.{CertHasWords}
use Rattle.entail_cert.specs.Axioms.{axioms, numbered, instance, instance_for, axiom_for}
use Rattle.entail_cert.specs.Valid.{first_bad, is_valid}
use Rattle.entail_cert.specs.Inside.Findings.{InstancesHaveWords}
use Rattle.entail_cert.specs.WordTests.{is_of_words}
use Rattle.cov_expr.proofs.Values.{value_word}
use Rattle.cov_expr.proofs.Tests.{left_true, right_true}
use Rattle.entail_cert.proofs.Axioms.{axioms_hold}
use Rattle.entail_cert.proofs.Truth.{numbered_holds, words_of}
use Rattle.entail_cert.proofs.Sound.{InstancesHold, none_is, cert_sound}

-- Instances ----------------------------------------------------------------------------------------------------

value_at : (es : List Term) (i : ℕ) (m : List ℕ) → value (get_or es i (const 0)) m ≡ get_or (map (λ e. value e m) es) i 0
value_at [] i m = refl
value_at (e ∷ es) zero m = refl
value_at (e ∷ es) (suc i) m = value_at es i m

value-instance : (t : Term) (es : List Term) (m : List ℕ) → value (instance t es) m ≡ value t (map (λ e. value e m) es)
value-instance (const k) es m = refl
value-instance (var i) es m = value_at es i m
value-instance (neg t) es m = ap (λ v. flag (not (is_set v))) (value-instance t es m)
value-instance (bin op t u) es m =
    ap (λ v. apply op v (value (instance u es) m)) (value-instance t es m)
    ∙ ap (λ v. apply op (value t (map (λ e. value e m) es)) v) (value-instance u es m)

-- a schema's letters are words in an instance of words
letter_words : (t : Term) (es : List Term) (i : ℕ) → mentions t i ≡ true → HasWords (instance t es) → HasWords (get_or es i (const 0))
letter_words (const k) es i h w = let c : false ≡ true = h in cc
letter_words (var j) es i h w = subst (λ i. HasWords (get_or es i (const 0))) (eqb-true j i h) w
letter_words (neg t) es i h w = letter_words t es i h w
letter_words (bin op t u) es i h w =
    elim (or_cases (mentions t i) (mentions u i) h) [
      | inl e ↦ letter_words t es i e w.0
      | inr e ↦ letter_words u es i e w.1
    ]

values_words : (es : List Term) (m : List ℕ) → AreWords m → ((i : ℕ) → i < length es → HasWords (get_or es i (const 0))) → AreWords (map (λ e. value e m) es)
values_words [] m w h = tt
values_words (e ∷ es) m w h = (value_word e m (h 0 (omega arith)) w, values_words es m w (λ i k. h (suc i) (omega arith)))

-- whether each number below a bound is a letter
abbrev mentions_below : Term → ℕ → Bool
mentions_below t zero = true
mentions_below t (suc n) = mentions t n && mentions_below t n

mentioned : (t : Term) (n i : ℕ) → mentions_below t n ≡ true → i < n → mentions t i ≡ true
mentioned t zero i h k = absurd (omega arith)
mentioned t (suc n) i h k =
    elim (eqb_tells i n) [
      | inl e ↦ subst (λ j. mentions t j ≡ true) (sym e.1) (left_true (mentions t n) (mentions_below t n) h)
      | inr e ↦ mentioned t n i (right_true (mentions t n) (mentions_below t n) h) (let d : i ≢ n = e.1 in omega arith)
    ]

-- the letters of an axiom are the first ones
letters_first : Term → Bool
letters_first t = mentions_below t (length (vars t))

pub all_at : (test : Term → Bool) (es : List Term) (i : ℕ) (t : Term) → list_all test es ≡ true → slice_get es i ≡ Some t → test t ≡ true
all_at test [] i t h k = let c : ◌≡◌ {A = Option Term} None (Some t) = k in cc
all_at test (e ∷ es) zero t h k = let i : e ≡ t = cc in subst (λ e. test e ≡ true) i (left_true (test e) (list_all test es) h)
all_at test (e ∷ es) (suc i) t h k = all_at test es i t (right_true (test e) (list_all test es) h) k

axiom_letters : (k : ℕ) (t : Term) → numbered axioms k ≡ Some t → letters_first t ≡ true
unfolding letters_first
axiom_letters zero t h = let c : ◌≡◌ {A = Option Term} None (Some t) = h in cc
axiom_letters (suc k) t h = all_at letters_first axioms k t refl h

pub record IsInstance (k : ℕ) (es : List Term) (e : Term) : Type 0 where
  pub schema : Term
  pub numbers : numbered axioms k ≡ Some schema
  pub fits : length es ≡ length (vars schema)
  pub is : instance schema es ≡ e

pub instance_is : (k : ℕ) (es : List Term) (e : Term) → axiom_for k es ≡ Some e → IsInstance k es e
instance_is k es e h = at (numbered axioms k) refl h
  where
    fits : (t : Term) → numbered axioms k ≡ Some t → (b : Bool) → (length es == length (vars t)) ≡ b
        → ◌≡◌ {A = Option Term} (if b then Some (instance t es) else None) (Some e) → IsInstance k es e
    fits t n true i j = record { schema = t; numbers = n; fits = eqb-true (length es) (length (vars t)) i; is = (let q : instance t es ≡ e = cc in q) }
    fits t n false i j = let c : ◌≡◌ {A = Option Term} None (Some e) = j in cc

    at : (o : Option Term) → numbered axioms k ≡ o → instance_for o es ≡ Some e → IsInstance k es e
    at None n j = let c : ◌≡◌ {A = Option Term} None (Some e) = j in cc
    at (Some t) n j = fits t n (length es == length (vars t)) refl j

pub instance_holds : (m : List ℕ) → AreWords m → (k : ℕ) (es : List Term) (e : Term) → axiom_for k es ≡ Some e → HasWords e → Holds e m
unfolding letters_first
instance_holds m m_words k es e h w =
    let s = instance_is k es e h in
    let words : HasWords (instance s.schema es) = subst HasWords (sym s.is) w in
    let letters = λ (i : ℕ) (j : i < length es). letter_words s.schema es i (mentioned s.schema (length (vars s.schema)) i (axiom_letters k s.schema s.numbers) (subst (λ n. i < n) s.fits j)) words in
    let v = values_words es m m_words letters in
    let holds = numbered_holds (map (λ e. value e m) es) axioms k s.schema s.numbers (axioms_hold (map (λ e. value e m) es) v) in
    subst (λ e. Holds e m) s.is (λ z. holds (sym (value-instance s.schema es m) ∙ z))

-- Certificates of words ----------------------------------------------------------------------------------------

word_of : (es : List Term) (i : ℕ) → All HasWords es → HasWords (get_or es i (const 0))
word_of [] i all = lit< tt
word_of (e ∷ es) zero all = All-head HasWords e es all
word_of (e ∷ es) (suc i) all = word_of es i (All-tail HasWords e es all)

instance_words : (t : Term) (es : List Term) → HasWords t → All HasWords es → HasWords (instance t es)
instance_words (const k) es h w = h
instance_words (var i) es h w = word_of es i w
instance_words (neg t) es h w = instance_words t es h w
instance_words (bin op t u) es h w = (instance_words t es h.0 w, instance_words u es h.1 w)

axiom_words : (k : ℕ) (t : Term) → numbered axioms k ≡ Some t → HasWords t
axiom_words zero t h = let c : ◌≡◌ {A = Option Term} None (Some t) = h in cc
axiom_words (suc k) t h = words_of t (all_at is_of_words axioms k t refl h)

-- in a certificate of words each instance holds
pub instances_hold : (m : List ℕ) → AreWords m → (c : Cert) → CertHasWords c → InstancesHold m c
instances_hold m w by.auto h = tt
instances_hold m w (by.hyp i) h = tt
instances_hold m w by.calc h = tt
instances_hold m w (by.clash i) h = tt
instances_hold m w (by.and c d) h = (instances_hold m w c h.0, instances_hold m w d h.1)
instances_hold m w (by.left c) h = instances_hold m w c h
instances_hold m w (by.right c) h = instances_hold m w c h
instances_hold m w (by.unpack i c) h = instances_hold m w c h
instances_hold m w (by.cases i c d) h = (instances_hold m w c h.0, instances_hold m w d h.1)
instances_hold m w (by.split e c d) h = (instances_hold m w c h.1, instances_hold m w d h.2)
instances_hold m w (by.have e c d) h = (instances_hold m w c h.1, instances_hold m w d h.2)
instances_hold m w (by.absurdity i j) h = tt
instances_hold m w (by.negation c) h = instances_hold m w c h
instances_hold m w (by.contra c) h = instances_hold m w c h
instances_hold m w by.reflexive h = tt
instances_hold m w (by.fwd i t c) h = instances_hold m w c h.1
instances_hold m w (by.rev i t c) h = instances_hold m w c h.1
instances_hold m w (by.instance k es c) h = (
  λ e i.
      let s = instance_is k es e i in
      instance_holds m w k es e i (subst HasWords s.is (instance_words s.schema es (axiom_words k s.schema s.numbers) h.0)),
  instances_hold m w c h.1,
)
instances_hold m w by.ring h = tt
instances_hold m w by.range h = tt

-- each instance that is made of words holds
instances_of_words : (m : List ℕ) → AreWords m → (c : Cert) → InstancesHaveWords c → InstancesHold m c
instances_of_words m w by.auto h = tt
instances_of_words m w (by.hyp i) h = tt
instances_of_words m w by.calc h = tt
instances_of_words m w (by.clash i) h = tt
instances_of_words m w (by.and c d) h = (instances_of_words m w c h.0, instances_of_words m w d h.1)
instances_of_words m w (by.left c) h = instances_of_words m w c h
instances_of_words m w (by.right c) h = instances_of_words m w c h
instances_of_words m w (by.unpack i c) h = instances_of_words m w c h
instances_of_words m w (by.cases i c d) h = (instances_of_words m w c h.0, instances_of_words m w d h.1)
instances_of_words m w (by.split e c d) h = (instances_of_words m w c h.0, instances_of_words m w d h.1)
instances_of_words m w (by.have e c d) h = (instances_of_words m w c h.0, instances_of_words m w d h.1)
instances_of_words m w (by.absurdity i j) h = tt
instances_of_words m w (by.negation c) h = instances_of_words m w c h
instances_of_words m w (by.contra c) h = instances_of_words m w c h
instances_of_words m w by.reflexive h = tt
instances_of_words m w (by.fwd i t c) h = instances_of_words m w c h
instances_of_words m w (by.rev i t c) h = instances_of_words m w c h
instances_of_words m w (by.instance k es c) h = (λ e i. instance_holds m w k es e i (there (axiom_for k es) e i h.0), instances_of_words m w c h.1)
  where
    there : (o : Option Term) (e : Term) → o ≡ Some e → IfSome o HasWords → HasWords e
    there None e i w = let c : ◌≡◌ {A = Option Term} None (Some e) = i in cc
    there (Some f) e i w = let j : f ≡ e = cc in subst HasWords j w
instances_of_words m w by.ring h = tt
instances_of_words m w by.range h = tt

pub walked_entails : (hyps : List Term) (goal : Term) (c : Cert) → first_bad hyps goal c ≡ None → InstancesHaveWords c → Entails hyps goal
walked_entails hyps goal c h w m m_words k = cert_sound m m_words c hyps goal h (instances_of_words m m_words c w) k

pub valid_entails : (hyps : List Term) (goal : Term) (c : Cert) → CertHasWords c → is_valid hyps goal c ≡ true → Entails hyps goal
valid_entails hyps goal c w v m m_words k = cert_sound m m_words c hyps goal (none_is (first_bad hyps goal c) v) (instances_hold m m_words c w) k
