-- What is found is of the threads of the program, valid, and within range.
use Rattle.std.proofs.Common.{◌≡◌, inl, inr, ℕ, ◌<◌, ◌≤◌, ◌==◌, ◌&&◌, nat_lt, List, [], ◌∷◌, ◌++◌, length, Bool, true, false, if◌then◌else◌, Option, Some, None, refl, ap, ◌∙◌, subst, arith, All, Contains, eqb-true, ltb-true, ne_eqb}
use Rattle.std.proofs.lemmas.Bool.{and_parts}
use Rattle.std.proofs.lemmas.List.Elements.{All-append, All-cons, All-contains, All-head, All-nil, All-tail, Contains-append_left, Contains-append_right, Contains-push}
use Rattle.cov_expr.specs.Term.{Term}
use Rattle.cov_ast.specs.Syntax.{Cert, Program}
use Rattle.cov_ast.specs.WellFormed.{IsCertInRange, IsWellFormed}
use Rattle.annotate.specs.Annotated.{IsOfWordsBelow}
use Rattle.annotate.specs.declared.outcome.Open.{Open}
use Rattle.annotate.proofs.CertsInRange.{all_in_range, class_in_range, in_range_of}
use Rattle.annotate.proofs.FormedLaws.{listed_in_range}
use Rattle.cert_search.specs.declared.finder.TheConstants.{MOST_DEPTH}
use Rattle.entail_search.proofs.Ranges.{within_in_range}
use Rattle.entail_text.proofs.FoundLaws.{is_suggested, is_valid_one}
use Rattle.entail_text.specs.Findings.{Finding, broken, found_for, neither, shown}
use Rattle.typing_law.specs.ThreadEntailments.{PlacedEntailment, entailment_among, thread_entailments}
use Rattle.deeper_text.specs.DeeperText.{Found, IsValidChoice, all_found, chosen_among, found_by, found_of, found_where}
use Rattle.deeper_text.specs.Inside.{AreOfThreads}

-- Certificates --------------------------------------------------------------------------------------------------

found_in_range : (n locks : ℕ) (hyps : List Term) (goal : Term) (c : Cert) → IsOfWordsBelow n (record { hyps = hyps; goal = goal }) → found_for hyps goal ≡ shown c → IsCertInRange n locks c
found_in_range n locks hyps goal c r h = elim (is_suggested hyps goal c h) [
  | inl found ↦
      (class_in_range n locks MOST_DEPTH hyps goal c (all_in_range n hyps r.hyps_below r.hyp_words) (in_range_of n goal r.goal_below r.goal_words) found.in_class).0
  | inr sound ↦ (within_in_range n locks hyps goal c r.hyps_below r.hyp_words r.goal_below r.goal_words sound.within).0
]

-- What is found -------------------------------------------------------------------------------------------------

-- What is so of an entailment that is listed, with what is found for it.
abbrev IsOf : (gs : List PlacedEntailment) → (t place number : ℕ) → PlacedEntailment → Type 0
IsOf gs t place number g = Contains gs g × (g.place ≡ place) × (g.number ≡ number)

among_is : (gs : List PlacedEntailment) (t place number : ℕ) (g : PlacedEntailment) → entailment_among gs place number ≡ Some g → IsOf gs t place number g
among_is [] t place number g h = let f : ◌≡◌ {A = Option PlacedEntailment} None (Some g) = h in absurd cc
among_is (x ∷ gs) t place number g h = go (x.place == place && x.number == number) refl h (among_is gs t place number g)
  where
    go : (b : Bool) → (x.place == place && x.number == number) ≡ b → (if b then Some x else entailment_among gs place number) ≡ Some g
        → (entailment_among gs place number ≡ Some g → IsOf gs t place number g) → IsOf (x ∷ gs) t place number g
    go true is k rest =
        let same : x ≡ g = cc in
        let both = and_parts (x.place == place) (x.number == number) is in
        subst (IsOf (x ∷ gs) t place number) same (Contains-append_left (x ∷ []) gs x (Contains-push [] x), eqb-true x.place place both.0, eqb-true x.number number both.1)
    go false is k rest = let r = rest k in (Contains-append_right (x ∷ []) gs g r.0, r.1, r.2)

-- What is so of each listed entailment and of what is found for it, is so of each that is found.
module _ (p : Program) (P : Found → Type 0)
    (each : (t place number : ℕ) (g : PlacedEntailment) (c : Cert) → t < length p.threads → IsOf (thread_entailments p t) t place number g
    → found_for g.entailment.hyps g.entailment.goal ≡ shown c → P (record { thread = t; place = place; number = number; cert = c })) where
  found_have : (o : Open) → All P (found_of p o)
  found_have o = go (nat_lt o.thread (length p.threads)) refl
    where
      by_finding : (g : PlacedEntailment) → o.thread < length p.threads → IsOf (thread_entailments p o.thread) o.thread o.place o.number g
          → (f : Finding) → found_for g.entailment.hyps g.entailment.goal ≡ f → All P (found_by o f)
      by_finding g inside is (shown c) e =
          All-cons P (record { thread = o.thread; place = o.place; number = o.number; cert = c }) [] (each o.thread o.place o.number g c inside is e) (All-nil P)
      by_finding g inside is (broken m) e = All-nil P
      by_finding g inside is neither e = All-nil P

      by_listed : o.thread < length p.threads → (e : Option PlacedEntailment) → entailment_among (thread_entailments p o.thread) o.place o.number ≡ e → All P (found_where o e)
      by_listed inside None h = All-nil P
      by_listed inside (Some g) h =
          by_finding g inside (among_is (thread_entailments p o.thread) o.thread o.place o.number g h) (found_for g.entailment.hyps g.entailment.goal) refl

      go : (b : Bool) → nat_lt o.thread (length p.threads) ≡ b
          → All P (if b then found_where o (entailment_among (thread_entailments p o.thread) o.place o.number) else [])
      go true h = by_listed (ltb-true o.thread (length p.threads) h) (entailment_among (thread_entailments p o.thread) o.place o.number) refl
      go false h = All-nil P

  all_found_have : (os : List Open) → All P (all_found p os)
  all_found_have [] = All-nil P
  all_found_have (o ∷ os) = All-append P (found_of p o) (all_found p os) (found_have o) (all_found_have os)

-- What is chosen ------------------------------------------------------------------------------------------------

-- what is so of each that is found, is so of what is chosen at its place
chosen_have : (t place : ℕ) (Q : ℕ × Cert → Type 0) (fs : List Found) → All (λ (f : Found). f.thread ≡ t → f.place ≡ place → Q (f.number, f.cert)) fs → All Q (chosen_among fs t place)
chosen_have t place Q [] h = All-nil Q
chosen_have t place Q (f ∷ fs) h =
    All-append Q (if f.thread == t && f.place == place then (f.number, f.cert) ∷ [] else []) (chosen_among fs t place)
    (go (f.thread == t && f.place == place) refl)
    (chosen_have t place Q fs (All-tail (λ (f : Found). f.thread ≡ t → f.place ≡ place → Q (f.number, f.cert)) f fs h))
  where
    go : (b : Bool) → (f.thread == t && f.place == place) ≡ b → All Q (if b then (f.number, f.cert) ∷ [] else [])
    go true is =
        let both = and_parts (f.thread == t) (f.place == place) is in
        All-cons Q (f.number, f.cert) []
        (All-head (λ (f : Found). f.thread ≡ t → f.place ≡ place → Q (f.number, f.cert)) f fs h (eqb-true f.thread t both.0) (eqb-true f.place place both.1)) (All-nil Q)
    go false is = All-nil Q

pub of_threads : (p : Program) (os : List Open) → AreOfThreads (length p.threads) (all_found p os)
of_threads p os = all_found_have p (λ f. f.thread < length p.threads) (λ t place number g c inside is h. inside) os

pub chosen_in_range : (p : Program) → IsWellFormed p → (os : List Open) (t place : ℕ)
    → All (λ c. IsCertInRange (length p.vars) (length p.locks) c.1) (chosen_among (all_found p os) t place)
chosen_in_range p formed os t place =
    chosen_have t place (λ c. IsCertInRange (length p.vars) (length p.locks) c.1) (all_found p os)
    (all_found_have p (λ f. f.thread ≡ t → f.place ≡ place → IsCertInRange (length p.vars) (length p.locks) f.cert)
    (λ u at number g c inside is h e i. found_in_range (length p.vars) (length p.locks) g.entailment.hyps g.entailment.goal c (below u g is.0) h) os)
  where
    below : (u : ℕ) (g : PlacedEntailment) → Contains (thread_entailments p u) g → IsOfWordsBelow (length p.vars) g.entailment
    below u g there = All-contains (λ g. IsOfWordsBelow (length p.vars) g.entailment) (thread_entailments p u) g (listed_in_range p formed u) there

pub chosen_valid : (p : Program) (os : List Open) (t place : ℕ) → All (IsValidChoice p t place) (chosen_among (all_found p os) t place)
chosen_valid p os t place =
    chosen_have t place (IsValidChoice p t place) (all_found p os)
    (all_found_have p (λ f. f.thread ≡ t → f.place ≡ place → IsValidChoice p t place (f.number, f.cert))
    (λ u at number g c inside is h e i. record {
      of = g;
      listed = subst (λ v. Contains (thread_entailments p v) g) e is.0;
      place_is = is.1 ∙ i;
      number_is = is.2;
      valid = is_valid_one g.entailment.hyps g.entailment.goal c h;
    }) os)

-- past the last thread nothing is chosen
pub none_past : (n : ℕ) (fs : List Found) → AreOfThreads n fs → (t place : ℕ) → n ≤ t → chosen_among fs t place ≡ []
none_past n [] h t place past = refl
none_past n (f ∷ fs) h t place past =
    let inside : f.thread < n = All-head (λ (f : Found). f.thread < n) f fs h in
    let other : (f.thread == t) ≡ false = ne_eqb f.thread t (λ e. omega (arith, inside, past, e)) in
    ap (λ b. (if b && f.place == place then (f.number, f.cert) ∷ [] else []) ++ chosen_among fs t place) other
    ∙ none_past n fs (All-tail (λ (f : Found). f.thread < n) f fs h) t place past

-- what is found for one, in front of what is found for others
pub chosen_split : (f : Found) (fs : List Found) (t place : ℕ) → chosen_among (f ∷ fs) t place ≡ chosen_among (f ∷ []) t place ++ chosen_among fs t place
chosen_split f fs t place = go (f.thread == t && f.place == place)
  where
    go : (b : Bool) → (if b then (f.number, f.cert) ∷ [] else []) ++ chosen_among fs t place
        ≡ ((if b then (f.number, f.cert) ∷ [] else []) ++ []) ++ chosen_among fs t place
    go true = refl
    go false = refl
