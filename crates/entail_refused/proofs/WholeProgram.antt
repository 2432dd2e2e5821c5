-- Where a program is refused for V9, its declarations keep the rules, and a thread of it is refused.
use Rattle.std.proofs.Common.{◌≡◌, ℕ, zero, suc, ◌+◌, ◌<◌, ◌==◌, List, [], ◌∷◌, ◌++◌, length, map, nat_lt, Bool, true, false, cond, if◌then◌else◌, Option, Some, None, IsTrue, refl, sym, ap, ◌∙◌, arith, rules}
use Rattle.std.specs.List.{flat_map, range_with_len}
use Rattle.std.specs.Option.{option_or}
use Rattle.cov_expr.specs.Trees.{has_number, vars}
use Rattle.cov_ast.specs.Declarations.{have_guaranteed, invariant_term}
use Rattle.cov_ast.specs.Obligations.{Obligation, all_hold, distinct, first_false}
use Rattle.cov_ast.specs.Plain.{class_term}
use Rattle.cov_ast.specs.Syntax.{Lock, Program, Thread}
use Rattle.cov_ast.specs.WellFormed.{IsWellFormed}
use Rattle.cov_ast.specs.declared.refusal.Refusal.{Refusal}
use Rattle.cov_ast.specs.declared.refusal.Rule.TheVariants.{V9}
use Rattle.cov_ast.proofs.ObligationLaws.{first_false-append, none_refused}
use Rattle.lock_spec.specs.Locks.{invariant_obligation, invariant_obligations, listing_obligations, lock_obligations, w4_from}
use Rattle.mode_compat.specs.Compatible.{assumed_list, controls_of, mode_obligations, no_thread, numbered, threads_of, w6_obligation, w6_obligations, w7_obligation, w7_obligations, w8_obligation, w8_obligations, w9_obligation, w9_obligations, w9_other, w9_pair}
use Rattle.mode_compat.specs.Declared.{declaration_obligations}
use Rattle.policy_class.specs.Policy.{control_obligation, control_obligations, policy_obligations}
use Rattle.typing_law.specs.Counts.{is_entailment}
use Rattle.typing_law.specs.ThreadEntailments.{entailment_among, thread_entailments}
use Rattle.typing_law.specs.ThreadObligations.{thread_obligations}
use Rattle.typing_law.specs.Accepted.{program_obligations}
use Rattle.entail_refused.specs.Asked.{asked, entailment_in, lines_of_entailment}
use Rattle.entail_refused.specs.RefusedEntailment.{IsToldOf, NamesUnproved}
use Rattle.entail_refused.proofs.Asks.{Ask, ask, asks, asks-append}
use Rattle.entail_refused.proofs.RefusedListed.{refused_listed}

-- Declarations ask nothing to follow ------------------------------------------------------------------------------------

-- none of the obligations asks that something follows
abbrev AskNothing : List Obligation → Type 0
AskNothing es = asks es ≡ []

nothing-append : (a b : List Obligation) → AskNothing a → AskNothing b → AskNothing (a ++ b)
nothing-append a b h k = asks-append a b ∙ (λ i. h i ++ k i)

nothing_mapped : {X : Type 0} (f : X → Obligation) (xs : List X) → ((x : X) → is_entailment (f x).refusal.rule ≡ false) → AskNothing (map f xs)
nothing_mapped f [] h = refl
nothing_mapped f (x ∷ xs) h = ap (λ s. cond s (ask (f x) ∷ asks (map f xs)) (asks (map f xs))) (h x) ∙ nothing_mapped f xs h

nothing_of_each : {X : Type 0} (g : X → List Obligation) (xs : List X) → ((x : X) → AskNothing (g x)) → AskNothing (flat_map g xs)
nothing_of_each g [] h = refl
nothing_of_each g (x ∷ xs) h = nothing-append (g x) (flat_map g xs) (h x) (nothing_of_each g xs h)

module _ (p : Program) where
  policy_asks : AskNothing (policy_obligations p)
  policy_asks = nothing_of_each (control_obligations p) p.vars (λ v. nothing_mapped (control_obligation p v) (vars (class_term v.class)) (λ c. refl))

  listing_asks : (l : Lock) (before xs : List ℕ) → AskNothing (listing_obligations p l before xs)
  listing_asks l before [] = refl
  listing_asks l before (x ∷ xs) = listing_asks l (before ++ x ∷ []) xs

  w4_asks : (before : List ℕ) (ls : List Lock) → AskNothing (w4_from p before ls)
  w4_asks before [] = refl
  w4_asks before (l ∷ ls) =
      let listed = l.nowrite ++ l.hide in
      nothing-append (listing_obligations p l before listed) (w4_from p (before ++ listed) ls) (listing_asks l before listed) (w4_asks (before ++ listed) ls)

  lock_asks : AskNothing (lock_obligations p)
  lock_asks =
      nothing-append (w4_from p [] p.locks) (flat_map (invariant_obligations p) p.locks) (w4_asks [] p.locks)
      (nothing_of_each (invariant_obligations p) p.locks (λ l. nothing_mapped (invariant_obligation p l) (vars (invariant_term l.inv)) (λ y. refl)))

  w6_asks : AskNothing (flat_map (w6_obligations p) p.threads)
  w6_asks = nothing_of_each (w6_obligations p) p.threads (λ t. nothing_mapped (w6_obligation p t) (assumed_list t.modes) (λ x. refl))

  w7_asks : AskNothing (flat_map (w7_obligations p) p.locks)
  w7_asks =
      nothing_of_each (w7_obligations p) p.locks
      (λ l. nothing_of_each (λ x. map (w7_obligation p l x) (controls_of p x)) (l.nowrite ++ l.hide) (λ x. nothing_mapped (w7_obligation p l x) (controls_of p x) (λ c. refl)))

  w8_asks : AskNothing (flat_map (w8_obligations p) p.threads)
  w8_asks =
      nothing_of_each (w8_obligations p) p.threads
      (λ t. nothing_of_each (λ x. map (w8_obligation p t x) (controls_of p x)) (assumed_list t.modes) (λ x. nothing_mapped (w8_obligation p t x) (controls_of p x) (λ c. refl)))

  pair_asks : (t u : Thread) → AskNothing (w9_pair p t u)
  pair_asks t u =
      let met = λ (x : ℕ). w9_obligation p t u x (have_guaranteed u.modes x) in
      let hidden = λ (x : ℕ). w9_obligation p t u x (has_number u.modes.guarantee_hide x) in
      nothing-append (map met (distinct t.modes.assume_nowrite)) (map hidden (distinct t.modes.assume_hide))
      (nothing_mapped met (distinct t.modes.assume_nowrite) (λ x. refl)) (nothing_mapped hidden (distinct t.modes.assume_hide) (λ x. refl))

  other_asks : (t u : ℕ) → AskNothing (w9_other p t u)
  other_asks t u = go (t == u)
    where
      go : (b : Bool) → AskNothing (if b then [] else w9_pair p (numbered p t) (numbered p u))
      go true = refl
      go false = pair_asks (numbered p t) (numbered p u)

  w9_asks : AskNothing (flat_map (w9_obligations p) (threads_of p))
  w9_asks = nothing_of_each (w9_obligations p) (threads_of p) (λ t. nothing_of_each (w9_other p t) (threads_of p) (other_asks t))

  mode_asks : AskNothing (mode_obligations p)
  mode_asks =
      let w6 = flat_map (w6_obligations p) p.threads in
      let w7 = flat_map (w7_obligations p) p.locks in
      let w8 = flat_map (w8_obligations p) p.threads in
      let w9 = flat_map (w9_obligations p) (threads_of p) in
      nothing-append (w6 ++ w7 ++ w8) w9 (nothing-append (w6 ++ w7) w8 (nothing-append w6 w7 w6_asks w7_asks) w8_asks) w9_asks

  declarations_ask : AskNothing (declaration_obligations p)
  declarations_ask =
      nothing-append (policy_obligations p ++ lock_obligations p) (mode_obligations p)
      (nothing-append (policy_obligations p) (lock_obligations p) policy_asks lock_asks) mode_asks

-- Which thread is refused ----------------------------------------------------------------------------------------------

-- a refusal for V9 comes from behind obligations that ask nothing to follow, which hold
refused_behind : (o rest : List Obligation) (r : Refusal) → r.rule ≡ V9 → AskNothing o → first_false (o ++ rest) ≡ Some r
    → (first_false o ≡ None) × (first_false rest ≡ Some r)
refused_behind [] rest r rule none h = (refl, h)
refused_behind (e ∷ es) rest r rule none h = go (λ k. refused_behind es rest r rule k) e.holds (is_entailment e.refusal.rule) refl none h
  where
    go : (AskNothing es → first_false (es ++ rest) ≡ Some r → (first_false es ≡ None) × (first_false rest ≡ Some r)) → (holds asked : Bool)
        → is_entailment e.refusal.rule ≡ asked → cond asked (ask e ∷ asks es) (asks es) ≡ [] → cond holds (first_false (es ++ rest)) (Some e.refusal) ≡ Some r
        → (cond holds (first_false es) (Some e.refusal) ≡ None) × (first_false rest ≡ Some r)
    go behind holds true by none h = let no : ◌≡◌ {A = List Ask} (ask e ∷ asks es) [] = none in cc
    go behind true false by none h = behind none h
    go behind false false by none h =
        let is : e.refusal ≡ r = cc in
        let no : ◌≡◌ {A = Bool} false true = sym by ∙ ap is_entailment (ap (λ q. q.rule) is ∙ rule) in cc

-- one of several lists of obligations, by their numbers, is refused
record RefusesOne (g : ℕ → List Obligation) (end : ℕ) (r : Refusal) : Type 0 where
  pub which : ℕ
  pub inside : which < end
  pub refuses : first_false (g which) ≡ Some r

one_refused : (g : ℕ → List Obligation) (from n : ℕ) (r : Refusal) → first_false (flat_map g (range_with_len from n)) ≡ Some r → RefusesOne g (from + n) r
one_refused g from zero r h = let no : ◌≡◌ {A = Option Refusal} None (Some r) = h in cc
one_refused g from (suc n) r h =
    go (λ k. one_refused g (from + 1) n r k) (first_false (g from)) refl
    (sym (first_false-append (g from) (flat_map g (range_with_len (from + 1) n))) ∙ h)
  where
    go : (first_false (flat_map g (range_with_len (from + 1) n)) ≡ Some r → RefusesOne g (from + 1 + n) r) → (o : Option Refusal) → first_false (g from) ≡ o
        → option_or o (first_false (flat_map g (range_with_len (from + 1) n))) ≡ Some r → RefusesOne g (from + suc n) r
    go behind None is h =
        let later = behind h in
        record { which = later.which; inside = omega (arith, later.inside); refuses = later.refuses }
    go behind (Some q) is h = record { which = from; inside = omega arith; refuses = is ∙ h }

-- What is told ----------------------------------------------------------------------------------------------------------

told_of_named : (p : Program) (bytes : List ℕ) (t : ℕ) (r : Refusal) → t < length p.threads → IsTrue (all_hold (declaration_obligations p)) → r.rule ≡ V9 → (names : NamesUnproved p t r)
    → asked p bytes r.rule r.thread r.place r.detail ≡ lines_of_entailment p bytes t (Some names.named)
told_of_named p bytes t r inside declared rule names =
    let n = names.named.number in
    let found = entailment_among (thread_entailments p t) r.place n in
    let there : nat_lt t (length p.threads) ≡ true = search (rules, arith) in
    (λ i. asked p bytes (rule i) (names.of_thread i) r.place (names.counted i))
    ∙ ap (λ b. if b then lines_of_entailment p bytes t (entailment_in p t r.place n) else []) there
    ∙ ap (λ b. lines_of_entailment p bytes t (if b then found else None)) declared
    ∙ ap (lines_of_entailment p bytes t) names.first

pub refusal_told_of : (p : Program) → (bytes : List ℕ) → IsWellFormed p → (r : Refusal) → first_false (program_obligations p) ≡ Some r → r.rule ≡ V9 → IsToldOf p bytes r
refusal_told_of p bytes formed r h rule =
    let parts = refused_behind (declaration_obligations p) (flat_map (thread_obligations p) (threads_of p)) r rule (declarations_ask p) h in
    let one = one_refused (thread_obligations p) 0 (length p.threads) r parts.1 in
    let inside : one.which < length p.threads = omega (arith, one.inside) in
    let names = refused_listed p one.which (formed.bodies one.which no_thread inside).places_differ r one.refuses rule in
    record {
      thread = one.which;
      inside = inside;
      names = names;
      told = told_of_named p bytes one.which r inside (none_refused (declaration_obligations p) parts.0) rule names;
    }
