-- Where the first obligation of a thread that doesn't hold asks that something follows, its entailment is among those that are
-- reached, and is the first with its place and number.
use Rattle.std.proofs.Common.{◌≡◌, ℕ, zero, suc, ◌+◌, ◌==◌, ◌&&◌, ◌||◌, List, [], ◌∷◌, map, take, Bool, true, false, cond, Option, Some, None, IsTrue, refl, sym, ap, ◌∙◌, subst, arith, eq-eqb, eqb-true}
use Rattle.std.proofs.lemmas.Bool.{and_parts, false_from_ne_true}
use Rattle.cov_ast.specs.Obligations.{Obligation, first_false}
use Rattle.cov_ast.specs.Plain.{plain}
use Rattle.cov_ast.specs.Syntax.{Program, Proof}
use Rattle.cov_ast.specs.WellFormed.{are_distinct, places}
use Rattle.cov_ast.specs.declared.refusal.Detail.TheVariants.{Number}
use Rattle.cov_ast.specs.declared.refusal.Refusal.{Refusal}
use Rattle.cov_ast.specs.declared.refusal.Rule.TheVariants.{V9}
use Rattle.mode_compat.specs.Compatible.{numbered}
use Rattle.point_law.specs.After.{start}
use Rattle.typing_law.specs.Counts.{entailment_count, is_entailment}
use Rattle.typing_law.specs.Entailments.{is_proved}
use Rattle.typing_law.specs.ThreadEntailments.{PlacedEntailment, all_entailments, entailment_among, is_about_certificates, is_passed, reached, reached_entailments}
use Rattle.typing_law.specs.ThreadObligations.{block_obligations, end_obligation, end_point, thread_obligations}
use Rattle.typing_law.proofs.Counting.{count_cons}
use Rattle.entail_refused.specs.RefusedEntailment.{NamesUnproved}
use Rattle.entail_refused.proofs.Asks.{Ask, ask, asks, asks_before, ask_of, block_step}
use Rattle.entail_refused.proofs.GivenProofs.{all_given, given_at, unproved_as_given}
use Rattle.entail_refused.proofs.OnceListed.{AreOnce, IsAbsent, block_once}

-- a refusal of a thread names the first such of some entailments, and it isn't proved
record Names (given : ℕ → List Proof) (t : ℕ) (gs : List PlacedEntailment) (r : Refusal) : Type 0 where
  pub of_thread : r.thread ≡ Some t
  pub named : PlacedEntailment
  pub placed : named.place ≡ r.place
  pub counted : r.detail ≡ Number named.number
  pub first : entailment_among gs r.place named.number ≡ Some named
  pub unproved : is_proved (given named.place) named.number named.entailment ≡ false

-- none of the first ones has a place and a number, where none of all has them
absent_taken : (k : ℕ) (gs : List PlacedEntailment) (x n : ℕ) → IsAbsent gs x n → IsAbsent (take k gs) x n
absent_taken zero gs x n h = refl
absent_taken (suc k) [] x n h = refl
absent_taken (suc k) (g ∷ gs) x n h = go (λ e. absent_taken k gs x n e) (g.place == x && g.number == n) h
  where
    go : (IsAbsent gs x n → IsAbsent (take k gs) x n) → (b : Bool) → cond b (Some g) (entailment_among gs x n) ≡ None
        → cond b (Some g) (entailment_among (take k gs) x n) ≡ None
    go rest true h = h
    go rest false h = rest h

module _ (given : ℕ → List Proof) (t : ℕ) where
  -- the first is named
  names_first : (g : PlacedEntailment) (gs : List PlacedEntailment) (e : Obligation) → ask e ≡ ask_of given t g → e.holds ≡ false
      → Names given t (g ∷ gs) e.refusal
  names_first g gs e is fails =
      let at : g.place ≡ e.refusal.place = sym (ap (λ (k : Ask). k.1) is) in
      let same : (g.place == e.refusal.place && g.number == g.number) ≡ true =
      (λ i. eq-eqb g.place e.refusal.place at i && eq-eqb g.number g.number refl i) in
      record {
        of_thread = ap (λ (k : Ask). k.0) is;
        named = g;
        placed = at;
        counted = ap (λ (k : Ask). k.2) is;
        first = ap (λ b. cond b (Some g) (entailment_among gs e.refusal.place g.number)) same;
        unproved = sym (ap (λ (k : Ask). k.3) is) ∙ fails;
      }

  -- what is named stands behind another one
  names_later : (g : PlacedEntailment) (gs : List PlacedEntailment) (k : ℕ) (r : Refusal) → IsAbsent gs g.place g.number → Names given t (take k gs) r
      → Names given t (g ∷ take k gs) r
  names_later g gs k r once h =
      let other : (g.place == r.place && g.number == h.named.number) ≡ false =
      false_from_ne_true (g.place == r.place && g.number == h.named.number)
      (λ e.
      let both = and_parts (g.place == r.place) (g.number == h.named.number) e in
      let there : IsAbsent gs r.place h.named.number =
      subst (λ (q : ℕ × ℕ). IsAbsent gs q.0 q.1) (λ i. (eqb-true g.place r.place both.0 i, eqb-true g.number h.named.number both.1 i)) once in
      let none = absent_taken k gs r.place h.named.number there in
      let no : ◌≡◌ {A = Option PlacedEntailment} None (Some h.named) = sym none ∙ h.first in cc) in
      record {
        of_thread = h.of_thread;
        named = h.named;
        placed = h.placed;
        counted = h.counted;
        first = ap (λ b. cond b (Some g) (entailment_among (take k gs) r.place h.named.number)) other ∙ h.first;
        unproved = h.unproved;
      }

  -- an obligation that is passed, and what of its entailments and of those behind it is reached
  module _ (e : Obligation) (es : List Obligation) (passed : is_passed e ≡ true) where
    reached_more : is_entailment e.refusal.rule ≡ true → (g : PlacedEntailment) (gs : List PlacedEntailment)
        → reached_entailments (e ∷ es) (g ∷ gs) ≡ g ∷ reached_entailments es gs
    reached_more asked g gs =
        let one : entailment_count (e ∷ []) ≡ 1 = ap (λ s. 0 + cond s 1 0) asked in
        let more : entailment_count (e ∷ reached es) ≡ suc (entailment_count (reached es)) = omega (arith, count_cons e (reached es), one) in
        ap (λ v. take (entailment_count (cond v (e ∷ reached es) [])) (g ∷ gs)) passed ∙ ap (λ k. take k (g ∷ gs)) more

    reached_same : is_entailment e.refusal.rule ≡ false → (a : List PlacedEntailment) → reached_entailments (e ∷ es) a ≡ reached_entailments es a
    reached_same asked a =
        let one : entailment_count (e ∷ []) ≡ 0 = ap (λ s. 0 + cond s 1 0) asked in
        let same : entailment_count (e ∷ reached es) ≡ entailment_count (reached es) = omega (arith, count_cons e (reached es), one) in
        ap (λ v. take (entailment_count (cond v (e ∷ reached es) [])) a) passed ∙ ap (λ k. take k a) same

  abbrev Failing : List Obligation → List PlacedEntailment → Refusal → Type 0
  Failing o a r = asks o ≡ map (ask_of given t) a → AreOnce a → first_false o ≡ Some r → Names given t (reached_entailments o a) r

  module _ (e : Obligation) (es : List Obligation) (r : Refusal) (rule : r.rule ≡ V9) where
    -- the obligation fails
    fails_here : e.holds ≡ false → is_entailment e.refusal.rule ≡ true → e.refusal ≡ r → (a : List PlacedEntailment)
        → ask e ∷ asks es ≡ map (ask_of given t) a → Names given t (reached_entailments (e ∷ es) a) r
    fails_here fails asked is [] step = let no : ◌≡◌ {A = List Ask} (ask e ∷ asks es) [] = step in cc
    fails_here fails asked is (g ∷ gs) step =
        let passed : is_passed e ≡ true = (λ i. fails i || is_about_certificates ((ap (λ q. q.rule) is ∙ rule) i)) in
        let own : ask e ≡ ask_of given t g = cc in
        subst (λ q. Names given t (reached_entailments (e ∷ es) (g ∷ gs)) q) is
        (subst (λ l. Names given t l e.refusal) (sym (reached_more e es passed asked g gs))
        (names_first g (reached_entailments es gs) e own fails))

    -- the obligation holds, and a later one fails
    fails_later : ((a : List PlacedEntailment) → Failing es a r) → e.holds ≡ true → (asked : Bool) → is_entailment e.refusal.rule ≡ asked → (a : List PlacedEntailment)
        → cond asked (ask e ∷ asks es) (asks es) ≡ map (ask_of given t) a → AreOnce a → first_false es ≡ Some r
        → Names given t (reached_entailments (e ∷ es) a) r
    fails_later rest holds true asked [] step once h =
        let no : ◌≡◌ {A = List Ask} (ask e ∷ asks es) [] = step in cc
    fails_later rest holds true asked (g ∷ gs) step once h =
        let passed : is_passed e ≡ true = ap (λ b. b || is_about_certificates e.refusal.rule) holds in
        let behind : asks es ≡ map (ask_of given t) gs = cc in
        subst (λ l. Names given t l r) (sym (reached_more e es passed asked g gs))
        (names_later g gs (entailment_count (reached es)) r once.0 (rest gs behind once.1 h))
    fails_later rest holds false asked a step once h =
        let passed : is_passed e ≡ true = ap (λ b. b || is_about_certificates e.refusal.rule) holds in
        subst (λ l. Names given t l r) (sym (reached_same e es passed asked a)) (rest a step once h)

    fails_on : ((a : List PlacedEntailment) → Failing es a r) → (holds asked : Bool) → e.holds ≡ holds → is_entailment e.refusal.rule ≡ asked → (a : List PlacedEntailment)
        → cond asked (ask e ∷ asks es) (asks es) ≡ map (ask_of given t) a → AreOnce a
        → cond holds (first_false es) (Some e.refusal) ≡ Some r → Names given t (reached_entailments (e ∷ es) a) r
    fails_on rest true asked holds by a step once h = fails_later rest holds asked by a step once h
    fails_on rest false true holds by a step once h = let is : e.refusal ≡ r = cc in fails_here holds by is a step
    fails_on rest false false holds by a step once h =
        let is : e.refusal ≡ r = cc in
        let no : ◌≡◌ {A = Bool} false true = sym by ∙ ap is_entailment (ap (λ q. q.rule) is ∙ rule) in cc

  failing : (o : List Obligation) (a : List PlacedEntailment) (r : Refusal) → r.rule ≡ V9 → Failing o a r
  failing [] a r rule = λ step once h. let no : ◌≡◌ {A = Option Refusal} None (Some r) = h in cc
  failing (e ∷ es) a r rule = λ step once h.
      fails_on e es r rule (λ b. failing es b r rule) e.holds (is_entailment e.refusal.rule) refl refl a step once h

-- Threads ----------------------------------------------------------------------------------------------------------------

-- the refusal of a thread for V9 names the entailment that isn't proved
pub refused_listed : (p : Program) (t : ℕ) → IsTrue (are_distinct (◌==◌) (places (numbered p t).body)) → (r : Refusal)
    → first_false (thread_obligations p t) ≡ Some r → r.rule ≡ V9 → NamesUnproved p t r
refused_listed p t differ r h rule =
    let body = (numbered p t).body in
    let from = start (plain p) t in
    let statements = block_obligations (plain p) t body from in
    let last = end_obligation (plain p) t (numbered p t).end (end_point p t).held ∷ [] in
    let step =
    asks_before statements last (map (ask_of (given_at body) t) (all_entailments p t)) refl (block_step (given_at body) t (plain p) body from (all_given body differ)) in
    let found = failing (given_at body) t (thread_obligations p t) (all_entailments p t) r rule step (block_once (plain p) t body from differ) h in
    record {
      of_thread = found.of_thread;
      named = found.named;
      placed = found.placed;
      counted = found.counted;
      first = found.first;
      unproved = unproved_as_given body found.named.place found.named.number found.named.entailment found.unproved;
    }
