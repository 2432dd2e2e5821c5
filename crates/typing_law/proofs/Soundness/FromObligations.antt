-- Obligations of a thread that all hold give the conditions of its rules.
use Rattle.std.proofs.Common.{◌≡◌, ◌⊎◌, ℕ, suc, ◌<◌, ◌==◌, ◌||◌, ◌&&◌, not, List, [], ◌∷◌, ◌++◌, length, map, filter, Bool, true, false, cond, Option, Some, None, refl, sym, ap, subst, arith, IsTrue, inl, inr, ⊎_elim, eq-eqb, eqb-true, option_to_list, All}
use Rattle.std.proofs.lemmas.Bool.{or_cases, or_left, or_right, and_from, cases_lt}
use Rattle.std.specs.List.{range_with_len}
use Rattle.std.proofs.lemmas.List.{get_or_past}
use Rattle.std.proofs.lemmas.List.Elements.{All-head, All-tail}
use Rattle.cov_expr.specs.Entailment.{Entails}
use Rattle.cov_expr.specs.Term.{Term}
use Rattle.cov_expr.specs.Trees.{has_number, mentions, vars}
use Rattle.cov_expr.specs.Trees as trees
use Rattle.cov_expr.proofs.Tests.{left_true, right_true}
use Rattle.cov_ast.specs.Declarations.{class_of, invariant_term, is_control, no_var}
use Rattle.cov_ast.specs.Obligations.{Obligation, all_hold}
use Rattle.cov_ast.specs.Plain.{Plain, class_term}
use Rattle.cov_ast.specs.Syntax.{State, Proof, assign}
use Rattle.cov_ast.specs.WellFormed.{IsStmInRange, CertHasWords, StmHasWords}
use Rattle.cov_ast.specs.declared.refusal.Rule.TheVariants.{V1, V5}
use Rattle.entail_cert.proofs.Instances.{valid_entails}
use Rattle.entail_cert.proofs.Truth.{all_both}
use Rattle.mode_state.specs.Sets.{is_stable, is_hidden, may_read}
use Rattle.mode_state.proofs.HeldLaws.{any_from}
use Rattle.point_law.specs.Point.{Point, type_at, ty, ty_var, vars_of, is_tracked, is_over_stable, is_over_controls}
use Rattle.typing_law.specs.Blocks.{value_type}
use Rattle.typing_law.specs.Entailments.{Entailment, from_preds, from_one_more, cert_for, is_proved, type_follows, state_follows, written_type, shown_value, shown_controlled, controlled_follows, controlled_values, retype_follows, assign_entailments}
use Rattle.typing_law.specs.ThreadObligations.{flat, of_var, reads, one_unstable, narrow, guard_obligations, over_stable, type_obligations, state_obligations, proved, assign_parts}
use Rattle.typing_law.proofs.Soundness.Conditions.{Each, EachType, Gives, StateFollows, AssignChecks, GuardChecks, StateOver}
use Rattle.typing_law.proofs.Soundness.Exprs.{one_holds}
use Rattle.typing_law.proofs.Soundness.Lists.{in_vars}
use Rattle.typing_law.proofs.Soundness.Static.{clash, cond_is}

-- Lists --------------------------------------------------------------------------------------------------------

abbrev pub AllTrue : List Obligation → Type 0
AllTrue [] = Unit {0}
AllTrue (e ∷ es) = IsTrue e.holds × AllTrue es

pub all_true : (es : List Obligation) → IsTrue (all_hold es) → AllTrue es
all_true [] h = tt
all_true (e ∷ es) h = (left_true e.holds (all_hold es) h, all_true es (right_true e.holds (all_hold es) h))

pub true_left : (a b : List Obligation) → AllTrue (a ++ b) → AllTrue a
true_left [] b h = tt
true_left (e ∷ a) b h = (h.0, true_left a b h.1)

pub true_right : (a b : List Obligation) → AllTrue (a ++ b) → AllTrue b
true_right [] b h = h
true_right (e ∷ a) b h = true_right a b h.1

-- of a number that is listed
pub obligation_holds : (f : ℕ → Obligation) (xs : List ℕ) (x : ℕ) → AllTrue (map f xs) → IsTrue (has_number xs x) → IsTrue (f x).holds
obligation_holds f [] x h k = absurd (let c : false ≡ true = k in cc)
obligation_holds f (y ∷ ys) x h k =
    ⊎_elim (λ e. subst (λ z. IsTrue (f z).holds) (eqb-true y x e) h.0) (λ e. obligation_holds f ys x h.1 e) (or_cases (y == x) (has_number ys x) k)

pub in_filter : (f : ℕ → Bool) (xs : List ℕ) (x : ℕ) → IsTrue (has_number xs x) → IsTrue (f x) → IsTrue (has_number (filter f xs) x)
in_filter f [] x h k = absurd (let c : false ≡ true = h in cc)
in_filter f (y ∷ ys) x h k =
    ⊎_elim (λ e. let i : f y ≡ true = subst (λ z. IsTrue (f z)) (sym (eqb-true y x e)) k in
    subst (λ b. IsTrue (has_number (cond b (y ∷ filter f ys) (filter f ys)) x)) (sym i) (or_left _ _ e))
    (λ e. cond_is (λ (zs : List ℕ). IsTrue (has_number zs x)) (f y) (y ∷ filter f ys) (filter f ys)
    (λ _. or_right (y == x) _ (in_filter f ys x e k)) (λ _. in_filter f ys x e k))
    (or_cases (y == x) (has_number ys x) h)

pub in_range : (n x : ℕ) → x < n → IsTrue (has_number (range_with_len 0 n) x)
in_range n x lt = any_from (λ y. y == x) 0 n x (omega arith) (omega arith) (eq-eqb x x refl)

abbrev pub AllParts : List (List Obligation) → Type 0
AllParts [] = Unit {0}
AllParts (es ∷ ess) = AllTrue es × AllParts ess

pub parts : (ess : List (List Obligation)) → AllTrue (flat ess) → AllParts ess
parts [] h = tt
parts (es ∷ ess) h = (true_left es (flat ess) h, parts ess (true_right es (flat ess) h))

-- Entailments --------------------------------------------------------------------------------------------------

abbrev pub ProofsHaveWords : List Proof → Type 0
ProofsHaveWords proofs = All (λ q. CertHasWords q.cert) proofs

-- A proof with a valid certificate gives its entailment.
cert_words : (proofs : List Proof) (n : ℕ) → ProofsHaveWords proofs → CertHasWords (cert_for proofs n)
cert_words [] n w = tt
cert_words (q ∷ qs) n w =
    cond_is CertHasWords (q.number == n) q.cert (cert_for qs n) (λ _. All-head (λ o. CertHasWords o.cert) q qs w)
    (λ _. cert_words qs n (All-tail (λ o. CertHasWords o.cert) q qs w))

follows : (proofs : List Proof) (n : ℕ) (g : Entailment) → ProofsHaveWords proofs → IsTrue (is_proved proofs n g) → Entails g.hyps g.goal
follows proofs n g w v = valid_entails g.hyps g.goal (cert_for proofs n) (cert_words proofs n w) v

abbrev pub AllFollow : List Entailment → Type 0
AllFollow [] = Unit {0}
AllFollow (g ∷ gs) = Entails g.hyps g.goal × AllFollow gs

pub follow_left : (gs hs : List Entailment) → AllFollow (gs ++ hs) → AllFollow gs
follow_left [] hs h = tt
follow_left (g ∷ gs) hs h = (h.0, follow_left gs hs h.1)

pub follow_right : (gs hs : List Entailment) → AllFollow (gs ++ hs) → AllFollow hs
follow_right [] hs h = h
follow_right (g ∷ gs) hs h = follow_right gs hs h.1

-- of a number that is listed
pub listed_follows : (f : ℕ → Entailment) (xs : List ℕ) (x : ℕ) → AllFollow (map f xs) → IsTrue (has_number xs x) → Entails (f x).hyps (f x).goal
listed_follows f [] x h k = absurd (let c : false ≡ true = k in cc)
listed_follows f (y ∷ ys) x h k =
    ⊎_elim (λ e. subst (λ z. Entails (f z).hyps (f z).goal) (eqb-true y x e) h.0) (λ e. listed_follows f ys x h.1 e)
    (or_cases (y == x) (has_number ys x) k)

pub gives : (preds : List Term) (q goal : Term) → Entails (preds ++ q ∷ []) goal → Gives preds q goal
gives preds q goal h m w a b = h m w (all_both m preds (q ∷ []) a (b, tt))

-- what a state says
preds_follow : (preds gs : List Term) → AllFollow (map (from_preds preds) gs) → Each gs (λ g. Entails preds g)
preds_follow preds [] h = tt
preds_follow preds (g ∷ gs) h = (h.0, preds_follow preds gs h.1)

types_follow : (a : Point) (rs : List (ℕ × Term)) → AllFollow (map (type_follows a) rs) → EachType rs (λ z r. Gives a.preds r (type_at a z))
types_follow a [] h = tt
types_follow a (r ∷ rs) h = (gives a.preds r.1 (type_at a r.0) h.0, types_follow a rs h.1)

pub state_gives : (a : Point) (j : State) → AllFollow (state_follows a j) → StateFollows a j
state_gives a j h = record {
  preds = preds_follow a.preds j.preds (follow_left (map (from_preds a.preds) j.preds) (map (type_follows a) j.types) h);
  types = types_follow a j.types (follow_right (map (from_preds a.preds) j.preds) (map (type_follows a) j.types) h);
}

each_type : (P R : ℕ → Term → Type 0) (rs : List (ℕ × Term)) → ((z : ℕ) (r : Term) → P z r → R z r) → EachType rs P → EachType rs R
each_type P R [] f h = tt
each_type P R (r ∷ rs) f h = (f r.0 r.1 h.0, each_type P R rs f h.1)

module _ (p : Plain) (t : ℕ) where
  -- A variable whose class mentions another is declared.
  declared_var : (y c : ℕ) → IsTrue (mentions (class_of p y) c) → y < length p.vars
  declared_var y c h = elim (cases_lt y (length p.vars)) [
    | inl lt ↦ lt
    | inr past ↦ clash (mentions (class_of p y) c) h (ap (λ v. mentions (class_term v.class) c) (get_or_past p.vars y no_var past))
  ]

  module _ (at : ℕ) where
    reads_of : (H : List Bool) (e : Term) → AllTrue (reads p t at H e) → (y : ℕ) → IsTrue (mentions e y) → IsTrue (may_read p t H y)
    reads_of H e h y n = obligation_holds (of_var p t at V1 (may_read p t H)) (vars e) y h (in_vars e y n)

    pub all_follow : (proofs : List Proof) (n : ℕ) (gs : List Entailment) → ProofsHaveWords proofs → AllTrue (proved p t at proofs n gs) → AllFollow gs
    all_follow proofs n [] w h = tt
    all_follow proofs n (g ∷ gs) w h = (follows proofs n g w h.0, all_follow proofs (suc n) gs w h.1)

    -- States ---------------------------------------------------------------------------------------------------

    preds_over : (H : List Bool) (es : List Term) → AllTrue (map (over_stable p t at H) es) → Each es (λ e. IsTrue (is_over_stable p t H e))
    preds_over H [] h = tt
    preds_over H (e ∷ es) h = (h.0, preds_over H es h.1)

    types_over : (test : ℕ → Bool) (H : List Bool) (before : List ℕ) (rs : List (ℕ × Term)) → AllTrue (type_obligations p t at test H before rs)
        → EachType rs (λ z r. IsTrue (test z) × IsTrue (is_over_controls p t H r))
    types_over test H before [] h = tt
    types_over test H before (r ∷ rs) h = ((left_true (test r.0) (not (has_number before r.0)) h.0, h.1.0), types_over test H (r.0 ∷ before) rs h.1.1)

    pub state_over : (H : List Bool) (j : State) → AllTrue (state_obligations p t at H j) → StateOver p t H j
    state_over H j h =
        let preds = map (over_stable p t at H) j.preds in
        let types = type_obligations p t at (is_tracked p t H) H [] j.types in
        record {
          preds = preds_over H j.preds (true_left preds types h);
          types = each_type _ _ j.types (λ z r k. k.1) (types_over (is_tracked p t H) H [] j.types (true_right preds types h));
        }

    -- Assignments ----------------------------------------------------------------------------------------------

    module _ (a : Point) (x : ℕ) (e : Term) (o : Option Term) (rs : List (ℕ × Term)) (h : AllFollow (assign_entailments p t a x e o rs)) where
      abbrev q : Term
      q = value_type p t a o e

      abbrev g1 : List Entailment
      g1 = written_type p t a e o

      abbrev g2 : List Entailment
      g2 = shown_value p t a x q

      abbrev g3 : List Entailment
      g3 = controlled_values p t a x e

      abbrev g4 : List Entailment
      g4 = map (retype_follows p t a x e) rs

      first : AllFollow g1
      first = follow_left g1 g2 (follow_left (g1 ++ g2) g3 (follow_left ((g1 ++ g2) ++ g3) g4 h))

      second : AllFollow g2
      second = follow_right g1 g2 (follow_left (g1 ++ g2) g3 (follow_left ((g1 ++ g2) ++ g3) g4 h))

      third : AllFollow g3
      third = follow_right (g1 ++ g2) g3 (follow_left ((g1 ++ g2) ++ g3) g4 h)

      fourth : AllFollow g4
      fourth = follow_right ((g1 ++ g2) ++ g3) g4 h

      typed : Gives a.preds q (ty p t a e)
      typed = go o first
        where
          go : (o : Option Term) → AllFollow (written_type p t a e o) → Gives a.preds (value_type p t a o e) (ty p t a e)
          go None k = λ m w i j. j
          go (Some r) k = gives a.preds r (ty p t a e) k.0

      shown : IsTrue (is_control p x) ⊎ (is_hidden p t a.held x ≡ false) → Gives a.preds (class_of p x) q
      shown c =
          let b : (is_control p x || not (is_hidden p t a.held x)) ≡ true =
          ⊎_elim (λ i. or_left _ _ i) (λ i. or_right (is_control p x) _ (ap not i)) c in
          gives a.preds (class_of p x) q (subst (λ b. AllFollow (cond b (from_one_more a.preds (class_of p x) q ∷ []) [])) b second).0

      controlled : IsTrue (is_control p x) → (y : ℕ) → IsTrue (mentions (class_of p y) x) → is_hidden p t a.held y ≡ false
          → Gives a.preds (trees.subst (class_of p y) x e) (ty_var p t a y)
      controlled c y n i =
          gives a.preds (trees.subst (class_of p y) x e) (ty_var p t a y)
          (listed_follows (controlled_follows p t a x e) (shown_controlled p t a x) y
          (subst (λ b. AllFollow (cond b (map (controlled_follows p t a x e) (shown_controlled p t a x)) [])) c third)
          (in_filter (λ y. mentions (class_of p y) x && not (is_hidden p t a.held y)) (vars_of p) y (in_range (length p.vars) y (declared_var y x n))
          (and_from (mentions (class_of p y) x) (not (is_hidden p t a.held y)) n (ap not i))))

      retypes_follow : (rs : List (ℕ × Term)) → AllFollow (map (retype_follows p t a x e) rs)
          → EachType rs (λ z r. Gives a.preds (trees.subst r x e) (type_at a z))
      retypes_follow [] k = tt
      retypes_follow (r ∷ rs) k = (gives a.preds (trees.subst r.1 x e) (type_at a r.0) k.0, retypes_follow rs k.1)

      retyped : EachType rs (λ z r. Gives a.preds (trees.subst r x e) (type_at a z))
      retyped = retypes_follow rs fourth

    pub assign_of : (a : Point) (x : ℕ) (e : Term) (o : Option Term) (rs : List (ℕ × Term)) (proofs : List Proof)
        → IsStmInRange (length p.vars) (length p.locks) (assign x e o rs)
        → StmHasWords (assign x e o rs) → ProofsHaveWords proofs → AllParts (assign_parts p t at a x e o rs proofs)
        → AssignChecks p t a x e (value_type p t a o e) rs
    assign_of a x e o rs proofs r w c h =
        let all = all_follow proofs 1 (assign_entailments p t a x e o rs) c h.1.1.1.1.1.1.1.1.1.0 in
        record {
          in_range = r.0;
          words = w.0;
          reads = reads_of a.held e h.0;
          writes = h.1.0.0;
          over = h.1.1.1.1.0.0;
          control_over = λ i y n.
              obligation_holds (of_var p t at V5 (is_stable p t a.held)) (vars e) y
              (subst (λ b. AllTrue (cond b (map (of_var p t at V5 (is_stable p t a.held)) (vars e)) [])) i h.1.1.1.1.1.0) (in_vars e y n);
          retypes_over = each_type _ _ rs (λ z r k. (left_true (is_control p x) (is_tracked p t a.held z) k.0, k.1))
              (types_over (λ z. is_control p x && is_tracked p t a.held z) a.held [] rs h.1.1.1.1.1.1.0);
          typed = typed a x e o rs all;
          shown = shown a x e o rs all;
          controlled = controlled a x e o rs all;
          retyped = retyped a x e o rs all;
        }

    -- The others -----------------------------------------------------------------------------------------------

    pub invariant_follows : (preds : List Term) (o : Option Term) → AllFollow (map (from_preds preds) (option_to_list o))
        → Entails preds (invariant_term o)
    invariant_follows preds None h = λ m w a. one_holds m
    invariant_follows preds (Some e) h = h.0

    pub guard_of : (a : Point) (e : Term) → AllTrue (guard_obligations p t at a.held e) → Entails a.preds (ty p t a e) → GuardChecks p t a e
    guard_of a e h k = record {
      reads = reads_of a.held e
          (true_left (reads p t at a.held e) (one_unstable p t at a.held e)
          (true_left (reads p t at a.held e ++ one_unstable p t at a.held e) (narrow p t at e) h));
      low = k;
    }
