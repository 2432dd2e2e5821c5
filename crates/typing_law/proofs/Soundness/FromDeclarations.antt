-- Obligations of declarations that all hold give what the proofs ask of declarations.
use Rattle.std.proofs.Common.{◌≡◌, ◌⊎◌, ℕ, zero, suc, ◌<◌, ◌==◌, ◌||◌, List, [], ◌∷◌, ◌++◌, length, map, get_or, Bool, true, false, refl, sym, ap, subst, arith, IsTrue, inl, inr, ⊎_elim, eqb-true}
use Rattle.std.proofs.lemmas.Bool.{or_cases, or_left, or_right, not-true, false_from_ne_true, cases_lt}
use Rattle.std.specs.List.{flat_map, list_any, list_all}
use Rattle.std.proofs.lemmas.List.{get_or-map, get_or_past, length-map}
use Rattle.cov_expr.specs.Trees.{has_number, mentions, vars}
use Rattle.cov_expr.proofs.Tests.{left_true, right_true}
use Rattle.cov_ast.specs.Declarations.{assumes, assumes_hide, class_of, have_assumed, invariant_of, invariant_term, is_plain_low, lists, lock_at, modes_of, no_lock, no_thread, under}
use Rattle.cov_ast.specs.Obligations.{Obligation, all_hold, distinct}
use Rattle.cov_ast.specs.Plain.{plain, plain_thread, class_term}
use Rattle.cov_ast.specs.Syntax.{Lock, Program, Var}
use Rattle.policy_class.specs.Policy.{policy_obligations, control_obligation, control_obligations}
use Rattle.lock_spec.specs.Locks.{listing_obligations, w4_from, invariant_obligation, invariant_obligations}
use Rattle.mode_compat.specs.Compatible.{assumed_list, is_locked, controls_of, all_assume, w6_obligation, w6_obligations, w7_obligation, w7_obligations, w8_obligation, w8_obligations, w9_obligations, threads_of, numbered, mode_obligations}
use Rattle.mode_compat.specs.Compatible as rules
use Rattle.mode_compat.specs.Declared.{IsDeclared, declaration_obligations}
use Rattle.mode_compat.proofs.Apart.{in_distinct, listing_is_declared}
use Rattle.mode_compat.proofs.Apart as apart
use Rattle.typing_law.proofs.Soundness.FromObligations.{AllTrue, all_true, true_left, true_right, obligation_holds}
use Rattle.typing_law.proofs.Soundness.Lists.{has_left, has_right, in_vars}
use Rattle.typing_law.proofs.Soundness.Static.{clash}

-- Lists --------------------------------------------------------------------------------------------------------

-- of an item by its place
item_true : {X : Type 0} (g : X → List Obligation) (xs : List X) (i : ℕ) (d : X) → i < length xs → AllTrue (flat_map g xs) → AllTrue (g (get_or xs i d))
item_true g [] i d lt h = absurd (omega arith)
item_true g (x ∷ xs) zero d lt h = true_left (g x) (flat_map g xs) h
item_true g (x ∷ xs) (suc i) d lt h = item_true g xs i d (omega arith) (true_right (g x) (flat_map g xs) h)

-- of a number that is listed
number_true : (g : ℕ → List Obligation) (xs : List ℕ) (x : ℕ) → AllTrue (flat_map g xs) → IsTrue (has_number xs x) → AllTrue (g x)
number_true g [] x h k = absurd (let c : false ≡ true = k in cc)
number_true g (y ∷ ys) x h k =
    ⊎_elim (λ e. subst (λ z. AllTrue (g z)) (eqb-true y x e) (true_left (g y) (flat_map g ys) h))
    (λ e. number_true g ys x (true_right (g y) (flat_map g ys) h) e)
    (or_cases (y == x) (has_number ys x) k)

has_either : (a b : List ℕ) (x : ℕ) → IsTrue (has_number a x || has_number b x) → IsTrue (has_number (a ++ b) x)
has_either a b x h = ⊎_elim (λ i. has_left a b x i) (λ i. has_right a b x i) (or_cases (has_number a x) (has_number b x) h)

any_at : {X : Type 0} (f : X → Bool) (xs : List X) (i : ℕ) (d : X) → i < length xs → IsTrue (f (get_or xs i d)) → IsTrue (list_any f xs)
any_at f [] i d lt h = absurd (omega arith)
any_at f (x ∷ xs) zero d lt h = or_left _ _ h
any_at f (x ∷ xs) (suc i) d lt h = or_right (f x) _ (any_at f xs i d (omega arith) h)

all_at : {X : Type 0} (f : X → Bool) (xs : List X) (i : ℕ) (d : X) → i < length xs → IsTrue (list_all f xs) → IsTrue (f (get_or xs i d))
all_at f [] i d lt h = absurd (omega arith)
all_at f (x ∷ xs) zero d lt h = left_true (f x) (list_all f xs) h
all_at f (x ∷ xs) (suc i) d lt h = all_at f xs i d (omega arith) (right_true (f x) (list_all f xs) h)

-- Each variable in one list of one lock ------------------------------------------------------------------------

listed_of : (l : Lock) (x : ℕ) → IsTrue (lists l x) → IsTrue (has_number (l.nowrite ++ l.hide) x)
listed_of l x h = has_either l.nowrite l.hide x h

module _ (p : Program) where
  -- what was named before isn't named again
  not_again : (l : Lock) (before xs : List ℕ) (x : ℕ) → AllTrue (listing_obligations p l before xs) → IsTrue (has_number before x)
      → IsTrue (has_number xs x) → ⊥
  not_again l before [] x h b k = let c : false ≡ true = k in cc
  not_again l before (y ∷ ys) x h b k =
      ⊎_elim (λ e. clash (has_number before x) b (subst (λ z. has_number before z ≡ false) (eqb-true y x e) (not-true (has_number before y) h.0)))
      (λ e. not_again l (before ++ y ∷ []) ys x h.1 (has_left before (y ∷ []) x b) e) (or_cases (y == x) (has_number ys x) k)

  not_listed : (before : List ℕ) (ls : List Lock) (l x : ℕ) → AllTrue (w4_from p before ls) → IsTrue (has_number before x)
      → IsTrue (lists (get_or ls l no_lock) x) → ⊥
  not_listed before [] l x h b k = let c : false ≡ true = k in cc
  not_listed before (k ∷ ls) zero x h b i =
      let names = k.nowrite ++ k.hide in
      not_again k before names x (true_left (listing_obligations p k before names) (w4_from p (before ++ names) ls) h) b (listed_of k x i)
  not_listed before (k ∷ ls) (suc l) x h b i =
      let names = k.nowrite ++ k.hide in
      not_listed (before ++ names) ls l x (true_right (listing_obligations p k before names) (w4_from p (before ++ names) ls) h)
      (has_left before names x b) i

  one_lock : (before : List ℕ) (ls : List Lock) (l j x : ℕ) → AllTrue (w4_from p before ls) → IsTrue (lists (get_or ls l no_lock) x)
      → IsTrue (lists (get_or ls j no_lock) x) → l ≡ j
  one_lock before [] l j x h i n = absurd (let c : false ≡ true = i in cc)
  one_lock before (k ∷ ls) zero zero x h i n = refl
  one_lock before (k ∷ ls) zero (suc j) x h i n =
      let names = k.nowrite ++ k.hide in
      absurd
      (not_listed (before ++ names) ls j x (true_right (listing_obligations p k before names) (w4_from p (before ++ names) ls) h)
      (has_right before names x (listed_of k x i)) n)
  one_lock before (k ∷ ls) (suc l) zero x h i n =
      let names = k.nowrite ++ k.hide in
      absurd
      (not_listed (before ++ names) ls l x (true_right (listing_obligations p k before names) (w4_from p (before ++ names) ls) h)
      (has_right before names x (listed_of k x n)) i)
  one_lock before (k ∷ ls) (suc l) (suc j) x h i n =
      let names = k.nowrite ++ k.hide in
      ap suc (one_lock (before ++ names) ls l j x (true_right (listing_obligations p k before names) (w4_from p (before ++ names) ls) h) i n)

  -- Classes ----------------------------------------------------------------------------------------------------

  control_low : (vs : List Var) (c : ℕ) → AllTrue (flat_map (control_obligations p) vs) → IsTrue (list_any (λ v. mentions (class_term v.class) c) vs)
      → IsTrue (is_plain_low (plain p) c)
  control_low [] c h k = absurd (let e : false ≡ true = k in cc)
  control_low (v ∷ vs) c h k =
      ⊎_elim
      (λ i. obligation_holds (control_obligation p v) (vars (class_term v.class)) c (true_left (control_obligations p v) (flat_map (control_obligations p) vs) h)
      (in_vars (class_term v.class) c i))
      (λ i. control_low vs c (true_right (control_obligations p v) (flat_map (control_obligations p) vs) h) i)
      (or_cases (mentions (class_term v.class) c) (list_any (λ v. mentions (class_term v.class) c) vs) k)

  -- Threads ----------------------------------------------------------------------------------------------------

  -- a thread past the end assumes nothing
  thread_declared : (t x : ℕ) → IsTrue (assumes (plain p) t x) → t < length p.threads
  thread_declared t x h = elim (cases_lt t (length p.threads)) [
    | inl lt ↦ lt
    | inr past ↦ clash (assumes (plain p) t x) h
        (ap (λ th. have_assumed th.modes x)
        (get_or_past (map plain_thread p.threads) t no_thread (omega (arith, past, length-map p.threads plain_thread))))
  ]

  modes_are : (t : ℕ) → t < length p.threads → modes_of (plain p) t ≡ (numbered p t).modes
  modes_are t lt = ap (λ th. th.modes) (get_or-map plain_thread p.threads t rules.no_thread no_thread lt)

  in_assumed : (t x : ℕ) → IsTrue (assumes (plain p) t x) → IsTrue (has_number (assumed_list (numbered p t).modes) x)
  in_assumed t x h =
      let m = (numbered p t).modes in
      let k : IsTrue (have_assumed m x) = subst (λ m. IsTrue (have_assumed m x)) (modes_are t (thread_declared t x h)) h in
      ⊎_elim (λ i. has_left (distinct m.assume_nowrite) (distinct m.assume_hide) x (in_distinct m.assume_nowrite x i))
      (λ i. has_right (distinct m.assume_nowrite) (distinct m.assume_hide) x (in_distinct m.assume_hide x i))
      (or_cases (has_number m.assume_nowrite x) (has_number m.assume_hide x) k)

  -- All together -----------------------------------------------------------------------------------------------

  module _ (h : IsTrue (all_hold (declaration_obligations p))) where
    abbrev rule3 : List Obligation
    rule3 = policy_obligations p

    abbrev rule4 : List Obligation
    rule4 = w4_from p [] p.locks

    abbrev rule5 : List Obligation
    rule5 = flat_map (invariant_obligations p) p.locks

    abbrev rule6 : List Obligation
    rule6 = flat_map (w6_obligations p) p.threads

    abbrev rule7 : List Obligation
    rule7 = flat_map (w7_obligations p) p.locks

    abbrev rule8 : List Obligation
    rule8 = flat_map (w8_obligations p) p.threads

    abbrev rule9 : List Obligation
    rule9 = flat_map (w9_obligations p) (threads_of p)

    all : AllTrue ((rule3 ++ (rule4 ++ rule5)) ++ (((rule6 ++ rule7) ++ rule8) ++ rule9))
    all = all_true (declaration_obligations p) h

    declarations : AllTrue (rule3 ++ (rule4 ++ rule5))
    declarations = true_left (rule3 ++ (rule4 ++ rule5)) (((rule6 ++ rule7) ++ rule8) ++ rule9) all

    of_locks : AllTrue (rule4 ++ rule5)
    of_locks = true_right rule3 (rule4 ++ rule5) declarations

    of_modes : AllTrue ((rule6 ++ rule7) ++ rule8)
    of_modes = true_left ((rule6 ++ rule7) ++ rule8) rule9 (true_right (rule3 ++ (rule4 ++ rule5)) (((rule6 ++ rule7) ++ rule8) ++ rule9) all)

    invariant_under : (l y : ℕ) → IsTrue (mentions (invariant_of (plain p) l) y) → IsTrue (under (plain p) l y)
    invariant_under l y k = elim (cases_lt l (length p.locks)) [
      | inl lt ↦ let lk = lock_at (plain p) l in
          obligation_holds (invariant_obligation p lk) (vars (invariant_term lk.inv)) y
          (item_true (invariant_obligations p) p.locks l no_lock lt (true_right rule4 rule5 of_locks))
          (in_vars (invariant_term lk.inv) y k)
      | inr past ↦ clash (mentions (invariant_of (plain p) l) y) k (ap (λ k. mentions (invariant_term k.inv) y) (get_or_past p.locks l no_lock past))
    ]

    not_assumed : (l x t : ℕ) → IsTrue (under (plain p) l x) → assumes (plain p) t x ≡ false
    not_assumed l x t k =
        false_from_ne_true (assumes (plain p) t x) (λ a.
        let th = numbered p t in
        let free = obligation_holds (w6_obligation p th) (assumed_list th.modes) x
        (item_true (w6_obligations p) p.threads t rules.no_thread (thread_declared t x a) (true_left rule6 rule7 (true_left (rule6 ++ rule7) rule8 of_modes)))
        (in_assumed t x a) in
        clash (is_locked p x) (any_at (λ l. lists l x) p.locks l no_lock (listing_is_declared (plain p) l x k) k) (not-true (is_locked p x) free))

    lock_controls : (l x c : ℕ) → IsTrue (under (plain p) l x) → IsTrue (mentions (class_of (plain p) x) c)
        → IsTrue (under (plain p) l c) ⊎ ((t : ℕ) → t < length (plain p).threads → IsTrue (assumes (plain p) t c))
    lock_controls l x c k m =
        let lk = lock_at (plain p) l in
        let here = number_true (λ x. map (w7_obligation p lk x) (controls_of p x)) (lk.nowrite ++ lk.hide) x
        (item_true (w7_obligations p) p.locks l no_lock (listing_is_declared (plain p) l x k)
        (true_right rule6 rule7 (true_left (rule6 ++ rule7) rule8 of_modes)))
        (listed_of lk x k) in
        ⊎_elim (λ i. inl i)
        (λ i. inr (λ t t_in.
        let lt : t < length p.threads = omega (arith, t_in, length-map p.threads plain_thread) in
        subst (λ m. IsTrue (have_assumed m c)) (sym (modes_are t lt)) (all_at (λ t. have_assumed t.modes c) p.threads t rules.no_thread lt i)))
        (or_cases (lists lk c) (all_assume p c) (obligation_holds (w7_obligation p lk x) (controls_of p x) c here (in_vars (class_of (plain p) x) c m)))

    assumed_controls : (t x c : ℕ) → IsTrue (assumes (plain p) t x) → IsTrue (mentions (class_of (plain p) x) c) → IsTrue (assumes (plain p) t c)
    assumed_controls t x c a m =
        let th = numbered p t in
        let lt = thread_declared t x a in
        let here = number_true (λ x. map (w8_obligation p th x) (controls_of p x)) (assumed_list th.modes) x
        (item_true (w8_obligations p) p.threads t rules.no_thread lt (true_right (rule6 ++ rule7) rule8 of_modes)) (in_assumed t x a) in
        subst (λ m. IsTrue (have_assumed m c)) (sym (modes_are t lt))
        (obligation_holds (w8_obligation p th x) (controls_of p x) c here (in_vars (class_of (plain p) x) c m))

    pub declared : IsDeclared (plain p)
    declared = record {
      controls_low = λ c k. control_low p.vars c (true_left rule3 (rule4 ++ rule5) declarations) k;
      one_lock = λ x l j i k. one_lock [] p.locks l j x (true_left rule4 rule5 of_locks) i k;
      invariant_under = invariant_under;
      not_assumed = not_assumed;
      lock_controls = lock_controls;
      assumed_controls = assumed_controls;
      met = λ t u x u_in n a. apart.met p h t u x (inside u u_in) n a;
      met_hide = λ t u x u_in n a.
          apart.met_hide p h t u x (inside u u_in) n (thread_declared t x (or_right _ (assumes_hide (plain p) t x) a)) a;
    }
      where
        inside : (u : ℕ) → u < length (plain p).threads → u < length p.threads
        inside u lt = omega (arith, lt, length-map p.threads plain_thread)
