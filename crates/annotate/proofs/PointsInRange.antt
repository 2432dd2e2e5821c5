-- What has to follow at the statements of a well formed program has variables in range and words.
use Rattle.std.proofs.Common.{inl, inr, rules, ℕ, zero, suc, ◌<◌, ◌==◌, ◌||◌, not, List, [], ◌∷◌, ◌++◌, length, map, take, get_or, Bool, true, false, cond, if◌then◌else◌, Option, Some, None, sym, subst, arith}
use Rattle.std.specs.Prelude.{filter, flat_map, option_map, option_to_list, unwrap_or}
use Rattle.std.specs.Option.{option_or}
use Rattle.std.proofs.lemmas.Bool.{cases_lt}
use Rattle.std.proofs.lemmas.List.{get_or_past}
use Rattle.std.proofs.lemmas.List.Elements.{All-head, All-tail}
use Rattle.cov_expr.specs.Term.{Term, const, var, neg, bin}
use Rattle.cov_expr.specs.Trees.{conjuncts, has_term, mentions, vars}
use Rattle.cov_expr.specs.Trees as trees
use Rattle.cov_expr.specs.Words.{HasVarsBelow, HasWords}
use Rattle.cov_expr.specs.declared.expr.Op.TheVariants.{Both, Eq}
use Rattle.cov_ast.specs.Declarations.{class_of, invariant_term, is_control, lock_at, no_lock, no_var}
use Rattle.cov_ast.specs.LocksAlong.{no_locks}
use Rattle.cov_ast.specs.Plain.{Plain, class_term, plain}
use Rattle.cov_ast.specs.Syntax.{State, Stm, skip, assign, lock, branch, loop, note, output, Block, done, more, Program}
use Rattle.cov_ast.specs.WellFormed.{AreTypesInRange, BlockHasWords, IsBlockInRange, IsStateInRange, IsStmInRange, IsTypeInRange, IsWellFormed, StateHasWords, StmHasWords, TypeHasWords, TypesHaveWords}
use Rattle.mode_compat.specs.Compatible.{no_thread, numbered}
use Rattle.mode_state.specs.Sets.{is_hidden}
use Rattle.point_law.specs.After.{after_assign, assigned_type, forgotten_type, keeps_value, listed_or, meet, noted, retyped, start, start_type, updated_from, with_guard, with_term_if}
use Rattle.point_law.specs.Point.{Point, conjuncts_of_types, default_type, is_over_stable, is_tracked, ty, ty_var, type_at, vars_of}
use Rattle.point_law.specs.Terms.{is_one, joined, joined_from, listed, with_option, with_term, with_terms, without_ones}
use Rattle.typing_law.specs.Blocks.{after_block, after_stm, value_type}
use Rattle.typing_law.specs.Counts.{entailment_count}
use Rattle.typing_law.specs.Entailments.{assign_entailments, controlled_follows, controlled_values, Entailment, freed_value, from_preds, guard_follows, retype_follows, shown_controlled, shown_value, state_follows, type_follows, written_type}
use Rattle.typing_law.specs.ThreadEntailments.{all_entailments, block_entailments, PlacedEntailment, placed_from, reached, stm_entailments, thread_entailments}
use Rattle.typing_law.specs.ThreadObligations.{thread_obligations}
use Rattle.annotate.proofs.CertsInRange.{all_in_range, append_in_range, AreInRangeOfWords, in_range_of, IsInRangeOfWords, subst_in_range}

-- Lists --------------------------------------------------------------------------------------------------------

abbrev pub Every : {X : Type 0} → (X → Type 0) → List X → Type 0
Every P [] = Unit {0}
Every P (x ∷ xs) = P x × Every P xs

every_append : {X : Type 0} (P : X → Type 0) (xs ys : List X) → Every P xs → Every P ys → Every P (xs ++ ys)
every_append P [] ys h k = k
every_append P (x ∷ xs) ys h k = (h.0, every_append P xs ys h.1 k)

every_map : {X Y : Type 0} (P : Y → Type 0) (f : X → Y) (xs : List X) → ((x : X) → P (f x)) → Every P (map f xs)
every_map P f [] h = tt
every_map P f (x ∷ xs) h = (h x, every_map P f xs h)

every_mapped : {X Y : Type 0} (Q : X → Type 0) (P : Y → Type 0) (f : X → Y) (xs : List X) → ((x : X) → Q x → P (f x)) → Every Q xs → Every P (map f xs)
every_mapped Q P f [] h k = tt
every_mapped Q P f (x ∷ xs) h k = (h x k.0, every_mapped Q P f xs h k.1)

every_take : {X : Type 0} (P : X → Type 0) (k : ℕ) (xs : List X) → Every P xs → Every P (take k xs)
every_take P zero xs h = tt
every_take P (suc k) [] h = tt
every_take P (suc k) (x ∷ xs) h = (h.0, every_take P k xs h.1)

pick : {X : Type 0} (P : X → Type 0) (b : Bool) (x y : X) → P x → P y → P (cond b x y)
pick P true x y h k = h
pick P false x y h k = k

-- Expressions --------------------------------------------------------------------------------------------------

module _ (n : ℕ) where
  abbrev IsOptionInRangeOfWords : Option Term → Type 0
  IsOptionInRangeOfWords None = Unit {0}
  IsOptionInRangeOfWords (Some q) = IsInRangeOfWords n q

  abbrev AreTypesInRangeOfWords : List (ℕ × Term) → Type 0
  AreTypesInRangeOfWords [] = Unit {0}
  AreTypesInRangeOfWords (r ∷ rs) = IsInRangeOfWords n r.1 × AreTypesInRangeOfWords rs

  abbrev IsEntailmentInRangeOfWords : Entailment → Type 0
  IsEntailmentInRangeOfWords g = AreInRangeOfWords n g.hyps × IsInRangeOfWords n g.goal

  zero_in_range : IsInRangeOfWords n (const 0)
  zero_in_range = omega arith

  one_in_range : IsInRangeOfWords n (const 1)
  one_in_range = omega arith

  conjuncts_in_range : (e : Term) → IsInRangeOfWords n e → AreInRangeOfWords n (conjuncts e)
  conjuncts_in_range (bin Both a b) h = append_in_range n (conjuncts a) (conjuncts b) (conjuncts_in_range a h.0) (conjuncts_in_range b h.1)
  conjuncts_in_range _ h = (h, tt)

  filter_in_range : (test : Term → Bool) (es : List Term) → AreInRangeOfWords n es → AreInRangeOfWords n (filter test es)
  filter_in_range test [] h = tt
  filter_in_range test (e ∷ es) h =
      pick (AreInRangeOfWords n) (test e) (e ∷ filter test es) (filter test es) (h.0, filter_in_range test es h.1) (filter_in_range test es h.1)

  with_term_in_range : (es : List Term) (e : Term) → AreInRangeOfWords n es → IsInRangeOfWords n e → AreInRangeOfWords n (with_term es e)
  with_term_in_range es e h k = pick (AreInRangeOfWords n) (has_term es e) es (es ++ e ∷ []) h (append_in_range n es (e ∷ []) h (k, tt))

  with_terms_in_range : (es fs : List Term) → AreInRangeOfWords n es → AreInRangeOfWords n fs → AreInRangeOfWords n (with_terms es fs)
  with_terms_in_range es [] h k = h
  with_terms_in_range es (f ∷ fs) h k = with_terms_in_range (with_term es f) fs (with_term_in_range es f h k.0) k.1

  with_term_if_in_range : (b : Bool) (es : List Term) (e : Term) → AreInRangeOfWords n es → IsInRangeOfWords n e → AreInRangeOfWords n (with_term_if b es e)
  with_term_if_in_range true es e h k = with_term_in_range es e h k
  with_term_if_in_range false es e h k = h

  with_option_in_range : (es : List Term) (o : Option Term) → AreInRangeOfWords n es → IsOptionInRangeOfWords o → AreInRangeOfWords n (with_option es o)
  with_option_in_range es None h k = h
  with_option_in_range es (Some e) h k = with_term_in_range es e h k

  joined_from_in_range : (e : Term) (fs : List Term) → IsInRangeOfWords n e → AreInRangeOfWords n fs → IsInRangeOfWords n (joined_from e fs)
  joined_from_in_range e [] h k = h
  joined_from_in_range e (f ∷ fs) h k = joined_from_in_range (bin Both e f) fs (h, k.0) k.1

  joined_in_range : (es : List Term) → AreInRangeOfWords n es → IsInRangeOfWords n (joined es)
  joined_in_range [] h = one_in_range
  joined_in_range (e ∷ es) h = joined_from_in_range e es h.0 h.1

  flat_in_range : {X : Type 0} (f : X → List Term) (xs : List X) → ((x : X) → AreInRangeOfWords n (f x)) → AreInRangeOfWords n (flat_map f xs)
  flat_in_range f [] h = tt
  flat_in_range f (x ∷ xs) h = append_in_range n (f x) (flat_map f xs) (h x) (flat_in_range f xs h)

  listed_in_range : (types : List (ℕ × Term)) (z : ℕ) (q : Term) → AreTypesInRangeOfWords types → IsInRangeOfWords n q → IsInRangeOfWords n (listed_or types z q)
  listed_in_range types z q h k = go (listed types z) (found types h)
    where
      go : (o : Option Term) → IsOptionInRangeOfWords o → IsInRangeOfWords n (unwrap_or o q)
      go None h = k
      go (Some r) h = h

      either : (o p : Option Term) → IsOptionInRangeOfWords o → IsOptionInRangeOfWords p → IsOptionInRangeOfWords (option_or o p)
      either None p h k = k
      either (Some r) p h k = h

      found : (types : List (ℕ × Term)) → AreTypesInRangeOfWords types → IsOptionInRangeOfWords (listed types z)
      found [] h = tt
      found (t ∷ ts) h = either (listed ts z) (if t.0 == z then Some t.1 else None) (found ts h.1) (pick IsOptionInRangeOfWords (t.0 == z) (Some t.1) None h.0 tt)

  -- of two, one
  in_either : (b : Bool) (q r : Term) → IsInRangeOfWords n q → IsInRangeOfWords n r → IsInRangeOfWords n (cond b q r)
  in_either b q r h k = pick (IsInRangeOfWords n) b q r h k

  option_in_either : (b : Bool) (o p : Option Term) → IsOptionInRangeOfWords o → IsOptionInRangeOfWords p → IsOptionInRangeOfWords (cond b o p)
  option_in_either b o p h k = pick IsOptionInRangeOfWords b o p h k

  mapped_in_range : (change : Term → Term) (o : Option Term) → ((q : Term) → IsInRangeOfWords n q → IsInRangeOfWords n (change q)) → IsOptionInRangeOfWords o
      → IsOptionInRangeOfWords (option_map change o)
  mapped_in_range change None h k = tt
  mapped_in_range change (Some q) h k = h q k

  -- Types of variables
  updated_in_range : (change : ℕ → Option Term → Option Term) (x : ℕ) (qs : List (Option Term)) → ((x : ℕ) (q : Option Term) → IsOptionInRangeOfWords q → IsOptionInRangeOfWords (change x q))
      → Every IsOptionInRangeOfWords qs → Every IsOptionInRangeOfWords (updated_from x change qs)
  updated_in_range change x [] h k = tt
  updated_in_range change x (q ∷ qs) h k = (h x q k.0, updated_in_range change (suc x) qs h k.1)

  retyped_in_range : (change : ℕ → Term → Term) (qs : List (Option Term)) → ((x : ℕ) (q : Term) → IsInRangeOfWords n q → IsInRangeOfWords n (change x q))
      → Every IsOptionInRangeOfWords qs → Every IsOptionInRangeOfWords (retyped change qs)
  retyped_in_range change qs h k = updated_in_range (λ x q. option_map (change x) q) 0 qs (λ x q f. mapped_in_range (change x) q (h x) f) k

  type_in_range : (qs : List (Option Term)) (x : ℕ) → Every IsOptionInRangeOfWords qs → IsInRangeOfWords n (unwrap_or (get_or qs x None) (const 0))
  type_in_range [] x h = zero_in_range
  type_in_range (None ∷ qs) zero h = zero_in_range
  type_in_range (Some q ∷ qs) zero h = h.0
  type_in_range (q ∷ qs) (suc x) h = type_in_range qs x h.1

-- Programs -----------------------------------------------------------------------------------------------------

module _ (p : Program) (formed : IsWellFormed p) where
  abbrev n : ℕ
  n = length p.vars

  abbrev P : Plain
  P = plain p

  class_in_range : (y : ℕ) → IsInRangeOfWords n (class_of P y)
  class_in_range y =
      elim (cases_lt y (length p.vars)) [
        | inl h ↦ in_range_of n (class_of P y) (formed.ids.classes y no_var h) (formed.words.classes y no_var h)
        | inr h ↦ subst (λ v. IsInRangeOfWords n (class_term v.class)) (sym (get_or_past p.vars y no_var h)) (zero_in_range n)
      ]

  invariant_in_range : (l : ℕ) → IsOptionInRangeOfWords n (lock_at P l).inv
  invariant_in_range l =
      elim (cases_lt l (length p.locks)) [
        | inl h ↦ go (lock_at P l).inv (formed.ids.of_locks l no_lock h).invariant (formed.words.invariants l no_lock h)
        | inr h ↦ subst (λ k. IsOptionInRangeOfWords n k.inv) (sym (get_or_past p.locks l no_lock h)) tt
      ]
    where
      go : (o : Option Term) → HasVarsBelow (invariant_term o) (length p.vars) → HasWords (invariant_term o) → IsOptionInRangeOfWords (length p.vars) o
      go None r w = tt
      go (Some e) r w = in_range_of (length p.vars) e r w

  var_in_range : (x : ℕ) → x < n → IsInRangeOfWords n (var x)
  var_in_range x h = (h, omega (arith, h, formed.limits.variables))

  module _ (t : ℕ) where
    default_in_range : (held : List Bool) (x : ℕ) → IsInRangeOfWords n (default_type P t held x)
    default_in_range held x = pick (IsInRangeOfWords n) (is_hidden P t held x) (const 0) (class_of P x) (zero_in_range n) (class_in_range x)

    abbrev IsPointInRangeOfWords : Point → Type 0
    IsPointInRangeOfWords a = AreInRangeOfWords n a.preds × Every (IsOptionInRangeOfWords n) a.types

    type_at_in_range : (a : Point) (x : ℕ) → IsPointInRangeOfWords a → IsInRangeOfWords n (type_at a x)
    type_at_in_range a x f = type_in_range n a.types x f.1

    ty_var_in_range : (a : Point) (x : ℕ) → IsPointInRangeOfWords a → IsInRangeOfWords n (ty_var P t a x)
    ty_var_in_range a x f =
        pick (IsInRangeOfWords n) (is_control P x) (const 1) (cond (is_tracked P t a.held x) (type_at a x) (class_of P x)) (one_in_range n)
        (pick (IsInRangeOfWords n) (is_tracked P t a.held x) (type_at a x) (class_of P x) (type_at_in_range a x f) (class_in_range x))

    ty_in_range : (a : Point) (e : Term) → IsPointInRangeOfWords a → IsInRangeOfWords n (ty P t a e)
    ty_in_range a e f =
        joined_in_range n (conjuncts_of_types P t a (vars e))
        (with_terms_in_range n [] (without_ones (flat_map (λ x. conjuncts (ty_var P t a x)) (vars e))) tt
        (filter_in_range n (λ r. not (is_one r)) (flat_map (λ x. conjuncts (ty_var P t a x)) (vars e))
        (flat_in_range n (λ x. conjuncts (ty_var P t a x)) (vars e) (λ x. conjuncts_in_range n (ty_var P t a x) (ty_var_in_range a x f)))))

    abbrev IsStateInRangeOfWords : State → Type 0
    IsStateInRangeOfWords j = AreInRangeOfWords n j.preds × AreTypesInRangeOfWords n j.types

    pairs_in_range : (locks : ℕ) (rs : List (ℕ × Term)) → AreTypesInRange n locks rs → TypesHaveWords rs → AreTypesInRangeOfWords n rs
    pairs_in_range locks [] r w = tt
    pairs_in_range locks (x ∷ rs) r w = (
      in_range_of n x.1 (All-head (λ y. (y.0 < n) × HasVarsBelow y.1 n) x rs r).1 (All-head (λ y. HasWords y.1) x rs w),
      pairs_in_range locks rs (All-tail (λ y. (y.0 < n) × HasVarsBelow y.1 n) x rs r) (All-tail (λ y. HasWords y.1) x rs w),
    )

    state_in_range : (locks : ℕ) (j : State) → IsStateInRange n locks j → StateHasWords j → IsStateInRangeOfWords j
    state_in_range locks j r w = (all_in_range n j.preds r.preds w.preds, pairs_in_range locks j.types r.types w.types)

    value_in_range : (a : Point) (o : Option Term) (e : Term) → IsOptionInRangeOfWords n o → IsPointInRangeOfWords a → IsInRangeOfWords n (value_type P t a o e)
    value_in_range a None e h f = ty_in_range a e f
    value_in_range a (Some q) e h f = h

    option_in_range : (locks : ℕ) (o : Option Term) → IsTypeInRange n locks o → TypeHasWords o → IsOptionInRangeOfWords n o
    option_in_range locks None r w = tt
    option_in_range locks (Some q) r w = in_range_of n q r w

    start_in_range : IsPointInRangeOfWords (start P t)
    start_in_range = (tt, every_map (IsOptionInRangeOfWords n) (start_type P t (no_locks P)) (vars_of P) (λ x. go x))
      where
        go : (x : ℕ) → IsOptionInRangeOfWords (length p.vars) (start_type (plain p) t (no_locks (plain p)) x)
        go x = pick (IsOptionInRangeOfWords (length p.vars)) (is_tracked (plain p) t (no_locks (plain p)) x) (Some (class_of (plain p) x)) None (class_in_range x) tt

    meet_in_range : (a : Point) (j : State) → IsPointInRangeOfWords a → IsStateInRangeOfWords j → IsPointInRangeOfWords (meet P t a j)
    meet_in_range a j f s = (
      with_terms_in_range n [] j.preds tt s.0,
      retyped_in_range n (λ z q. listed_or j.types z (default_type P t a.held z)) a.types
          (λ z q h. listed_in_range n j.types z (default_type P t a.held z) s.1 (default_in_range a.held z)) f.1,
    )

    noted_in_range : (a : Point) (j : State) → IsPointInRangeOfWords a → IsStateInRangeOfWords j → IsPointInRangeOfWords (noted a j)
    noted_in_range a j f s = (with_terms_in_range n [] j.preds tt s.0, retyped_in_range n (listed_or j.types) a.types (λ z q h. listed_in_range n j.types z q s.1 h) f.1)

    guard_in_range : (a : Point) (e : Term) → IsPointInRangeOfWords a → IsInRangeOfWords n e → IsPointInRangeOfWords (with_guard P t a e)
    guard_in_range a e f h = (with_term_if_in_range n (is_over_stable P t a.held e) a.preds e f.0 h, f.1)

    assigned_in_range : (a : Point) (x : ℕ) (e q : Term) (retypes : List (ℕ × Term)) → IsPointInRangeOfWords a → x < n → IsInRangeOfWords n e → IsInRangeOfWords n q → AreTypesInRangeOfWords n retypes
        → IsPointInRangeOfWords (after_assign P t a x e q retypes)
    assigned_in_range a x e q retypes f inside he hq hr = (
      with_term_if_in_range n (keeps_value P t a.held x e) (filter (λ r. not (mentions r x)) a.preds) (bin Eq (var x) e)
          (filter_in_range n (λ r. not (mentions r x)) a.preds f.0) (var_in_range x inside, he),
      retyped_in_range n (assigned_type P t a.held x q retypes) a.types (λ z g h.
          pick (IsInRangeOfWords n) (is_control P x) (listed_or retypes z (forgotten_type P t a.held x z g)) (cond (x == z) q g)
          (listed_in_range n retypes z (forgotten_type P t a.held x z g) hr
          (pick (IsInRangeOfWords n) (mentions g x) (default_type P t a.held z) g (default_in_range a.held z) h))
          (pick (IsInRangeOfWords n) (x == z) q g hq h)) f.1,
    )

    -- Entailments of a statement
    abbrev AreEntailmentsInRangeOfWords : List Entailment → Type 0
    AreEntailmentsInRangeOfWords gs = Every (IsEntailmentInRangeOfWords n) gs

    more_in_range : (a : Point) (e goal : Term) → IsPointInRangeOfWords a → IsInRangeOfWords n e → IsInRangeOfWords n goal → AreInRangeOfWords n (a.preds ++ e ∷ []) × IsInRangeOfWords n goal
    more_in_range a e goal f h k = (append_in_range n a.preds (e ∷ []) f.0 (h, tt), k)

    preds_follow : (a : Point) (es : List Term) → IsPointInRangeOfWords a → AreInRangeOfWords n es → AreEntailmentsInRangeOfWords (map (from_preds a.preds) es)
    preds_follow a [] f h = tt
    preds_follow a (e ∷ es) f h = ((f.0, h.0), preds_follow a es f h.1)

    types_follow : (a : Point) (rs : List (ℕ × Term)) → IsPointInRangeOfWords a → AreTypesInRangeOfWords n rs → AreEntailmentsInRangeOfWords (map (type_follows a) rs)
    types_follow a [] f h = tt
    types_follow a (r ∷ rs) f h = (more_in_range a r.1 (type_at a r.0) f h.0 (type_at_in_range a r.0 f), types_follow a rs f h.1)

    state_follows_in_range : (a : Point) (j : State) → IsPointInRangeOfWords a → IsStateInRangeOfWords j → AreEntailmentsInRangeOfWords (state_follows a j)
    state_follows_in_range a j f s =
        every_append (IsEntailmentInRangeOfWords n) (map (from_preds a.preds) j.preds) (map (type_follows a) j.types) (preds_follow a j.preds f s.0) (types_follow a j.types f s.1)

    guard_follows_in_range : (a : Point) (e : Term) → IsPointInRangeOfWords a → AreEntailmentsInRangeOfWords (guard_follows P t a e ∷ [])
    guard_follows_in_range a e f = ((f.0, ty_in_range a e f), tt)

    written_in_range : (a : Point) (e : Term) (o : Option Term) → IsPointInRangeOfWords a → IsOptionInRangeOfWords n o → AreEntailmentsInRangeOfWords (written_type P t a e o)
    written_in_range a e None f h = tt
    written_in_range a e (Some q) f h = (more_in_range a q (ty P t a e) f h (ty_in_range a e f), tt)

    retypes_in_range : (a : Point) (x : ℕ) (e : Term) (rs : List (ℕ × Term)) → IsPointInRangeOfWords a → IsInRangeOfWords n e → AreTypesInRangeOfWords n rs → AreEntailmentsInRangeOfWords (map (retype_follows P t a x e) rs)
    retypes_in_range a x e [] f he h = tt
    retypes_in_range a x e (r ∷ rs) f he h =
        (more_in_range a (trees.subst r.1 x e) (type_at a r.0) f (subst_in_range n r.1 e x h.0 he) (type_at_in_range a r.0 f), retypes_in_range a x e rs f he h.1)

    assign_in_range : (a : Point) (x : ℕ) (e : Term) (o : Option Term) (rs : List (ℕ × Term)) → IsPointInRangeOfWords a → IsInRangeOfWords n e → IsOptionInRangeOfWords n o → AreTypesInRangeOfWords n rs
        → AreEntailmentsInRangeOfWords (assign_entailments P t a x e o rs)
    assign_in_range a x e o rs f he ho hr =
        let q = value_type P t a o e in
        let hq = value_in_range a o e ho f in
        let w = written_type P t a e o in
        let s = shown_value P t a x q in
        let c = controlled_values P t a x e in
        let controlled = every_map (IsEntailmentInRangeOfWords n) (controlled_follows P t a x e) (shown_controlled P t a x)
        (λ y. more_in_range a (trees.subst (class_of P y) x e) (ty_var P t a y) f (subst_in_range n (class_of P y) e x (class_in_range y) he) (ty_var_in_range a y f)) in
        every_append (IsEntailmentInRangeOfWords n) (w ++ s ++ c) (map (retype_follows P t a x e) rs)
        (every_append (IsEntailmentInRangeOfWords n) (w ++ s) c
        (every_append (IsEntailmentInRangeOfWords n) w s (written_in_range a e o f ho)
        (pick (λ gs. AreEntailmentsInRangeOfWords gs) (is_control P x || not (is_hidden P t a.held x)) (record { hyps = a.preds ++ class_of P x ∷ []; goal = q } ∷ []) []
        (more_in_range a (class_of P x) q f (class_in_range x) hq, tt) tt))
        (pick (λ gs. AreEntailmentsInRangeOfWords gs) (is_control P x) (map (controlled_follows P t a x e) (shown_controlled P t a x)) [] controlled tt))
        (retypes_in_range a x e rs f he hr)

    option_follows : (a : Point) (o : Option Term) → IsPointInRangeOfWords a → IsOptionInRangeOfWords n o → AreEntailmentsInRangeOfWords (map (from_preds a.preds) (option_to_list o))
    option_follows a None f h = tt
    option_follows a (Some e) f h = ((f.0, h), tt)

    classes_follow : (a : Point) (xs : List ℕ) → IsPointInRangeOfWords a → AreEntailmentsInRangeOfWords (map (freed_value P t a) xs)
    classes_follow a xs f = every_map (IsEntailmentInRangeOfWords n) (freed_value P t a) xs (λ x. more_in_range a (class_of P x) (type_at a x) f (class_in_range x) (type_at_in_range a x f))

    -- Statements and blocks
    abbrev pub IsPlacedInRangeOfWords : PlacedEntailment → Type 0
    IsPlacedInRangeOfWords g = IsEntailmentInRangeOfWords n g.entailment

    placed_in_range : (at k : ℕ) (gs : List Entailment) → AreEntailmentsInRangeOfWords gs → Every IsPlacedInRangeOfWords (placed_from at k gs)
    placed_in_range at k [] h = tt
    placed_in_range at k (g ∷ gs) h = (h.0, placed_in_range at (suc k) gs h.1)

    mutual
      after_stm_in_range : (c : Stm) (a : Point) → IsStmInRange n (length p.locks) c → StmHasWords c → IsPointInRangeOfWords a → IsPointInRangeOfWords (after_stm P t c a)
      after_stm_in_range (assign x e o rs) a r w f =
          assigned_in_range a x e (value_type P t a o e) rs f r.0 (in_range_of n e r.1 w.0) (value_in_range a o e (option_in_range (length p.locks) o r.2 w.1) f)
          (pairs_in_range (length p.locks) rs r.3 w.2)
      after_stm_in_range (branch e yes_block no_block join) a r w f =
          meet_in_range (after_block P t yes_block (with_guard P t a e)) join (after_block_in_range yes_block (with_guard P t a e) r.1 w.1 (guard_in_range a e f (in_range_of n e r.0 w.0)))
          (state_in_range (length p.locks) join r.3 w.3)
      after_stm_in_range (loop e inv b) a r w f =
          guard_in_range (meet P t a inv) (neg e) (meet_in_range a inv f (state_in_range (length p.locks) inv r.1 w.1)) (in_range_of n e r.0 w.0)
      after_stm_in_range (note j) a r w f = noted_in_range a j f (state_in_range (length p.locks) j r w)
      after_stm_in_range _ a r w f =
          search (rules, f, filter_in_range n, with_option_in_range n, updated_in_range n, option_in_either n, mapped_in_range n, in_either n, invariant_in_range, class_in_range, default_in_range)

      after_block_in_range : (b : Block) (a : Point) → IsBlockInRange n (length p.locks) b → BlockHasWords b → IsPointInRangeOfWords a → IsPointInRangeOfWords (after_block P t b a)
      after_block_in_range done a r w f = f
      after_block_in_range (more at c proofs b) a r w f = after_block_in_range b (after_stm P t c a) r.2 w.2 (after_stm_in_range c a r.0 w.0 f)

    mutual
      stm_in_range : (c : Stm) (at : ℕ) (a : Point) → IsStmInRange n (length p.locks) c → StmHasWords c → IsPointInRangeOfWords a → Every IsPlacedInRangeOfWords (stm_entailments P t c at a)
      stm_in_range skip at a r w f = tt
      stm_in_range (assign x e o rs) at a r w f =
          placed_in_range at 1 (assign_entailments P t a x e o rs) (assign_in_range a x e o rs f (in_range_of n e r.1 w.0) (option_in_range (length p.locks) o r.2 w.1)
          (pairs_in_range (length p.locks) rs r.3 w.2))
      stm_in_range (lock l) at a r w f = tt
      stm_in_range (branch e yes_block no_block join) at a r w f =
          let yes_start = with_guard P t a e in
          let no_start = with_guard P t a (neg e) in
          let yes_end = after_block P t yes_block yes_start in
          let no_end = after_block P t no_block no_start in
          let gs = guard_follows P t a e ∷ [] in
          let hs = state_follows yes_end join ++ state_follows no_end join in
          let yes = block_entailments P t yes_block yes_start in
          let no = block_entailments P t no_block no_start in
          let last = placed_from at (suc (length gs)) hs in
          let s = state_in_range (length p.locks) join r.3 w.3 in
          let yes_in_range = guard_in_range a e f (in_range_of n e r.0 w.0) in
          let no_in_range = guard_in_range a (neg e) f (in_range_of n e r.0 w.0) in
          every_append IsPlacedInRangeOfWords (placed_from at 1 gs) (yes ++ (no ++ last)) (placed_in_range at 1 gs (guard_follows_in_range a e f))
          (every_append IsPlacedInRangeOfWords yes (no ++ last) (block_in_range yes_block yes_start r.1 w.1 yes_in_range)
          (every_append IsPlacedInRangeOfWords no last (block_in_range no_block no_start r.2 w.2 no_in_range)
          (placed_in_range at (suc (length gs)) hs (every_append (IsEntailmentInRangeOfWords n) (state_follows yes_end join) (state_follows no_end join)
          (state_follows_in_range yes_end join (after_block_in_range yes_block yes_start r.1 w.1 yes_in_range) s)
          (state_follows_in_range no_end join (after_block_in_range no_block no_start r.2 w.2 no_in_range) s)))))
      stm_in_range (loop e inv b) at a r w f =
          let head = meet P t a inv in
          let body_start = with_guard P t head e in
          let body_end = after_block P t b body_start in
          let gs = state_follows a inv ++ guard_follows P t head e ∷ [] in
          let hs = state_follows body_end inv in
          let inner = block_entailments P t b body_start in
          let last = placed_from at (suc (length gs)) hs in
          let s = state_in_range (length p.locks) inv r.1 w.1 in
          let head_in_range = meet_in_range a inv f s in
          let body_start_in_range = guard_in_range head e head_in_range (in_range_of n e r.0 w.0) in
          every_append IsPlacedInRangeOfWords (placed_from at 1 gs) (inner ++ last)
          (placed_in_range at 1 gs (every_append (IsEntailmentInRangeOfWords n) (state_follows a inv) (guard_follows P t head e ∷ []) (state_follows_in_range a inv f s)
          (guard_follows_in_range head e head_in_range)))
          (every_append IsPlacedInRangeOfWords inner last (block_in_range b body_start r.2 w.2 body_start_in_range)
          (placed_in_range at (suc (length gs)) hs (state_follows_in_range body_end inv (after_block_in_range b body_start r.2 w.2 body_start_in_range) s)))
      stm_in_range (output e) at a r w f = placed_in_range at 1 (guard_follows P t a e ∷ []) (guard_follows_in_range a e f)
      stm_in_range _ at a r w f =
          placed_in_range at 1 _
          (search (rules, f, r, w, every_append (IsEntailmentInRangeOfWords n), option_follows, classes_follow, state_follows_in_range, state_in_range (length p.locks), invariant_in_range))

      block_in_range : (b : Block) (a : Point) → IsBlockInRange n (length p.locks) b → BlockHasWords b → IsPointInRangeOfWords a → Every IsPlacedInRangeOfWords (block_entailments P t b a)
      block_in_range done a r w f = tt
      block_in_range (more at c proofs b) a r w f =
          every_append IsPlacedInRangeOfWords (stm_entailments P t c at a) (block_entailments P t b (after_stm P t c a)) (stm_in_range c at a r.0 w.0 f)
          (block_in_range b (after_stm P t c a) r.2 w.2 (after_stm_in_range c a r.0 w.0 f))

  body_in_range : (t : ℕ) → IsBlockInRange (length p.vars) (length p.locks) (numbered p t).body × BlockHasWords (numbered p t).body
  body_in_range t =
      elim (cases_lt t (length p.threads)) [
        | inl h ↦ ((formed.ids.of_threads t no_thread h).body, formed.words.bodies t no_thread h)
        | inr h ↦
            subst (λ d. IsBlockInRange (length p.vars) (length p.locks) d.body × BlockHasWords d.body) (sym (get_or_past p.threads t no_thread h)) (tt, tt)
      ]

  pub entailments_in_range : (t : ℕ) → Every (IsPlacedInRangeOfWords t) (thread_entailments p t)
  entailments_in_range t =
      let body = body_in_range t in
      every_take (IsPlacedInRangeOfWords t) (entailment_count (reached (thread_obligations p t))) (all_entailments p t)
      (block_in_range t (numbered p t).body (start (plain p) t) body.0 body.1 (start_in_range t))
