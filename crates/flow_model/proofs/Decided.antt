-- The tests decide what they are named for, and no first difference is agreement.
use Rattle.std.proofs.Common.{◌≡◌, ◌≢◌, ◌↔◌, ◌≤◌, ◌&&◌, ℕ, zero, suc, List, [], ◌∷◌, length, get_or, Bool, true, false, not, is_some, IsNone, Option, Some, None, refl, sym, ◌∙◌, ap, subst, inl, inr, ⊎_elim, arith}
use Rattle.std.specs.List.{list_any}
use Rattle.std.proofs.lemmas.Bool.{and_cases, and_from, and_parts, cases_lt, eq-eqb, eqb-true, false_from_ne_true, not-false, not-true, not_from_false, not_from_true, or_cases, or_left, or_right}
use Rattle.std.proofs.lemmas.List.{get_or_default, get_or_past, same_lists}
use Rattle.cov_expr.specs.Entailment.{Holds}
use Rattle.cov_expr.specs.Term.{Term, value, is_set}
use Rattle.cov_expr.specs.Trees.{has_number}
use Rattle.cov_expr.proofs.Values.{set_holds}
use Rattle.cov_ast.specs.Declarations.{class_of, invariant_of, invariant_term, is_control, no_lock, no_thread, no_var}
use Rattle.cov_ast.specs.Plain.{Plain, class_term}
use Rattle.cov_ast.specs.Syntax.{Lock}
use Rattle.flow_model.specs.Agreement.{AreFitStarts, MemoriesAgree, SameAt}
use Rattle.flow_model.specs.FirstDifference.{first_bad_start, first_difference, first_lock, first_var, hidden_by, holders_differ, is_apart, is_broken, is_compared, is_hidden, is_low_apart, is_low_in, is_true_in, lock_or_var, same_holder, same_word, var_or_lock}
use Rattle.flow_model.specs.Holdings.{IsHeld, IsHiddenNow}
use Rattle.flow_model.specs.Source.{Holders, holder}
use Rattle.flow_model.specs.declared.agreement.Differ.{Differ}
use Rattle.flow_model.specs.declared.start.BadStart.{BadStart}
use Rattle.flow_model.proofs.Apart.{passed_over, words_same}
use Rattle.flow_model.proofs.Firsts.{none_found, none_passes}

-- Tests --------------------------------------------------------------------------------------------------------

holds_set : (n : ℕ) → n ≢ 0 → is_set n ≡ true
holds_set zero h = absurd (h refl)
holds_set (suc n) h = refl

pub true_holds : (e : Term) (m : List ℕ) → is_true_in e m ≡ true → Holds e m
true_holds e m h = set_holds (value e m) h

pub holds_true : (e : Term) (m : List ℕ) → Holds e m → is_true_in e m ≡ true
holds_true e m h = holds_set (value e m) h

same_held : (a b : Option ℕ) → same_holder a b ≡ true → a ≡ b
same_held None None h = refl
same_held None (Some u) h = absurd cc
same_held (Some t) None h = absurd cc
same_held (Some t) (Some u) h = ap Some (eqb-true t u h)

held_same : (a : Option ℕ) → same_holder a a ≡ true
held_same None = refl
held_same (Some t) = eq-eqb t t refl

any_at : {X : Type 0} (test : X → Bool) (xs : List X) (d : X) → list_any test xs ≡ true → (i : ℕ) × (test (get_or xs i d) ≡ true)
any_at test [] d h = absurd cc
any_at test (x ∷ xs) d h =
    ⊎_elim (λ here. (0, here)) (λ later. let found = any_at test xs d later in (suc found.0, found.1)) (or_cases (test x) (list_any test xs) h)

at_any : {X : Type 0} (test : X → Bool) (xs : List X) (i : ℕ) (d : X) → test d ≡ false → test (get_or xs i d) ≡ true → list_any test xs ≡ true
at_any test [] i d past h = let e : true ≡ false = sym h ∙ past in absurd cc
at_any test (x ∷ xs) zero d past h = or_left (test x) (list_any test xs) h
at_any test (x ∷ xs) (suc i) d past h = or_right (test x) (list_any test xs) (at_any test xs i d past h)

some_is : {X : Type 0} (o : Option X) → is_some o ≡ true → (x : X) × (o ≡ Some x)
some_is None h = absurd cc
some_is (Some x) h = (x, refl)

hidden_at : (h : Holders) (ls : List Lock) (x : ℕ) → hidden_by h ls x ≡ true → (l : ℕ) × IsHeld h l × (has_number (get_or ls l no_lock).hide x ≡ true)
hidden_at [] ls x e = absurd cc
hidden_at (o ∷ os) [] x e = absurd cc
hidden_at (o ∷ os) (l ∷ ls) x e =
    ⊎_elim
    (λ here. let parts = and_parts (is_some o) (has_number l.hide x) here in (0, some_is o parts.0, parts.1))
    (λ later. let found = hidden_at os ls x later in (suc found.0, found.1, found.2))
    (or_cases (is_some o && has_number l.hide x) (hidden_by os ls x) e)

at_hidden : (h : Holders) (ls : List Lock) (l x : ℕ) → IsHeld h l → has_number (get_or ls l no_lock).hide x ≡ true → hidden_by h ls x ≡ true
at_hidden [] ls l x held e = let none : None ≡ Some held.0 = held.1 in absurd cc
at_hidden (o ∷ os) [] l x held e = absurd cc
at_hidden (o ∷ os) (k ∷ ls) zero x held e =
    or_left (is_some o && has_number k.hide x) (hidden_by os ls x) (and_from (is_some o) (has_number k.hide x) (ap is_some held.1) e)
at_hidden (o ∷ os) (k ∷ ls) (suc l) x held e =
    or_right (is_some o && has_number k.hide x) (hidden_by os ls x) (at_hidden os ls l x held e)

pub hidden_now : (p : Plain) (h : Holders) (x : ℕ) → is_hidden p h x ≡ true → IsHiddenNow p h x
hidden_now p h x e =
    ⊎_elim (λ locked. inl (hidden_at h p.locks x locked))
    (λ assumed. inr (any_at (λ t. has_number t.modes.assume_hide x) p.threads no_thread assumed))
    (or_cases (hidden_by h p.locks x) (list_any (λ t. has_number t.modes.assume_hide x) p.threads) e)

pub now_hidden : (p : Plain) (h : Holders) (x : ℕ) → IsHiddenNow p h x → is_hidden p h x ≡ true
now_hidden p h x (inl (l, held, e)) =
    or_left (hidden_by h p.locks x) (list_any (λ t. has_number t.modes.assume_hide x) p.threads) (at_hidden h p.locks l x held e)
now_hidden p h x (inr (t, e)) =
    or_right (hidden_by h p.locks x) (list_any (λ t. has_number t.modes.assume_hide x) p.threads)
    (at_any (λ t. has_number t.modes.assume_hide x) p.threads t no_thread refl e)

none_is : {X : Type 0} (o : Option X) → is_some o ≡ false → o ≡ None
none_is None h = refl
none_is (Some x) h = absurd cc

-- Agreement ----------------------------------------------------------------------------------------------------

neither_lock_nor_var : (l x : Option ℕ) → lock_or_var l x ≡ None → (l ≡ None) × (x ≡ None)
neither_lock_nor_var None None h = (refl, refl)
neither_lock_nor_var None (Some x) h = absurd cc
neither_lock_nor_var (Some l) x h = absurd cc

neither_var_nor_lock : (x l : Option ℕ) → var_or_lock x l ≡ None → (x ≡ None) × (l ≡ None)
neither_var_nor_lock None None h = (refl, refl)
neither_var_nor_lock None (Some l) h = absurd cc
neither_var_nor_lock (Some x) l h = absurd cc

-- a variable that counts and isn't apart has one word
same_counted : (m1 m2 : List ℕ) (x : ℕ) (counts : Bool) → (not (same_word m1 m2 x) && counts) ≡ false → counts ≡ true → SameAt m1 m2 x
same_counted m1 m2 x counts fails here =
    ⊎_elim (λ same. eqb-true (get_or m1 x 0) (get_or m2 x 0) (not-false (same_word m1 m2 x) same))
    (λ not_counted. let e : true ≡ false = sym here ∙ not_counted in absurd cc) (and_cases (not (same_word m1 m2 x)) counts fails)

counted_same : (m1 m2 : List ℕ) (x : ℕ) (counts : Bool) → (counts ≡ true → SameAt m1 m2 x) → (not (same_word m1 m2 x) && counts) ≡ false
counted_same m1 m2 x true same = words_same m1 m2 x true (same refl)
counted_same m1 m2 x false same = passed_over m1 m2 x false refl

module _ (p : Plain) (m1 : List ℕ) (h1 : Holders) (m2 : List ℕ) (h2 : Holders)
    (long1 : length m1 ≡ length p.vars) (locks1 : length h1 ≡ length p.locks)
    (long2 : length m2 ≡ length p.vars) (locks2 : length h2 ≡ length p.locks) where
  holders_same : first_lock p (holders_differ h1 h2) ≡ None → h1 ≡ h2
  holders_same none =
      same_lists h1 h2 (locks1 ∙ sym locks2)
      (λ k d inside.
      let same : holder h1 k ≡ holder h2 k =
      same_held (holder h1 k) (holder h2 k)
      (not-false (same_holder (holder h1 k) (holder h2 k)) (none_passes (holders_differ h1 h2) (length p.locks) none k (omega (arith, inside, locks1)))) in
      get_or_default h1 k d None inside ∙ same ∙ sym (get_or_default h2 k d None (omega (arith, inside, locks1, locks2))))

  compared_same : first_var p (is_apart p m1 h1 m2) ≡ None → (x : ℕ) → is_compared p m1 h1 x ≡ true → SameAt m1 m2 x
  compared_same none x counts =
      ⊎_elim (λ inside. same_counted m1 m2 x (is_compared p m1 h1 x) (none_passes (is_apart p m1 h1 m2) (length p.vars) none x inside) counts)
      (λ past. get_or_past m1 x 0 (omega (arith, past, long1)) ∙ sym (get_or_past m2 x 0 (omega (arith, past, long2))))
      (cases_lt x (length p.vars))

  pub agreed : first_difference p m1 h1 m2 h2 ≡ None → MemoriesAgree p m1 h1 m2 h2
  agreed e =
      let none = neither_lock_nor_var (first_lock p (holders_differ h1 h2)) (first_var p (is_apart p m1 h1 m2)) e in
      record {
        holders = holders_same none.0;
        controls = λ c h. compared_same none.1 c (or_left (is_control p c) (is_low_in p m1 c && not (is_hidden p h1 c)) h);
        visible = λ x low shown.
            compared_same none.1 x
            (or_right (is_control p x) (is_low_in p m1 x && not (is_hidden p h1 x))
            (and_from (is_low_in p m1 x) (not (is_hidden p h1 x)) (holds_true (class_of p x) m1 low)
            (not_from_false (is_hidden p h1 x) (false_from_ne_true (is_hidden p h1 x) (λ hidden. shown (hidden_now p h1 x hidden))))));
      }

module _ (p : Plain) (m1 : List ℕ) (h1 : Holders) (m2 : List ℕ) (h2 : Holders) (agree : MemoriesAgree p m1 h1 m2 h2) where
  agreed_word : (x : ℕ) → is_compared p m1 h1 x ≡ true → SameAt m1 m2 x
  agreed_word x counts =
      ⊎_elim (λ control. agree.controls x control)
      (λ visible.
      let parts = and_parts (is_low_in p m1 x) (not (is_hidden p h1 x)) visible in
      agree.visible x (true_holds (class_of p x) m1 parts.0)
      (λ hidden. let e : true ≡ false = sym (now_hidden p h1 x hidden) ∙ not-true (is_hidden p h1 x) parts.1 in absurd cc))
      (or_cases (is_control p x) (is_low_in p m1 x && not (is_hidden p h1 x)) counts)

  pub nothing_differs : first_difference p m1 h1 m2 h2 ≡ None
  nothing_differs =
      ap (λ l. lock_or_var l (first_var p (is_apart p m1 h1 m2)))
      (sym (none_found (holders_differ h1 h2) (length p.locks)
      (λ k inside.
      not_from_true (same_holder (holder h1 k) (holder h2 k))
      (subst (λ h. same_holder (holder h1 k) (holder h k) ≡ true) agree.holders (held_same (holder h1 k))))))
      ∙ ap (λ x. lock_or_var None x)
      (sym (none_found (is_apart p m1 h1 m2) (length p.vars) (λ x inside. counted_same m1 m2 x (is_compared p m1 h1 x) (agreed_word x))))

pub none_is_agreement : (p : Plain) (m1 : List ℕ) (h1 : Holders) (m2 : List ℕ) (h2 : Holders)
    → length m1 ≡ length p.vars → length h1 ≡ length p.locks → length m2 ≡ length p.vars → length h2 ≡ length p.locks
    → (o : Option Differ) → o ≡ first_difference p m1 h1 m2 h2 → IsNone o ↔ MemoriesAgree p m1 h1 m2 h2
none_is_agreement p m1 h1 m2 h2 long1 locks1 long2 locks2 o e =
    (λ none. agreed p m1 h1 m2 h2 long1 locks1 long2 locks2 (sym e ∙ none_is o none), λ agree. ap is_some (e ∙ nothing_differs p m1 h1 m2 h2 agree))

-- Starts -------------------------------------------------------------------------------------------------------

module _ (p : Plain) (m1 m2 : List ℕ) where
  low_past : (x : ℕ) → length p.vars ≤ x → is_low_in p m1 x ≡ false
  low_past x past = ap (λ v. is_true_in (class_term v.class) m1) (get_or_past p.vars x no_var past)

  invariant_past : (m : List ℕ) (l : ℕ) → length p.locks ≤ l → is_true_in (invariant_of p l) m ≡ true
  invariant_past m l past = ap (λ k. is_true_in (invariant_term k.inv) m) (get_or_past p.locks l no_lock past)

  low_same : first_var p (is_low_apart p m1 m2) ≡ None → (x : ℕ) → is_low_in p m1 x ≡ true → SameAt m1 m2 x
  low_same none x low =
      ⊎_elim (λ inside. same_counted m1 m2 x (is_low_in p m1 x) (none_passes (is_low_apart p m1 m2) (length p.vars) none x inside) low)
      (λ past. let e : true ≡ false = sym low ∙ low_past x past in absurd cc) (cases_lt x (length p.vars))

  invariants_hold : first_lock p (is_broken p m1 m2) ≡ None → (l : ℕ) → (is_true_in (invariant_of p l) m1 && is_true_in (invariant_of p l) m2) ≡ true
  invariants_hold none l =
      ⊎_elim (λ inside. not-false (is_true_in (invariant_of p l) m1 && is_true_in (invariant_of p l) m2) (none_passes (is_broken p m1 m2) (length p.locks) none l inside))
      (λ past. and_from (is_true_in (invariant_of p l) m1) (is_true_in (invariant_of p l) m2) (invariant_past m1 l past) (invariant_past m2 l past))
      (cases_lt l (length p.locks))

  pub fits : first_bad_start p m1 m2 ≡ None → AreFitStarts p m1 m2
  fits e =
      let none = neither_var_nor_lock (first_var p (is_low_apart p m1 m2)) (first_lock p (is_broken p m1 m2)) e in
      record {
        low = λ x low. low_same none.0 x (holds_true (class_of p x) m1 low);
        left = λ l.
            true_holds (invariant_of p l) m1 (and_parts (is_true_in (invariant_of p l) m1) (is_true_in (invariant_of p l) m2) (invariants_hold none.1 l)).0;
        right = λ l.
            true_holds (invariant_of p l) m2 (and_parts (is_true_in (invariant_of p l) m1) (is_true_in (invariant_of p l) m2) (invariants_hold none.1 l)).1;
      }

  pub nothing_bad : AreFitStarts p m1 m2 → first_bad_start p m1 m2 ≡ None
  nothing_bad fit =
      ap (λ x. var_or_lock x (first_lock p (is_broken p m1 m2)))
      (sym (none_found (is_low_apart p m1 m2) (length p.vars) (λ x inside. counted_same m1 m2 x (is_low_in p m1 x) (λ low. fit.low x (true_holds (class_of p x) m1 low)))))
      ∙ ap (λ l. var_or_lock None l)
      (sym (none_found (is_broken p m1 m2) (length p.locks)
      (λ l inside.
      not_from_true (is_true_in (invariant_of p l) m1 && is_true_in (invariant_of p l) m2)
      (and_from (is_true_in (invariant_of p l) m1) (is_true_in (invariant_of p l) m2) (holds_true (invariant_of p l) m1 (fit.left l)) (holds_true (invariant_of p l) m2 (fit.right l))))))

pub none_is_fit : (p : Plain) (m1 m2 : List ℕ) (o : Option BadStart) → o ≡ first_bad_start p m1 m2 → IsNone o ↔ AreFitStarts p m1 m2
none_is_fit p m1 m2 o e = (λ none. fits p m1 m2 (sym e ∙ none_is o none), λ fit. ap is_some (e ∙ nothing_bad p m1 m2 fit))
