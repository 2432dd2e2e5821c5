-- The sets along the text against the holders of a state.
use Rattle.std.proofs.Common.{◌≡◌, ℕ, zero, suc, ◌<◌, ◌||◌, ◌&&◌, not, List, [], ◌∷◌, length, get_or, Bool, true, false, Some, refl, sym, ◌∙◌, ap, subst, arith, IsTrue, inl, inr, ⊎_elim, eqb-true, cond}
use Rattle.std.proofs.lemmas.Bool.{or_cases, or_left, or_right, not-true, false_from_ne_true, and_from}
use Rattle.std.proofs.Math.Decide.{ℕ_discrete}
use Rattle.std.specs.List.{list_any}
use Rattle.cov_expr.specs.Term.{Term, const, var, neg, bin}
use Rattle.cov_expr.specs.Trees.{mentions}
use Rattle.cov_expr.proofs.Tests.{left_true, right_true, passing, each_below}
use Rattle.cov_ast.specs.Declarations.{assumes, assumes_hide, class_of, guarantees_hide, hides, is_control, is_low, no_var, under}
use Rattle.cov_ast.specs.Plain.{Plain, class_term}
use Rattle.cov_ast.specs.Syntax.{Class, low, high, when, Var}
use Rattle.cov_ast.specs.Tables.{has}
use Rattle.flow_model.specs.Source.{Holders, holder}
use Rattle.flow_model.specs.Holdings.{IsStableNow, IsWritableNow, IsHiddenNow}
use Rattle.flow_model.proofs.Holders.{held_is, is_held}
use Rattle.mode_state.specs.Sets.{is_stable, is_hidden, may_read, may_write}
use Rattle.mode_state.proofs.HeldLaws.{any_from}
use Rattle.mode_compat.specs.Declared.{IsDeclared}
use Rattle.mode_compat.specs.HeldSets.{AreHeldBy}
use Rattle.mode_compat.proofs.Apart.{sets_of, listing_is_declared}
use Rattle.point_law.specs.Terms.{each_variable}
use Rattle.point_law.specs.Point.{is_over_stable, is_over_controls}
use Rattle.typing_law.proofs.Soundness.Fits.{IsNotForeign}

pub clash {ℓ} : {A : Type ℓ} (b : Bool) → b ≡ true → b ≡ false → A
clash b h k = absurd (let e : true ≡ false = sym h ∙ k in cc)

pub cond_is {ℓ} : {A : Type 0} (Q : A → Type ℓ) (b : Bool) (x y : A) → (b ≡ true → Q x) → (b ≡ false → Q y) → Q (cond b x y)
cond_is Q true x y h k = h refl
cond_is Q false x y h k = k refl

-- Variables of an expression pass a test that each passes.
pub each_gives : (f : ℕ → Bool) (e : Term) (y : ℕ) → IsTrue (each_variable f e) → IsTrue (mentions e y) → IsTrue (f y)
each_gives f (const k) y h n = cc
each_gives f (var x) y h n = subst (λ z. IsTrue (f z)) (eqb-true x y n) h
each_gives f (neg e) y h n = each_gives f e y h n
each_gives f (bin op a b) y h n =
    ⊎_elim (λ k. each_gives f a y (left_true (each_variable f a) (each_variable f b) h) k)
    (λ k. each_gives f b y (right_true (each_variable f a) (each_variable f b) h) k) (or_cases (mentions a y) (mentions b y) n)

-- Numbers below a bound --------------------------------------------------------------------------------------------

-- Classes and locks --------------------------------------------------------------------------------------------

control_in : (vs : List Var) (y c : ℕ) → IsTrue (mentions (class_term (get_or vs y no_var).class) c)
    → IsTrue (list_any (λ v. mentions (class_term v.class) c) vs)
control_in [] y c h = cc
control_in (v ∷ vs) zero c h = or_left _ _ h
control_in (v ∷ vs) (suc y) c h = or_right (mentions (class_term v.class) c) _ (control_in vs y c h)

pub control_of : (p : Plain) (y c : ℕ) → IsTrue (mentions (class_of p y) c) → IsTrue (is_control p c)
control_of p y c h = control_in p.vars y c h

low_is : (k : Class) → IsTrue (is_low k) → class_term k ≡ const 1
low_is low h = refl
low_is high h = absurd (let c : false ≡ true = h in cc)
low_is (when e) h = absurd (let c : false ≡ true = h in cc)

pub class_of_control : (p : Plain) → IsDeclared p → (c : ℕ) → IsTrue (is_control p c) → class_of p c ≡ const 1
class_of_control p d c h = low_is _ (d.controls_low c h)

pub under_hide : (p : Plain) (l x : ℕ) → IsTrue (hides p l x) → IsTrue (under p l x)
under_hide p l x k = or_right _ (hides p l x) k

-- Sets ---------------------------------------------------------------------------------------------------------

module _ (p : Plain) (t : ℕ) (H : List Bool) where
  pub read_allowed : (x : ℕ) → IsTrue (may_read p t H x) → guarantees_hide p t x ≡ false
  read_allowed x r = not-true _ (left_true _ _ r)

  pub read_held : (x l : ℕ) → IsTrue (may_read p t H x) → IsTrue (hides p l x) → IsTrue (has H l)
  read_held x l r k =
      let here = each_below (λ l. not (hides p l x) || has H l) 0 (length p.locks) l (omega arith)
      (omega (arith, listing_is_declared p l x (under_hide p l x k))) (right_true (not (guarantees_hide p t x)) _ r) in
      sym (ap (λ b. not b || has H l) k) ∙ here

module _ (p : Plain) (d : IsDeclared p) (t : ℕ) (t_in : t < length p.threads) (h : Holders) (H : List Bool) (held : AreHeldBy h t H) where
  pub held_gives : (l : ℕ) → IsTrue (has H l) → holder h l ≡ Some t
  held_gives l k = held_is (holder h l) t (sym (held l) ∙ k)

  pub held_of : (l : ℕ) → holder h l ≡ Some t → IsTrue (has H l)
  held_of l k = held l ∙ is_held (holder h l) t k

  pub stable_gives : (x : ℕ) → IsTrue (is_stable p t H x) → IsStableNow p h t x
  stable_gives x k = ((sets_of p h t H held).stable x).0 k

  pub stable_of : (x : ℕ) → IsStableNow p h t x → IsTrue (is_stable p t H x)
  stable_of x k = ((sets_of p h t H held).stable x).1 k

  pub writable : (x : ℕ) → IsTrue (may_write p t H x) → IsWritableNow p h t x
  writable x k = ((sets_of p h t H held).writable x).0 k

  hidden_gives : (x : ℕ) → IsTrue (is_hidden p t H x) → IsHiddenNow p h x
  hidden_gives x k =
      ⊎_elim (λ a. inr (t, a))
      (λ a. let r = passing (λ l. has H l && hides p l x) 0 (length p.locks) a in
      inl (r.0, (t, held_gives r.0 (left_true _ _ r.1)), right_true (has H r.0) _ r.1)) (or_cases (assumes_hide p t x) _ k)

  hide_of : (l x : ℕ) → IsTrue (has H l) → IsTrue (hides p l x) → IsTrue (is_hidden p t H x)
  hide_of l x k u =
      or_right (assumes_hide p t x) _
      (any_from (λ l. has H l && hides p l x) 0 (length p.locks) l (omega arith) (omega (arith, listing_is_declared p l x (under_hide p l x u)))
      (and_from (has H l) (hides p l x) k u))

  pub shown_of : (x : ℕ) → ¬ IsHiddenNow p h x → is_hidden p t H x ≡ false
  shown_of x n = false_from_ne_true (is_hidden p t H x) (λ e. n (hidden_gives x e))

  -- What the thread has stable and doesn't hide, and no other assumes hidden, isn't hidden.
  pub stable_shown : (x : ℕ) → IsStableNow p h t x → is_hidden p t H x ≡ false → IsNotForeign p t x → ¬ IsHiddenNow p h x
  stable_shown x (inl a) n f (inl (l, (u, e), k)) = clash (assumes p t x) a (d.not_assumed l x t (under_hide p l x k))
  stable_shown x (inr (j, e', u')) n f (inl (l, (u, e), k)) =
      let same : j ≡ l = d.one_lock x j l u' (under_hide p l x k) in
      clash (is_hidden p t H x) (hide_of l x (subst (λ i. IsTrue (has H i)) same (held_of j e')) k) n
  stable_shown x s n f (inr (u, k)) = go (ℕ_discrete u t)
    where
      go : Dec (u ≡ t) → ⊥
      go (yes e) = clash (is_hidden p t H x) (or_left _ _ (subst (λ i. IsTrue (assumes_hide p i x)) e k)) n
      go (no e) = clash (assumes_hide p u x) k (f u e)

  pub readable_not_foreign : (x : ℕ) → IsTrue (may_read p t H x) → IsNotForeign p t x
  readable_not_foreign x r u n =
      false_from_ne_true (assumes_hide p u x) (λ e. clash (guarantees_hide p t x) (d.met_hide u t x t_in n e) (read_allowed p t H x r))

  -- What the thread may read and hasn't stable isn't hidden.
  pub unstable_shown : (x : ℕ) → IsTrue (may_read p t H x) → ¬ IsStableNow p h t x → ¬ IsHiddenNow p h x
  unstable_shown x r n (inl (l, (u, e), k)) = n (inr (l, held_gives l (read_held p t H x l r k), under_hide p l x k))
  unstable_shown x r n (inr (u, k)) = go (ℕ_discrete u t)
    where
      go : Dec (u ≡ t) → ⊥
      go (yes e) = n (inl (or_right _ (assumes_hide p t x) (subst (λ i. IsTrue (assumes_hide p i x)) e k)))
      go (no e) = clash (assumes_hide p u x) k (readable_not_foreign x r u e)

  pub not_foreign_of_shown : (x : ℕ) → ¬ IsHiddenNow p h x → IsNotForeign p t x
  not_foreign_of_shown x n u k = false_from_ne_true (assumes_hide p u x) (λ e. n (inr (u, e)))

  -- The class of what the thread has stable is over stable controls.
  pub class_over : (x : ℕ) → IsStableNow p h t x → (y : ℕ) → IsTrue (mentions (class_of p x) y) → IsStableNow p h t y × IsTrue (is_control p y)
  class_over x (inl a) y k = (inl (d.assumed_controls t x y a k), control_of p x y k)
  class_over x (inr (l, e, u)) y k =
      (⊎_elim (λ c. inr (l, e, c)) (λ c. inl (c t t_in)) (d.lock_controls l x y u k), control_of p x y k)

  -- What passes the tests of a type, or of a predicate, is over stable controls, or over stable variables.
  pub over_gives : (q : Term) → IsTrue (is_over_controls p t H q) → (y : ℕ) → IsTrue (mentions q y) → IsStableNow p h t y × IsTrue (is_control p y)
  over_gives q k y n =
      let both = each_gives (λ y. is_stable p t H y && is_control p y) q y k n in
      (stable_gives y (left_true _ (is_control p y) both), right_true (is_stable p t H y) _ both)

  pub all_stable : (e : Term) → IsTrue (is_over_stable p t H e) → (y : ℕ) → IsTrue (mentions e y) → IsStableNow p h t y
  all_stable e k y n = stable_gives y (each_gives (is_stable p t H) e y k n)
