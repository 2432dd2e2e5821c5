-- Laws of locks that are taken and given back.
use Rattle.std.proofs.Common.{◌≡◌, ℕ, ◌<◌, ◌&&◌, ◌||◌, List, [], ◌∷◌, Bool, true, false, not, length, map, get_or, set, refl, sym, ap, ◌∙◌, arith, Option, Some, None, option_map, is_some, if◌then◌else◌, inl, inr}
use Rattle.std.specs.List.{list_any}
use Rattle.std.proofs.lemmas.List.{length-set, get_or-map, get_or-set_same, get_or-set_other}
use Rattle.std.proofs.lemmas.Bool.{cases_eq, and_parts, not-true}
use Rattle.std.proofs.Math.Bool.{or-true}
use Rattle.cov_expr.specs.Term.{Term, const, var, neg, bin}
use Rattle.cov_expr.specs.Trees.{is_closed}
use Rattle.cov_expr.proofs.Tests.{any_more}
use Rattle.cov_ast.specs.Plain.{Plain}
use Rattle.cov_ast.specs.Declarations.{class_of, is_control, no_lock, under, assumes}
use Rattle.cov_ast.specs.Tables.{has}
use Rattle.cov_ast.specs.View as view
use Rattle.cov_ast.specs.declared.decl.LockDecl.{LockDecl}
use Rattle.mode_state.specs.Sets.{Sets, modes_at, is_stable, locks_of}
use Rattle.mode_state.proofs.HeldLaws.{any_from}
use Rattle.point_law.specs.Point.{Point, is_tracked, given_type, default_type}
use Rattle.point_law.specs.After.{locked_type, unlocked_type, kept_type, updated}
use Rattle.point_law.specs.Point.{IsPoint}
use Rattle.typing_state.specs.Inside.Tells.{IsTrackedBeside}
use Rattle.point_law.specs.Terms.{each_variable, is_closed_type}
use Rattle.point_law.proofs.PointLaws.{updated_at, length-updated, some_mapped}
use Rattle.typing_state.proofs.VariableLaws.{lists_is}

pub lock_of : (locks : List LockDecl) (l : ℕ) (lock : LockDecl) → l < length locks → lock ≡ get_or locks l lock → view.lock lock ≡ get_or (map view.lock locks) l no_lock
lock_of locks l lock inside is = ap view.lock is ∙ sym (get_or-map view.lock locks l lock no_lock inside)

-- Which variables are stable then ------------------------------------------------------------------------------

any_same : (f g : ℕ → Bool) (xs : List ℕ) → ((k : ℕ) → f k ≡ g k) → list_any f xs ≡ list_any g xs
any_same f g [] h = refl
any_same f g (x ∷ xs) h = λ i. h x i || any_same f g xs h i

-- a variable that a lock doesn't list is as stable as before, when the lock is taken or given back
unlisted_stable : (p : Plain) (t l : ℕ) (held : List Bool) (b : Bool) (x : ℕ) → under p l x ≡ false → is_stable p t (set held l b) x ≡ is_stable p t held x
unlisted_stable p t l held b x h =
    ap (λ s. assumes p t x || s)
    (any_same (λ k. has (set held l b) k && under p k x) (λ k. has held k && under p k x) (locks_of p)
    (λ k. elim (cases_eq l k) [
      | inl e ↦ none_at (has (set held l b) k) (under p k x) (ap (λ j. under p j x) (sym e) ∙ h) ∙ sym (none_at (has held k) (under p k x) (ap (λ j. under p j x) (sym e) ∙ h))
      | inr ne ↦ ap (λ s. s && under p k x) (get_or-set_other held l k b false (λ e. ne (sym e)))
    ]))
  where
    none_at : (a b : Bool) → b ≡ false → (a && b) ≡ false
    none_at true b e = e
    none_at false b e = refl

module _ (p : Plain) (t l : ℕ) (held : List Bool) (count : length held ≡ length p.locks) (inside : l < length p.locks) where
  -- a variable of the lock
  stable_under : (x : ℕ) → under p l x ≡ true → is_stable p t (set held l true) x ≡ true
  stable_under x h =
      ap (λ b. assumes p t x || b)
      (any_from (λ k. has (set held l true) k && under p k x) 0 (length p.locks) l (omega arith) (omega arith)
      (ap (λ b. b && under p l x) (get_or-set_same held l true false (omega (arith, count))) ∙ h)) ∙ or-true (assumes p t x)

  tracked_then : (x : ℕ) (u c : Bool) (q : Option Term) → under p l x ≡ u → is_control p x ≡ c → is_some q ≡ is_tracked p t held x
      → is_some (if u && not c then Some (class_of p x) else q) ≡ (is_stable p t (set held l true) x && not c)
  tracked_then x true true q h e k = k ∙ (λ i. is_stable p t held x && not (e i)) ∙ nothing (is_stable p t held x) ∙ sym (nothing (is_stable p t (set held l true) x))
    where
      nothing : (b : Bool) → (b && false) ≡ false
      nothing true = refl
      nothing false = refl
  tracked_then x true false q h e k = sym (ap (λ b. b && true) (stable_under x h))
  tracked_then x false c q h e k = k ∙ (λ i. sym (unlisted_stable p t l held true x h) i && not (e i))

  -- each variable that is tracked has a type then
  pub locked_tracked : (x : ℕ) (q : Option Term) → is_some q ≡ is_tracked p t held x → is_some (locked_type p l x q) ≡ is_tracked p t (set held l true) x
  locked_tracked x q e = tracked_then x (under p l x) (is_control p x) q refl refl e

-- Which variables are stable once it is given back -------------------------------------------------------------

module _ (p : Plain) (t l : ℕ) (held : List Bool) (count : length held ≡ length p.locks) (inside : l < length p.locks) where
  held_before : (k : ℕ) (u : Bool) → (has (set held l false) k && u) ≡ true → (has held k && u) ≡ true
  held_before k u e = elim (cases_eq l k) [
    | inl same ↦ never (has (set held l false) k) u (ap (λ j. has (set held l false) j) (sym same) ∙ get_or-set_same held l false false (omega (arith, count))) e
    | inr ne ↦ ap (λ b. b && u) (sym (get_or-set_other held l k false false (λ e. ne (sym e)))) ∙ e
  ]
    where
      never : (a b : Bool) → a ≡ false → (a && b) ≡ true → (has held k && u) ≡ true
      never true b h e = cc
      never false b h e = cc

  still : (a b c d : Bool) → (b ≡ true → c ≡ true) → ((a || b) && d) ≡ true → ((a || c) && d) ≡ true
  still true b c d h e = e
  still false true c d h e = ap (λ s. s && d) (h refl) ∙ e
  still false false c d h e = cc

  tracked_before : (x : ℕ) → is_tracked p t (set held l false) x ≡ true → is_tracked p t held x ≡ true
  tracked_before x e =
      still (assumes p t x) (list_any (λ k. has (set held l false) k && under p k x) (locks_of p)) (list_any (λ k. has held k && under p k x) (locks_of p)) (not (is_control p x))
      (any_more (λ k. has (set held l false) k && under p k x) (λ k. has held k && under p k x) (locks_of p) (λ k h. held_before k (under p k x) h)) e

  tracked_after : (x : ℕ) (b : Bool) (f : Term → Term) (q : Option Term) → is_tracked p t (set held l false) x ≡ b → is_some q ≡ is_tracked p t held x
      → is_some (if b then option_map f q else None) ≡ b
  tracked_after x true f q e h = some_mapped f q ∙ h ∙ tracked_before x e
  tracked_after x false f q e h = refl

  pub unlocked_tracked : (x : ℕ) (q : Option Term) → is_some q ≡ is_tracked p t held x → is_some (unlocked_type p t (set held l false) x q) ≡ is_tracked p t (set held l false) x
  unlocked_tracked x q e = tracked_after x (is_tracked p t (set held l false) x) (kept_type p t (set held l false) x) q refl e

-- a lock is held or not from then on, and each variable that is tracked then has a type
pub held_point : (p : Plain) (t l : ℕ) (a : Point) (b : Bool) (f : ℕ → Option Term → Option Term) (es : List Term) → IsPoint p t a
    → ((x : ℕ) → is_some (given_type a x) ≡ is_tracked p t a.held x → is_some (f x (given_type a x)) ≡ is_tracked p t (set a.held l b) x)
    → IsPoint p t (record { held = set a.held l b; types = updated f a.types; preds = es })
held_point p t l a b f es h tracked = record {
  complete = length-updated f a.types ∙ h.complete;
  locks = length-set a.held l b ∙ h.locks;
  tracked = λ x lt.
      let there : x < length a.types = omega (arith, h.complete) in
      ap is_some (updated_at f a.types x None there) ∙ tracked x (h.tracked x lt);
}

-- What a lock that is given back leaves alone ------------------------------------------------------------------

-- an expression without variables passes each test of them
closed_passes : (f : ℕ → Bool) (e : Term) → is_closed e ≡ true → each_variable f e ≡ true
closed_passes f (const k) h = refl
closed_passes f (var x) h = absurd (cc)
closed_passes f (neg a) h = closed_passes f a h
closed_passes f (bin op a b) h =
    let parts = and_parts (is_closed a) (is_closed b) h in λ i. closed_passes f a parts.0 i && closed_passes f b parts.1 i

-- beside a lock that is given back, what is tracked has a type
pub tracked_beside : (p : Plain) (t l : ℕ) (a : Point) → IsPoint p t a → IsTrackedBeside p t (set a.held l false) l a.types
tracked_beside p t l a h x lt away = h.tracked x lt ∙ ap (λ b. b && not (is_control p x)) (sym (unlisted_stable p t l a.held false x away))

-- a type without variables is kept, and so is that there is none
unlocked_keeps : (p : Plain) (t : ℕ) (held : List Bool) (x : ℕ) (q : Option Term) → is_some q ≡ is_tracked p t held x → is_closed_type q ≡ true
    → unlocked_type p t held x q ≡ q
unlocked_keeps p t held x None some closed = nothing (is_tracked p t held x)
  where
    nothing : (b : Bool) → (if b then option_map (kept_type p t held x) None else None) ≡ None
    nothing true = refl
    nothing false = refl
unlocked_keeps p t held x (Some g) some closed =
    ap (λ b. if b then option_map (kept_type p t held x) (Some g) else None) (sym some)
    ∙ ap (λ b. Some (if b then g else default_type p t held x)) (closed_passes (is_stable p t held) g closed)

-- a variable that the walk passes over keeps what it had
pub passed_keeps : (p : Plain) (t : ℕ) (held : List Bool) (s : Sets) (l k : ℕ) (qs now : List (Option Term)) → s ≡ modes_at p t held → l < length p.locks → k < length p.vars
    → IsTrackedBeside p t held l qs → get_or now k None ≡ get_or qs k None → (not (has (get_or s.listed l []) k) && is_closed_type (get_or now k None)) ≡ true
    → unlocked_type p t held k (get_or qs k None) ≡ get_or qs k None
passed_keeps p t held s l k qs now modes lock declared tracked same done =
    let parts = and_parts (not (has (get_or s.listed l []) k)) (is_closed_type (get_or now k None)) done in
    let away = not-true (has (get_or s.listed l []) k) parts.0 in
    unlocked_keeps p t held k (get_or qs k None) (tracked k declared (sym (lists_is p t held s l k modes lock declared) ∙ away)) (ap is_closed_type (sym same) ∙ parts.1)
