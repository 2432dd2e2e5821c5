-- Types of expressions, and lists of predicates.
use Rattle.std.proofs.Common.{◌≡◌, ℕ, ◌<◌, ◌==◌, ◌&&◌, not, List, [], ◌∷◌, ◌++◌, length, filter, Bool, true, false, cond, refl, subst, IsTrue, ⊎_elim, eqb-true}
use Rattle.std.proofs.lemmas.Bool.{or_cases}
use Rattle.std.specs.List.{flat_map}
use Rattle.cov_expr.specs.Entailment.{Holds, AllHold}
use Rattle.cov_expr.specs.Term.{Term, const, value}
use Rattle.cov_expr.specs.Trees.{mentions, conjuncts, vars, has_term, has_number}
use Rattle.cov_expr.proofs.Values.{value_mentioned}
use Rattle.entail_cert.proofs.Truth.{all_left, all_right}
use Rattle.cov_ast.specs.Declarations.{class_of, is_control}
use Rattle.cov_ast.specs.Plain.{Plain}
use Rattle.flow_model.specs.Source.{Holders}
use Rattle.flow_model.specs.Holdings.{IsStableNow, IsHiddenNow}
use Rattle.flow_model.specs.Agreement.{SameAt}
use Rattle.mode_state.specs.Sets.{is_stable, may_read}
use Rattle.mode_compat.specs.Declared.{IsDeclared}
use Rattle.point_law.specs.Terms.{with_term, with_terms, distinct_terms}
use Rattle.point_law.specs.Point.{Point, type_at, ty, ty_var}
use Rattle.point_law.specs.After.{with_term_if}
use Rattle.typing_law.proofs.Soundness.Fits.{World, Fits, IsNotForeign, AllOver, AllStable}
use Rattle.typing_law.proofs.Soundness.Lists.{with_holds, all_joined_hold, parts_hold, in_vars}
use Rattle.typing_law.proofs.Soundness.Static.{stable_gives, stable_of, readable_not_foreign, unstable_shown, clash, cond_is}

pub not_const_zero : (m : List ℕ) → ¬ Holds (const 0) m
not_const_zero m h = h refl

pub one_holds : (m : List ℕ) → Holds (const 1) m
one_holds m e = cc

-- Lists of predicates ------------------------------------------------------------------------------------------

pub filter_holds : (f : Term → Bool) (es : List Term) (m m' : List ℕ) → ((e : Term) → f e ≡ true → Holds e m → Holds e m') → AllHold es m
    → AllHold (filter f es) m'
filter_holds f [] m m' k h = tt
filter_holds f (e ∷ es) m m' k h =
    let rest = filter_holds f es m m' k h.1 in
    cond_is (λ fs. AllHold fs m') (f e) (e ∷ filter f es) (filter f es) (λ i. (k e i h.0, rest)) (λ _. rest)

pub with_if_holds : (b : Bool) (es : List Term) (e : Term) (m : List ℕ) → AllHold es m → (b ≡ true → Holds e m) → AllHold (with_term_if b es e) m
with_if_holds false es e m h k = h
with_if_holds true es e m h k = with_holds m es e h (k refl)

module _ (p : Plain) (t : ℕ) where
  over_both : (h : Holders) (a b : List Term) → AllOver p t h a → AllOver p t h b → AllOver p t h (a ++ b)
  over_both h [] b o k = k
  over_both h (e ∷ a) b o k = (o.0, over_both h a b o.1 k)

  pub with_over : (h : Holders) (es : List Term) (e : Term) → AllOver p t h es → AllStable p t h e → AllOver p t h (with_term es e)
  with_over h es e o k = cond_is (λ fs. AllOver p t h fs) (has_term es e) es (es ++ e ∷ []) (λ _. o) (λ _. over_both h es (e ∷ []) o (k, tt))

  all_with_over : (h : Holders) (es fs : List Term) → AllOver p t h es → AllOver p t h fs → AllOver p t h (with_terms es fs)
  all_with_over h es [] o k = o
  all_with_over h es (f ∷ fs) o k = all_with_over h (with_term es f) fs (with_over h es f o k.0) k.1

  pub distinct_over : (h : Holders) (es : List Term) → AllOver p t h es → AllOver p t h (distinct_terms es)
  distinct_over h es o = all_with_over h [] es tt o

  pub with_if_over : (h : Holders) (b : Bool) (es : List Term) (e : Term) → AllOver p t h es → (b ≡ true → AllStable p t h e)
      → AllOver p t h (with_term_if b es e)
  with_if_over h false es e o k = o
  with_if_over h true es e o k = with_over h es e o (k refl)

  pub filter_over : (h h' : Holders) (f : Term → Bool) (es : List Term) → ((e : Term) → f e ≡ true → AllStable p t h e → AllStable p t h' e)
      → AllOver p t h es → AllOver p t h' (filter f es)
  filter_over h h' f [] k o = tt
  filter_over h h' f (e ∷ es) k o =
      let rest = filter_over h h' f es k o.1 in
      cond_is (λ fs. AllOver p t h' fs) (f e) (e ∷ filter f es) (filter f es) (λ i. (k e i o.0, rest)) (λ _. rest)

-- Types of expressions -----------------------------------------------------------------------------------------

module _ (p : Plain) (d : IsDeclared p) (t : ℕ) (t_in : t < length p.threads) (a : Point) (w : World) (f : Fits p t a w) where
  pub var_agrees : (y : ℕ) → IsNotForeign p t y → (¬ IsStableNow p w.holders t y → ¬ IsHiddenNow p w.holders y) → Holds (ty_var p t a y) w.left
      → SameAt w.left w.right y
  var_agrees y n u = go (is_control p y) refl (is_stable p t a.held y) refl
    where
      go : (b : Bool) → is_control p y ≡ b → (c : Bool) → is_stable p t a.held y ≡ c
          → Holds (cond b (const 1) (cond (c && not b) (type_at a y) (class_of p y))) w.left → SameAt w.left w.right y
      go true i c j k = f.settled.agree.controls y i
      go false i true j k = f.types y (stable_gives p d t t_in w.holders a.held f.held y j) i n k
      go false i false j k =
          f.settled.agree.visible y k (u (λ s. clash (is_stable p t a.held y) (stable_of p d t t_in w.holders a.held f.held y s) j))

  parts_give : (xs : List ℕ) (y : ℕ) → AllHold (flat_map (λ x. conjuncts (ty_var p t a x)) xs) w.left → IsTrue (has_number xs y)
      → Holds (ty_var p t a y) w.left
  parts_give [] y h k = absurd (let c : false ≡ true = k in cc)
  parts_give (x ∷ xs) y h k =
      let rest = flat_map (λ x. conjuncts (ty_var p t a x)) xs in
      ⊎_elim
      (λ i. subst (λ x. Holds (ty_var p t a x) w.left) (eqb-true x y i)
      (parts_hold w.left (ty_var p t a x) (all_left w.left (conjuncts (ty_var p t a x)) rest h)))
      (λ i. parts_give xs y (all_right w.left (conjuncts (ty_var p t a x)) rest h) i) (or_cases (x == y) (has_number xs y) k)

  -- Where its type holds, an expression that may be read has one value in both.
  pub term_agrees : (e : Term) → ((y : ℕ) → IsTrue (mentions e y) → IsTrue (may_read p t a.held y)) → Holds (ty p t a e) w.left
      → value e w.left ≡ value e w.right
  term_agrees e r h =
      value_mentioned e w.left w.right (λ y n.
      var_agrees y (readable_not_foreign p d t t_in w.holders a.held f.held y (r y n)) (unstable_shown p d t t_in w.holders a.held f.held y (r y n))
      (parts_give (vars e) y (all_joined_hold w.left (flat_map (λ x. conjuncts (ty_var p t a x)) (vars e)) h) (in_vars e y n)))
