-- Types that are too large to be built.
use Rattle.std.proofs.Common.{◌≡◌, ℕ, zero, suc, ◌+◌, ◌*◌, ◌<◌, ◌≤◌, ◌&&◌, ◌||◌, not, List, [], ◌∷◌, ◌++◌, length, get_or, map, Bool, true, false, Option, Some, None, option_map, is_some, cond, refl, sym, ap, ◌∙◌, arith, if◌then◌else◌, inl, inr}
use Rattle.std.specs.List.{list_all, list_any, flat_map}
use Rattle.std.proofs.lemmas.Bool.{and_left, and_right, eq-eqb, or_cases, or_left, or_right, or_parts, not-false, cases_Bool, false≢true}
use Rattle.std.proofs.lemmas.List.Folds.{list_all-append}
use Rattle.std.proofs.Math.Bool.{and-true}
use Rattle.cov_expr.specs.declared.expr.Op.TheVariants.{Add, Sub, Mul, And, Or, Xor, Eq, Ne, Lt, Le, Both, Either}
use Rattle.cov_expr.specs.Term.{Term, const, var, neg, bin}
use Rattle.cov_expr.specs.Trees.{same, nodes, conjuncts, has_term, vars}
use Rattle.cov_expr.proofs.Trees.{same_is}
use Rattle.cov_expr.proofs.Tests.{any_more}
use Rattle.cov_ast.specs.Declarations.{is_control, class_of, assumes, assumes_hide, hides, under}
use Rattle.cov_ast.specs.Plain.{Plain}
use Rattle.cov_ast.specs.Tables.{has}
use Rattle.mode_state.specs.Sets.{is_stable, is_hidden, locks_of}
use Rattle.point_law.specs.After.{updated_from, assigned_type, after_assign, forgotten_type, listed_or}
use Rattle.point_law.specs.Point.{IsPoint}
use Rattle.point_law.specs.Point.{Point, is_over_controls, given_type, ty_var, conjuncts_of_types, ty, has_small_types}
use Rattle.point_law.specs.Terms.{each_variable, with_term, with_terms, distinct_terms, is_one, without_ones, joined_from, joined, is_small, is_small_type}
use Rattle.typing_law.specs.Blocks.{value_type}
use Rattle.typing_law.specs.Entailments.{is_small_entailment, from_one_more, shown_value, controlled_values, retype_follows, assign_entailments}
use Rattle.typing_rules.proofs.ListedLaws.{large, large_goal, large_alone, large_before, large_if}

-- How many nodes a conjunction has ------------------------------------------------------------------------------

pub some_nodes : (e : Term) → 1 ≤ nodes e
some_nodes (const k) = omega arith
some_nodes (var x) = omega arith
some_nodes (neg e) = omega arith
some_nodes (bin op a b) = omega arith

-- each further part has a node, and so has its operator
joined_from_nodes : (e : Term) (fs : List Term) → nodes e + 2 * length fs ≤ nodes (joined_from e fs)
joined_from_nodes e [] = omega arith
joined_from_nodes e (f ∷ fs) = omega (arith, joined_from_nodes (bin Both e f) fs, some_nodes f)

pub joined_nodes : (es : List Term) → 2 * length es ≤ nodes (joined es) + 1
joined_nodes [] = omega arith
joined_nodes (e ∷ es) = omega (arith, joined_from_nodes e es, some_nodes e)

-- a type of more than 500 parts isn't small
pub large_type : (p : Plain) (t : ℕ) (a : Point) (e : Term) → 500 < length (conjuncts_of_types p t a (vars e)) → is_small (ty p t a e) ≡ false
large_type p t a e h = large (ty p t a e) (omega (arith, joined_nodes (conjuncts_of_types p t a (vars e))))

-- Variables of a conjunction -------------------------------------------------------------------------------------

module _ (test : ℕ → Bool) where
  abbrev each : List Term → Bool
  each es = list_all (each_variable test) es

  and_assoc : (a b c : Bool) → ((a && b) && c) ≡ (a && (b && c))
  and_assoc true b c = refl
  and_assoc false b c = refl

  each_joined_from : (e : Term) (fs : List Term) → each_variable test (joined_from e fs) ≡ (each_variable test e && each fs)
  each_joined_from e [] = sym (and-true (each_variable test e))
  each_joined_from e (f ∷ fs) = each_joined_from (bin Both e f) fs ∙ and_assoc (each_variable test e) (each_variable test f) (each fs)

  each_joined : (es : List Term) → each_variable test (joined es) ≡ each es
  each_joined [] = refl
  each_joined (e ∷ es) = each_joined_from e es

  -- an expression that is there already
  there : (es : List Term) (e : Term) → has_term es e ≡ true → (each es && each_variable test e) ≡ each es
  there [] e h = absurd (false≢true h)
  there (f ∷ es) e h = elim (or_cases (same f e) (has_term es e) h) [
    | inl i ↦ ap (λ g. (each_variable test f && each es) && each_variable test g) (sym (same_is f e i)) ∙ twice (each_variable test f) (each es)
    | inr i ↦ and_assoc (each_variable test f) (each es) (each_variable test e) ∙ ap (λ b. each_variable test f && b) (there es e i)
  ]
    where
      twice : (a b : Bool) → ((a && b) && a) ≡ (a && b)
      twice true b = and-true b
      twice false b = refl

  each_with : (es : List Term) (e : Term) → each (with_term es e) ≡ (each es && each_variable test e)
  each_with es e = at (has_term es e) refl
    where
      at : (b : Bool) → has_term es e ≡ b → each (if b then es else es ++ e ∷ []) ≡ (each es && each_variable test e)
      at true h = sym (there es e h)
      at false h = list_all-append (each_variable test) es (e ∷ []) ∙ ap (λ b. each es && b) (and-true (each_variable test e))

  each_with_all : (es fs : List Term) → each (with_terms es fs) ≡ (each es && each fs)
  each_with_all es [] = sym (and-true (each es))
  each_with_all es (f ∷ fs) =
      each_with_all (with_term es f) fs ∙ ap (λ b. b && each fs) (each_with es f) ∙ and_assoc (each es) (each_variable test f) (each fs)

  one_passes : (e : Term) → is_one e ≡ true → each_variable test e ≡ true
  one_passes (const k) h = refl
  one_passes (var x) h = absurd (false≢true h)
  one_passes (neg e) h = absurd (false≢true h)
  one_passes (bin op a b) h = absurd (false≢true h)

  each_without : (es : List Term) → each (without_ones es) ≡ each es
  each_without [] = refl
  each_without (e ∷ es) = at (each_without es) (is_one e) refl
    where
      at : each (without_ones es) ≡ each es → (b : Bool) → is_one e ≡ b
          → each (cond (not b) (e ∷ without_ones es) (without_ones es)) ≡ (each_variable test e && each es)
      at rest true h = rest ∙ ap (λ b. b && each es) (sym (one_passes e h))
      at rest false h = ap (λ b. each_variable test e && b) rest

  each_conjunct : (e : Term) → each (conjuncts e) ≡ each_variable test e
  each_conjunct (bin Both a b) =
      list_all-append (each_variable test) (conjuncts a) (conjuncts b) ∙ (λ i. each_conjunct a i && each_conjunct b i)
  each_conjunct (const k) = refl
  each_conjunct (var x) = and-true (test x)
  each_conjunct (neg e) = and-true (each_variable test e)
  each_conjunct (bin Add a b) = and-true (each_variable test (bin Add a b))
  each_conjunct (bin Sub a b) = and-true (each_variable test (bin Sub a b))
  each_conjunct (bin Mul a b) = and-true (each_variable test (bin Mul a b))
  each_conjunct (bin And a b) = and-true (each_variable test (bin And a b))
  each_conjunct (bin Or a b) = and-true (each_variable test (bin Or a b))
  each_conjunct (bin Xor a b) = and-true (each_variable test (bin Xor a b))
  each_conjunct (bin Eq a b) = and-true (each_variable test (bin Eq a b))
  each_conjunct (bin Ne a b) = and-true (each_variable test (bin Ne a b))
  each_conjunct (bin Lt a b) = and-true (each_variable test (bin Lt a b))
  each_conjunct (bin Le a b) = and-true (each_variable test (bin Le a b))
  each_conjunct (bin Either a b) = and-true (each_variable test (bin Either a b))

  each_flat : (f : ℕ → Term) (xs : List ℕ) → each (flat_map (λ x. conjuncts (f x)) xs) ≡ list_all (λ x. each_variable test (f x)) xs
  each_flat f [] = refl
  each_flat f (x ∷ xs) =
      list_all-append (each_variable test) (conjuncts (f x)) (flat_map (λ y. conjuncts (f y)) xs)
      ∙ (λ i. each_conjunct (f x) i && each_flat f xs i)

  pub each_of_types : (f : ℕ → Term) (xs : List ℕ)
      → each_variable test (joined (distinct_terms (without_ones (flat_map (λ x. conjuncts (f x)) xs)))) ≡ list_all (λ x. each_variable test (f x)) xs
  each_of_types f xs =
      let es = flat_map (λ x. conjuncts (f x)) xs in
      each_joined (distinct_terms (without_ones es)) ∙ each_with_all [] (without_ones es) ∙ each_without es ∙ each_flat f xs

-- The type of an expression is over stable controls exactly where that of each of its variables is.
pub controls_of_type : (p : Plain) (t : ℕ) (a : Point) (e : Term)
    → is_over_controls p t a.held (ty p t a e) ≡ list_all (λ y. is_over_controls p t a.held (ty_var p t a y)) (vars e)
controls_of_type p t a e = each_of_types (λ y. is_stable p t a.held y && is_control p y) (ty_var p t a) (vars e)

-- A large value -------------------------------------------------------------------------------------------------

-- a type of a list of types isn't small after each is replaced
large_from : (n k j : ℕ) (change : ℕ → Term → Term) (types : List (Option Term)) (g : Term) → get_or types k None ≡ Some g → j ≡ n + k
    → is_small (change j g) ≡ false → list_all is_small_type (updated_from n (λ x q. option_map (change x) q) types) ≡ false
large_from n k j change [] g is at h = cc
large_from n zero j change (q ∷ types) g is at h =
    let here : n ≡ j = omega arith in
    and_left (is_small_type (option_map (change n) q)) (list_all is_small_type (updated_from (suc n) (λ x q. option_map (change x) q) types))
    ((λ i. is_small_type (option_map (change (here i)) (is i))) ∙ h)
large_from n (suc k) j change (q ∷ types) g is at h =
    and_right (is_small_type (option_map (change n) q)) (list_all is_small_type (updated_from (suc n) (λ x q. option_map (change x) q) types))
    (large_from (suc n) k j change types g is (omega arith) h)

-- what is hidden is stable
hidden_stable : (p : Plain) (t : ℕ) (held : List Bool) (x : ℕ) → is_hidden p t held x ≡ true → is_stable p t held x ≡ true
hidden_stable p t held x h = elim (or_cases (assumes_hide p t x) (list_any (λ l. has held l && hides p l x) (locks_of p)) h) [
  | inl e ↦ or_left (assumes p t x) (list_any (λ l. has held l && under p l x) (locks_of p)) (or_right _ (assumes_hide p t x) e)
  | inr e ↦ or_right (assumes p t x) (list_any (λ l. has held l && under p l x) (locks_of p))
      (any_more (λ l. has held l && hides p l x) (λ l. has held l && under p l x) (locks_of p) (λ l. both (has held l) (hides p l x) _) e)
]
  where
    both : (a b c : Bool) → (a && b) ≡ true → (a && (c || b)) ≡ true
    both true b c e = or_right c b e
    both false b c e = e

-- An assignment of a value whose type isn't small: x := e without a type that is written.
module _ (p : Plain) (t : ℕ) (a : Point) (x : ℕ) (e : Term) (retypes : List (ℕ × Term)) where
  -- where another thread may read the variable, or it is a control, the type is the goal of an entailment
  large_shown : (is_control p x || not (is_hidden p t a.held x)) ≡ true → is_small (ty p t a e) ≡ false
      → list_all is_small_entailment (assign_entailments p t a x e None retypes) ≡ false
  large_shown shown h =
      let asked = from_one_more a.preds (class_of p x) (ty p t a e) in
      let values = shown_value p t a x (ty p t a e) in
      large_before (values ++ controlled_values p t a x e) (map (retype_follows p t a x e) retypes)
      (large_before values (controlled_values p t a x e)
      (large_if (is_control p x || not (is_hidden p t a.held x)) (asked ∷ []) shown (large_alone asked (large_goal asked.hyps asked.goal h))))

  -- else the variable is tracked, and has the type from then on
  large_kept : IsPoint p t a → x < length p.vars → is_control p x ≡ false → is_hidden p t a.held x ≡ true → is_small (ty p t a e) ≡ false
      → has_small_types (after_assign p t a x e (ty p t a e) retypes) ≡ false
  large_kept point inside other hidden h =
      given (given_type a x) refl (point.tracked x inside ∙ (λ i. hidden_stable p t a.held x hidden i && not (other i)))
    where
      given : (o : Option Term) → given_type a x ≡ o → is_some o ≡ true → has_small_types (after_assign p t a x e (ty p t a e) retypes) ≡ false
      given None is k = absurd (false≢true k)
      given (Some g) is k =
          large_from 0 x x (assigned_type p t a.held x (ty p t a e) retypes) a.types g is (omega arith)
          ((λ i. is_small (if other i then listed_or retypes x (forgotten_type p t a.held x x g) else (if eq-eqb x x refl i then ty p t a e else g))) ∙ h)

  pub large_value : IsPoint p t a → x < length p.vars → is_small (value_type p t a None e) ≡ false
      → (list_all is_small_entailment (assign_entailments p t a x e None retypes)
      && list_all has_small_types (after_assign p t a x e (value_type p t a None e) retypes ∷ [])) ≡ false
  large_value point inside h =
      let asked = list_all is_small_entailment (assign_entailments p t a x e None retypes) in
      let after = has_small_types (after_assign p t a x e (ty p t a e) retypes) in
      elim (cases_Bool (is_control p x || not (is_hidden p t a.held x))) [
        | inl shown ↦ and_left asked (after && true) (large_shown shown h)
        | inr unseen ↦
            (let parts = or_parts (is_control p x) (not (is_hidden p t a.held x)) unseen in
            and_right asked (after && true) (and_left after true (large_kept point inside parts.0 (not-false (is_hidden p t a.held x) parts.1) h)))
      ]
