-- The goals of the questions of a statement are those of its entailments, and depend on the types of their variables alone.
use Rattle.std.proofs.Common.{◌≡◌, ℕ, List, [], ◌∷◌, ◌++◌, map, refl, ap, ap₂, Option, Some, None, if◌then◌else◌}
use Rattle.std.specs.List.{AllZip}
use Rattle.std.specs.Prelude.{flat_map}
use Rattle.std.proofs.lemmas.List.Elements.{All-head, All-tail}
use Rattle.cov_expr.specs.Term.{Term, const}
use Rattle.cov_expr.specs.Trees.{conjuncts, vars}
use Rattle.cov_ast.specs.Declarations.{class_of, is_control}
use Rattle.cov_ast.specs.Plain.{Plain}
use Rattle.cov_ast.specs.Syntax.{Stm}
use Rattle.typing_law.specs.Blocks.{value_type}
use Rattle.point_law.specs.Point.{Point, is_tracked, ty, ty_var, type_at}
use Rattle.point_law.specs.Terms.{distinct_terms, joined, without_ones}
use Rattle.statement_parts.specs.Parts.{parts, Store, untyped, where_unwritten}
use Rattle.entail_origins.specs.AskedVariables.{assigned_value, variables_of, vars_of}
use Rattle.entail_origins.specs.GoalTypes.{AgreeOnTypes, asked_point, goal_of, goals, goals_of, stored_type, type_of_any}
use Rattle.entail_origins.specs.OwnEntailments.{own_entailments}
use Rattle.entail_origins.specs.Questions.{questions}
use Rattle.entail_origins.specs.declared.kinds.Question.{Question}
use Rattle.entail_origins.specs.declared.kinds.Question.TheVariants as q
use Rattle.entail_origins.proofs.QuestionsInStep.{IsAsked, in_step}

-- The goals of entailments -----------------------------------------------------------------------------------------

-- where each item of one list gives that of the other
zip_same : {A B C : Type 0} (R : A → B → Type 0) (f : A → C) (g : B → C) → ((x : A) (y : B) → R x y → g y ≡ f x)
    → (xs : List A) (ys : List B) → AllZip R xs ys → map g ys ≡ map f xs
zip_same R f g each [] [] h = refl
zip_same R f g each [] (y ∷ ys) h = absurd h
zip_same R f g each (x ∷ xs) [] h = absurd h
zip_same R f g each (x ∷ xs) (y ∷ ys) h = ap₂ (λ u us. u ∷ us) (each x y h.0) (zip_same R f g each xs ys h.1)

pub as_asked : (p : Plain) (t : ℕ) (s : Stm) (a : Point) → goals (own_entailments p t s a) ≡ goals_of p t s a
as_asked p t s a =
    zip_same (IsAsked p t s a) (λ question. goal_of p t question s (asked_point p t question s a)) (λ g. g.goal) (λ question g h. h.1)
    (questions p t a.held s) (own_entailments p t s a) (in_step p t s a)

-- What a goal depends on -----------------------------------------------------------------------------------------

module _ (p : Plain) (t : ℕ) (a b : Point) (held : a.held ≡ b.held) where
  same_var : (z : ℕ) → type_at a z ≡ type_at b z → ty_var p t a z ≡ ty_var p t b z
  same_var z same = ap₂ (λ locks g. if is_control p z then const 1 else (if is_tracked p t locks z then g else class_of p z)) held same

  same_conjuncts : (zs : List ℕ) → AgreeOnTypes zs a b → flat_map (λ z. conjuncts (ty_var p t a z)) zs ≡ flat_map (λ z. conjuncts (ty_var p t b z)) zs
  same_conjuncts [] agree = refl
  same_conjuncts (z ∷ zs) agree =
      ap₂ (λ us vs. us ++ vs) (ap conjuncts (same_var z (All-head (λ y. type_at a y ≡ type_at b y) z zs agree)))
      (same_conjuncts zs (All-tail (λ y. type_at a y ≡ type_at b y) z zs agree))

  same_type : (e : Term) → AgreeOnTypes (vars e) a b → ty p t a e ≡ ty p t b e
  same_type e agree = ap (λ us. joined (distinct_terms (without_ones us))) (same_conjuncts (vars e) agree)

  same_any : (o : Option Term) → AgreeOnTypes (vars_of o) a b → type_of_any p t o a ≡ type_of_any p t o b
  same_any None agree = refl
  same_any (Some e) agree = same_type e agree

  same_value : (w : Option Term) (e : Term) → AgreeOnTypes (vars_of (where_unwritten w e)) a b → value_type p t a w e ≡ value_type p t b w e
  same_value None e agree = same_type e agree
  same_value (Some r) e agree = refl

  same_stored : (o : Option Store) → AgreeOnTypes (vars_of (untyped o)) a b → stored_type p t o a ≡ stored_type p t o b
  same_stored None agree = refl
  same_stored (Some k) agree = same_value k.written k.value agree

  same_one : (z : ℕ) → AgreeOnTypes (z ∷ []) a b → type_at a z ≡ type_at b z
  same_one z agree = All-head (λ y. type_at a y ≡ type_at b y) z [] agree

  pub same_goal : (question : Question) (s : Stm) → AgreeOnTypes (variables_of question s) a b → goal_of p t question s a ≡ goal_of p t question s b
  same_goal q.Written s agree = same_any (assigned_value s) agree
  same_goal (q.Shown x) s agree = same_stored (parts s).store agree
  same_goal (q.Controlled y) s agree = same_var y (same_one y agree)
  same_goal (q.Retyped z) s agree = same_one z agree
  same_goal (q.Invariant l) s agree = refl
  same_goal (q.Freed x) s agree = same_one x agree
  same_goal q.Guard s agree = same_any (parts s).guard agree
  same_goal q.HeadGuard s agree = same_any (parts s).guard agree
  same_goal q.Printed s agree = same_any (parts s).printed agree
  same_goal (q.Predicate end i) s agree = refl
  same_goal (q.TypeOf end z) s agree = same_one z agree
