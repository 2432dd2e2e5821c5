-- Entailments of a statement, and which certificate each has.
use Rattle.std.specs.Prelude.{ℕ, ◌==◌, ◌&&◌, ◌||◌, List, [], ◌∷◌, ◌++◌, Bool, not, map, filter, if◌then◌else◌, Option, Some, None, option_to_list}
use Rattle.std.specs.List.{list_all}
use Rattle.cov_expr.specs.Term.{Term}
use Rattle.cov_expr.specs.Trees.{mentions, subst}
use Rattle.cov_ast.specs.Syntax.{State, Cert, auto, Proof}
use Rattle.cov_ast.specs.Plain.{Plain}
use Rattle.cov_ast.specs.Declarations.{class_of, is_control, lock_at}
use Rattle.mode_state.specs.Sets.{is_hidden}
use Rattle.entail_cert.specs.Valid.{is_valid}
use Rattle.point_law.specs.Point.{Point, vars_of, type_at, ty, ty_var}
use Rattle.point_law.specs.Terms.{is_small}
use Rattle.typing_law.specs.Blocks.{value_type}

-- what has to follow from hypotheses
pub record Entailment : Type 0 where
  pub hyps : List Term
  pub goal : Term

-- from predicates alone
abbrev pub from_preds : List Term → Term → Entailment
from_preds preds goal = record { hyps = preds; goal = goal }

-- from predicates and one expression more
abbrev pub from_one_more : List Term → Term → Term → Entailment
from_one_more preds e goal = record { hyps = preds ++ e ∷ []; goal = goal }

-- the first certificate that is given for a number, else `auto`
abbrev pub cert_for : List Proof → ℕ → Cert
cert_for [] n = auto
cert_for (q ∷ qs) n = if q.number == n then q.cert else cert_for qs n

abbrev pub is_proved : List Proof → ℕ → Entailment → Bool
is_proved proofs n entailment = is_valid entailment.hyps entailment.goal (cert_for proofs n)

abbrev pub is_small_entailment : Entailment → Bool
is_small_entailment entailment = list_all is_small entailment.hyps && is_small entailment.goal

-- Of each kind of statement --------------------------------------------------------------------------------------

-- where a type holds that a variable is to have, the one that it has holds
abbrev pub type_follows : Point → ℕ × Term → Entailment
type_follows a r = from_one_more a.preds r.1 (type_at a r.0)

-- each predicate of a state, and then each type
abbrev pub state_follows : Point → State → List Entailment
state_follows a j = map (from_preds a.preds) j.preds ++ map (type_follows a) j.types

module _ (p : Plain) (t : ℕ) where
  -- the guard is equal in both runs
  abbrev pub guard_follows : Point → Term → Entailment
  guard_follows a e = from_preds a.preds (ty p t a e)

  -- the type that is written gives that of the expression
  abbrev pub written_type : Point → Term → Option Term → List Entailment
  written_type a e None = []
  written_type a e (Some q) = from_one_more a.preds q (ty p t a e) ∷ []

  -- where another thread may read the variable, or it is a control, both runs store one value where it is low
  abbrev pub shown_value : Point → (x : ℕ) → (q : Term) → List Entailment
  shown_value a x q =
      if is_control p x || not (is_hidden p t a.held x) then from_one_more a.preds (class_of p x) q ∷ [] else []

  -- the variables of which a control decides whether they are low, where another thread may read them
  abbrev pub shown_controlled : Point → (x : ℕ) → List ℕ
  shown_controlled a x = filter (λ y. mentions (class_of p y) x && not (is_hidden p t a.held y)) (vars_of p)

  -- where such a variable is low after the assignment, the two runs agree on it before
  abbrev pub controlled_follows : Point → (x : ℕ) → Term → (y : ℕ) → Entailment
  controlled_follows a x e y = from_one_more a.preds (subst (class_of p y) x e) (ty_var p t a y)

  abbrev pub controlled_values : Point → (x : ℕ) → Term → List Entailment
  controlled_values a x e = if is_control p x then map (controlled_follows a x e) (shown_controlled a x) else []

  -- where a new type holds after the assignment, the one before held
  abbrev pub retype_follows : Point → (x : ℕ) → Term → ℕ × Term → Entailment
  retype_follows a x e r = from_one_more a.preds (subst r.1 x e) (type_at a r.0)

  abbrev pub assign_entailments : Point → (x : ℕ) → Term → Option Term → (retypes : List (ℕ × Term)) → List Entailment
  assign_entailments a x e q retypes =
      written_type a e q ++ shown_value a x (value_type p t a q e) ++ controlled_values a x e ++ map (retype_follows a x e) retypes

  -- what the lock hides is visible from then on
  abbrev pub freed_value : Point → (x : ℕ) → Entailment
  freed_value a x = from_one_more a.preds (class_of p x) (type_at a x)

  abbrev pub unlock_entailments : Point → (l : ℕ) → List Entailment
  unlock_entailments a l =
      map (from_preds a.preds) (option_to_list (lock_at p l).inv) ++ map (freed_value a) (filter (λ x. not (is_control p x)) (lock_at p l).hide)
