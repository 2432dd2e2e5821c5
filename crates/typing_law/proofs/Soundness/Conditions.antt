-- What the rules ask of a statement, as conditions: what has to follow holds in every memory of words.
use Rattle.std.proofs.Common.{◌≡◌, ◌⊎◌, ℕ, ◌<◌, List, [], ◌∷◌, length, Bool, false, IsTrue}
use Rattle.cov_expr.specs.Entailment.{Holds, AllHold, Entails}
use Rattle.cov_expr.specs.Term.{Term}
use Rattle.cov_expr.specs.Trees.{mentions}
use Rattle.cov_expr.specs.Trees as trees
use Rattle.cov_expr.specs.Words.{AreWords, HasWords}
use Rattle.cov_ast.specs.Declarations.{class_of, hides, invariant_of, is_control}
use Rattle.cov_ast.specs.Plain.{Plain}
use Rattle.cov_ast.specs.Syntax.{State}
use Rattle.cov_ast.specs.Tables.{has}
use Rattle.mode_state.specs.Sets.{is_stable, is_hidden, may_read, may_write}
use Rattle.point_law.specs.Point.{Point, type_at, ty, ty_var, is_over_stable, is_over_controls}

abbrev pub Each : List Term → (Term → Type 0) → Type 0
Each [] P = Unit {0}
Each (e ∷ es) P = P e × Each es P

abbrev pub EachType : List (ℕ × Term) → (ℕ → Term → Type 0) → Type 0
EachType [] P = Unit {0}
EachType (r ∷ rs) P = P r.0 r.1 × EachType rs P

-- where the hypotheses and one expression more hold, the goal holds
abbrev pub Gives : List Term → Term → Term → Type 0
Gives hyps q goal = (m : List ℕ) → AreWords m → AllHold hyps m → Holds q m → Holds goal m

pub record StateFollows (a : Point) (j : State) : Type 0 where
  pub preds : Each j.preds (λ g. Entails a.preds g)
  pub types : EachType j.types (λ z r. Gives a.preds r (type_at a z))

module _ (p : Plain) (t : ℕ) where
  pub record AssignChecks (a : Point) (x : ℕ) (e q : Term) (retypes : List (ℕ × Term)) : Type 0 where
    pub in_range : x < length p.vars
    pub words : HasWords e
    pub reads : (y : ℕ) → IsTrue (mentions e y) → IsTrue (may_read p t a.held y)
    pub writes : IsTrue (may_write p t a.held x)
    pub over : IsTrue (is_over_controls p t a.held q)
    pub control_over : IsTrue (is_control p x) → (y : ℕ) → IsTrue (mentions e y) → IsTrue (is_stable p t a.held y)
    pub retypes_over : EachType retypes (λ z r. IsTrue (is_control p x) × IsTrue (is_over_controls p t a.held r))
    pub typed : Gives a.preds q (ty p t a e)
    pub shown : IsTrue (is_control p x) ⊎ (is_hidden p t a.held x ≡ false) → Gives a.preds (class_of p x) q
    pub controlled : IsTrue (is_control p x) → (y : ℕ) → IsTrue (mentions (class_of p y) x) → is_hidden p t a.held y ≡ false
        → Gives a.preds (trees.subst (class_of p y) x e) (ty_var p t a y)
    pub retyped : EachType retypes (λ z r. Gives a.preds (trees.subst r x e) (type_at a z))

  pub record UnlockChecks (a : Point) (l : ℕ) : Type 0 where
    pub in_range : l < length p.locks
    pub held : IsTrue (has a.held l)
    pub invariant : Entails a.preds (invariant_of p l)
    pub shown : (x : ℕ) → IsTrue (hides p l x) → is_control p x ≡ false → Gives a.preds (class_of p x) (type_at a x)

  pub record GuardChecks (a : Point) (e : Term) : Type 0 where
    pub reads : (y : ℕ) → IsTrue (mentions e y) → IsTrue (may_read p t a.held y)
    pub low : Entails a.preds (ty p t a e)

  pub record StateOver (held : List Bool) (j : State) : Type 0 where
    pub preds : Each j.preds (λ e. IsTrue (is_over_stable p t held e))
    pub types : EachType j.types (λ z r. IsTrue (is_over_controls p t held r))
