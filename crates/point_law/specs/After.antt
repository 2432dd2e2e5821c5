-- The point at the start of a thread, and the point after a statement, each also where what the rules ask fails.
use Rattle.std.specs.Prelude.{ℕ, suc, ◌==◌, ◌&&◌, List, [], ◌∷◌, Bool, true, false, not, map, filter, set, if◌then◌else◌, Option, Some, None, option_map, unwrap_or}
use Rattle.cov_expr.specs.declared.expr.Op.TheVariants.{Eq}
use Rattle.cov_expr.specs.Term.{Term, var, bin}
use Rattle.cov_expr.specs.Trees.{mentions}
use Rattle.cov_ast.specs.Syntax.{State}
use Rattle.cov_ast.specs.Plain.{Plain}
use Rattle.cov_ast.specs.Declarations.{class_of, is_control, lock_at, under}
use Rattle.cov_ast.specs.LocksAlong.{no_locks}
use Rattle.mode_state.specs.Sets.{is_stable}
use Rattle.point_law.specs.Terms.{with_term, with_option, distinct_terms, listed}
use Rattle.point_law.specs.Point.{Point, vars_of, is_tracked, default_type, is_over_stable}

-- Types by number of their variable ------------------------------------------------------------------------------

-- from a number on, each variable has what a function says of it and of what it had
abbrev pub updated_from : ℕ → (ℕ → Option Term → Option Term) → List (Option Term) → List (Option Term)
updated_from x change [] = []
updated_from x change (q ∷ qs) = change x q ∷ updated_from (suc x) change qs

abbrev pub updated : (ℕ → Option Term → Option Term) → List (Option Term) → List (Option Term)
updated change types = updated_from 0 change types

-- each type is replaced; a variable without one stays without
abbrev pub retyped : (ℕ → Term → Term) → List (Option Term) → List (Option Term)
retyped change types = updated (λ x q. option_map (change x) q) types

-- the type that a list has for a variable, or another
abbrev pub listed_or : List (ℕ × Term) → (z : ℕ) → Term → Term
listed_or types z q = unwrap_or (listed types z) q

-- a condition allows to add a predicate
abbrev pub with_term_if : Bool → List Term → Term → List Term
with_term_if true es e = with_term es e
with_term_if false es e = es

-- Points ---------------------------------------------------------------------------------------------------------

-- after a note: its predicates, and the types that it lists in the place of theirs
abbrev pub noted : Point → State → Point
noted a j = record a { types = retyped (listed_or j.types) a.types; preds = distinct_terms j.preds }

-- a variable of a lock that is taken
abbrev pub locked_type : Plain → (l x : ℕ) → Option Term → Option Term
locked_type p l x q = if under p l x && not (is_control p x) then Some (class_of p x) else q

module _ (p : Plain) (t : ℕ) where
  -- the start: no lock is held, nothing is known, and each tracked variable has its class
  abbrev pub start_type : (held : List Bool) → (x : ℕ) → Option Term
  start_type held x = if is_tracked p t held x then Some (class_of p x) else None

  abbrev pub start : Point
  start =
      let held = no_locks p in
      record { held = held; types = map (start_type held) (vars_of p); preds = [] }

  -- with a new value of a control x, a type that mentions it is forgotten
  abbrev pub forgotten_type : (held : List Bool) → (x z : ℕ) → Term → Term
  forgotten_type held x z g = if mentions g x then default_type p t held z else g

  -- The type of z, which was g, after x has a value of a type q. Where x is a control, which has no type itself, each
  -- variable that is listed has a new type.
  abbrev pub assigned_type : (held : List Bool) → (x : ℕ) → (q : Term) → (retypes : List (ℕ × Term)) → (z : ℕ) → Term → Term
  assigned_type held x q retypes z g = if is_control p x then listed_or retypes z (forgotten_type held x z g) else (if x == z then q else g)

  -- whether the variable has the value of the expression from then on, as long as it is stable
  abbrev pub keeps_value : List Bool → (x : ℕ) → Term → Bool
  keeps_value held x e = is_stable p t held x && is_over_stable p t held e && not (mentions e x)

  abbrev pub after_assign : Point → (x : ℕ) → (e q : Term) → (retypes : List (ℕ × Term)) → Point
  after_assign a x e q retypes = record a {
    types = retyped (assigned_type a.held x q retypes) a.types;
    preds = with_term_if (keeps_value a.held x e) (filter (λ r. not (mentions r x)) a.preds) (bin Eq (var x) e);
  }

  -- the lock was free before, so that its invariant holds and its variables have their class
  abbrev pub after_lock : Point → (l : ℕ) → Point
  after_lock a l =
      record { held = set a.held l true; types = updated (locked_type p l) a.types; preds = with_option a.preds (lock_at p l).inv }

  -- what isn't stable any longer is forgotten, with these locks held
  abbrev pub kept_type : (held : List Bool) → (x : ℕ) → Term → Term
  kept_type held x q = if is_over_stable p t held q then q else default_type p t held x

  abbrev pub unlocked_type : (held : List Bool) → (x : ℕ) → Option Term → Option Term
  unlocked_type held x q = if is_tracked p t held x then option_map (kept_type held x) q else None

  abbrev pub after_unlock : Point → (l : ℕ) → Point
  after_unlock a l =
      let held = set a.held l false in
      record { held = held; types = updated (unlocked_type held) a.types; preds = filter (is_over_stable p t held) a.preds }

  -- with an expression that holds, if it stays so
  abbrev pub with_guard : Point → Term → Point
  with_guard a e = record a { preds = with_term_if (is_over_stable p t a.held e) a.preds e }

  -- of a join or a loop: what a state says, and of each other variable what is known without more
  abbrev pub meet : Point → State → Point
  meet a j = record a { types = retyped (λ z q. listed_or j.types z (default_type p t a.held z)) a.types; preds = distinct_terms j.preds }
