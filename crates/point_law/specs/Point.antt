-- What is known of a thread between two statements: the locks that it holds, types of variables, and predicates.
--
-- A type of a variable is an expression that says: where it holds, the two runs agree on the variable. A variable that
-- the other threads don't write is tracked, unless it is a control: it has a type. Predicates hold in both runs. (After
-- the typing contexts of COVERN.)
use Rattle.std.specs.Prelude.{◌≡◌, ℕ, ◌<◌, ◌&&◌, List, Bool, not, length, get_or, is_some, if◌then◌else◌, Option, None, unwrap_or}
use Rattle.std.specs.List.{flat_map, list_all, range_with_len}
use Rattle.cov_expr.specs.Term.{Term, const}
use Rattle.cov_expr.specs.Trees.{conjuncts, vars}
use Rattle.cov_ast.specs.Plain.{Plain}
use Rattle.cov_ast.specs.Declarations.{class_of, is_control}
use Rattle.cov_ast.specs.Tables.{table}
use Rattle.mode_state.specs.Sets.{is_stable, is_hidden}
use Rattle.point_law.specs.Terms.{each_variable, distinct_terms, is_small_type, without_ones, joined}

pub record Point : Type 0 where
  -- of each lock, whether it is held
  pub held : List Bool
  -- of each variable, its type, if it is tracked
  pub types : List (Option Term)
  -- over stable variables, each once
  pub preds : List Term

-- the numbers of the variables
abbrev pub vars_of : Plain → List ℕ
vars_of p = range_with_len 0 (length p.vars)

-- the set of the controls
abbrev pub controls_of : Plain → List Bool
controls_of p = table (length p.vars) (is_control p)

-- the type of a variable, if it has one
abbrev pub given_type : Point → ℕ → Option Term
given_type a x = get_or a.types x None

-- where a variable without a type is asked for one, nothing is known of it
abbrev pub type_at : Point → ℕ → Term
type_at a x = unwrap_or (given_type a x) (const 0)

-- whether each type has at most 1,000 nodes
abbrev pub has_small_types : Point → Bool
has_small_types a = list_all is_small_type a.types

-- for a thread of a program, with these locks held
module _ (p : Plain) (t : ℕ) (held : List Bool) where
  abbrev pub is_tracked : ℕ → Bool
  is_tracked x = is_stable p t held x && not (is_control p x)

  -- what is known of a variable without more: its class, or nothing where no other thread may read it
  abbrev pub default_type : ℕ → Term
  default_type x = if is_hidden p t held x then const 0 else class_of p x

  -- whether each variable of an expression is stable
  abbrev pub is_over_stable : Term → Bool
  is_over_stable e = each_variable (is_stable p t held) e

  -- whether each variable of an expression is stable and a control
  abbrev pub is_over_controls : Term → Bool
  is_over_controls e = each_variable (λ y. is_stable p t held y && is_control p y) e

-- The type of what is read: that of a variable, and that of the value of an expression.
module _ (p : Plain) (t : ℕ) (a : Point) where
  abbrev pub ty_var : ℕ → Term
  ty_var x = if is_control p x then const 1 else (if is_tracked p t a.held x then type_at a x else class_of p x)

  -- the conjuncts of the types of variables, without 1, each once
  abbrev pub conjuncts_of_types : List ℕ → List Term
  conjuncts_of_types xs = distinct_terms (without_ones (flat_map (λ x. conjuncts (ty_var x)) xs))

  -- those of the variables that are read, joined
  abbrev pub ty : Term → Term
  ty e = joined (conjuncts_of_types (vars e))

-- A point of a thread of a program: a variable has a type exactly where it is tracked.
pub record IsPoint (p : Plain) (t : ℕ) (a : Point) : Type 0 where
  pub complete : length a.types ≡ length p.vars
  pub locks : length a.held ≡ length p.locks
  pub tracked : (x : ℕ) → x < length p.vars → is_some (given_type a x) ≡ is_tracked p t a.held x
