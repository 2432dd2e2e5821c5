-- Which certificate a deeper search comes to, as a function.
use Rattle.std.specs.Prelude.{ℕ, zero, suc, ◌+◌, ◌-◌, ◌==◌, length, List, [], ◌∷◌, ◌++◌, Bool, true, false, ◌&&◌, Option, Some, None, option_map, if◌then◌else◌}
use Rattle.cov_expr.specs.declared.expr.Op.TheVariants.{Either}
use Rattle.cov_expr.specs.Term.{Term, const, neg}
use Rattle.cov_ast.specs.Syntax.{Cert}
use Rattle.cov_ast.specs.Syntax as by
use Rattle.entail_cert.specs.Valid.{is_valid, operands, negated}
use Rattle.cert_search.specs.Searching.{first_of, joined, only_where}
use Rattle.entail_search.specs.declared.splits.TheConstants.{MOST_PARTS, MOST_TRIED, MOST_SPLITS}
use Rattle.entail_search.specs.Within.{is_cert_within}
use Rattle.entail_search.specs.Chains.{facts_of}
use Rattle.entail_search.specs.Closing.{shown}

-- Without a case -----------------------------------------------------------------------------------------------

-- by the facts of hypotheses
abbrev pub by_readings : List Term → Term → Option Cert
by_readings hyps goal = shown hyps (facts_of (length hyps) hyps) goal

-- where the goal is a negation, by what follows from what it negates
abbrev pub by_denial : List Term → Option Term → Option Cert
by_denial hyps None = None
by_denial hyps (Some e) = option_map by.negation (by_readings (hyps ++ e ∷ []) (const 0))

-- where the goal is `!x || b`, by `b` where `x` holds; where it is another `a || b`, by `b` where `a` doesn't
abbrev pub where_holds : List Term → (x b : Term) → Option Cert
where_holds hyps x b = option_map (λ c. by.split x (by.right c) (by.left by.auto)) (by_readings (hyps ++ x ∷ []) b)

abbrev pub where_fails : List Term → (a b : Term) → Option Cert
where_fails hyps a b = option_map (λ c. by.split a (by.left by.auto) (by.right c)) (by_readings (hyps ++ neg a ∷ []) b)

abbrev pub by_side : List Term → (a b : Term) → Option Term → Option Cert
by_side hyps a b None = where_fails hyps a b
by_side hyps a b (Some x) = where_holds hyps x b

abbrev pub by_sides : List Term → Option (Term × Term) → Option Cert
by_sides hyps None = None
by_sides hyps (Some sides) = by_side hyps sides.0 sides.1 (negated sides.0)

abbrev pub at_once : List Term → Term → Option Cert
at_once hyps goal = first_of (by_readings hyps goal) (first_of (by_denial hyps (negated goal)) (by_sides hyps (operands Either goal)))

-- By cases -----------------------------------------------------------------------------------------------------

abbrev pub is_there : Option (Term × Term) → Bool
is_there None = false
is_there (Some sides) = true

module _ (find : List Term → Term → Option Cert) (goal : Term) where
  -- the goal where one hypothesis of a number has these operands, for each of them, if there are any
  abbrev pub in_each : (List Term → ℕ → Term → Option Cert) → List Term → ℕ → Option (Term × Term) → Option Cert
  in_each part hyps i None = find hyps goal
  in_each part hyps i (Some sides) =
      joined (by.cases i) (part (hyps ++ sides.0 ∷ []) (length hyps + 1) sides.0) (part (hyps ++ sides.1 ∷ []) (length hyps + 1) sides.1)

  -- the goal in each part of a hypothesis of a number that is a disjunction, and in each part of a part, nested so deep at most
  abbrev pub in_parts : ℕ → List Term → ℕ → Term → Option Cert
  in_parts zero hyps i e = find hyps goal
  in_parts (suc k) hyps i e = in_each (in_parts k) hyps i (operands Either e)

  -- so by the first disjunction that does, among so many of the hypotheses, which are numbered from a number on
  abbrev pub by_disjunctions : List Term → ℕ → ℕ → List Term → Option Cert
  by_disjunctions hyps k n [] = None
  by_disjunctions hyps k n (h ∷ hs) =
      if k == 0 then None
      else if is_there (operands Either h) then first_of (in_parts MOST_PARTS hyps n h) (by_disjunctions hyps (k - 1) (suc n) hs)
      else by_disjunctions hyps k (suc n) hs

-- with so many disjunctions taken apart one inside the other, at most
abbrev pub by_splits : ℕ → List Term → Term → Option Cert
by_splits zero hyps goal = at_once hyps goal
by_splits (suc d) hyps goal = first_of (at_once hyps goal) (by_disjunctions (by_splits d) goal hyps MOST_TRIED 1 hyps)

-- The answer ---------------------------------------------------------------------------------------------------

-- a certificate that is valid and within the limits
abbrev pub tested : List Term → Term → Option Cert → Option Cert
tested hyps goal None = None
tested hyps goal (Some c) = only_where (is_cert_within hyps goal c && is_valid hyps goal c) (Some c)

-- The certificate that a deeper search comes to, if there is one.
abbrev pub deeper : List Term → Term → Option Cert
deeper hyps goal = tested hyps goal (by_splits MOST_SPLITS hyps goal)
