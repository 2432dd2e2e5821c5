-- Lists of expressions without repeats, their conjunction, and tests of variables.
use Rattle.std.specs.Prelude.{◌≡◌, ℕ, ◌<◌, ◌≤◌, ◌==◌, ◌&&◌, nat_le, List, [], ◌∷◌, ◌++◌, Bool, true, false, not, filter, length, if◌then◌else◌, Option, Some, None}
use Rattle.std.specs.Option.{option_or}
use Rattle.cov_expr.specs.declared.limits.TheConstants.{MOST_NODES}
use Rattle.cov_expr.specs.declared.expr.Op.TheVariants.{Both}
use Rattle.cov_expr.specs.Term.{Term, const, var, neg, bin, value, is_set}
use Rattle.cov_expr.specs.Trees.{has_term, is_closed, nodes}

-- whether each variable of an expression passes a test
abbrev pub each_variable : (ℕ → Bool) → Term → Bool
each_variable test (const k) = true
each_variable test (var x) = test x
each_variable test (neg e) = each_variable test e
each_variable test (bin op a b) = each_variable test a && each_variable test b

-- with an expression at the end, unless an equal one is there
abbrev pub with_term : List Term → Term → List Term
with_term es e = if has_term es e then es else es ++ e ∷ []

-- with others at the end, each unless an equal one is there
abbrev pub with_terms : List Term → List Term → List Term
with_terms es [] = es
with_terms es (f ∷ fs) = with_terms (with_term es f) fs

-- Expressions are added, each unless an equal one is there, as long as there are at most so many: either all are there then,
-- and no more than before or than so many, or they would be more.
abbrev pub AddsWithin : (most : ℕ) → (es new fs : List Term) → (all : Bool) → Type 0
AddsWithin most es new fs true = (new ≡ with_terms es fs) × (length es ≤ most → length new ≤ most)
AddsWithin most es new fs false = most < length (with_terms es fs)

-- with an expression where there is one
abbrev pub with_option : List Term → Option Term → List Term
with_option es None = es
with_option es (Some e) = with_term es e

-- each once, by first occurrence
abbrev pub distinct_terms : List Term → List Term
distinct_terms es = with_terms [] es

abbrev pub is_one : Term → Bool
is_one (const k) = k == 1
is_one (var x) = false
is_one (neg e) = false
is_one (bin op a b) = false

-- without the number 1
abbrev pub without_ones : List Term → List Term
without_ones es = filter (λ e. not (is_one e)) es

abbrev pub joined_from : Term → List Term → Term
joined_from e [] = e
joined_from e (f ∷ fs) = joined_from (bin Both e f) fs

-- joined by `&&`, grouped to the left; 1 where there is none
abbrev pub joined : List Term → Term
joined [] = const 1
joined (e ∷ es) = joined_from e es

-- the expression that a list has for a variable, the last where there are several
abbrev pub listed : List (ℕ × Term) → ℕ → Option Term
listed [] z = None
listed (t ∷ ts) z = option_or (listed ts z) (if t.0 == z then Some t.1 else None)

-- closed, with the value 0
abbrev pub is_false : Term → Bool
is_false e = is_closed e && not (is_set (value e []))

-- at most 1,000 nodes
abbrev pub is_small : Term → Bool
is_small e = nat_le (nodes e) MOST_NODES

-- the same of a type, if there is one
abbrev pub is_small_type : Option Term → Bool
is_small_type None = true
is_small_type (Some q) = is_small q

-- whether a type mentions no variable
abbrev pub is_closed_type : Option Term → Bool
is_closed_type None = true
is_closed_type (Some q) = is_closed q
