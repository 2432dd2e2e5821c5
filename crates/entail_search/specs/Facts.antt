-- Facts of order: comparisons `a <= b` and `a < b` that follow from hypotheses, each with a certificate.
use Rattle.std.specs.Prelude.{ℕ, ◌+◌, nat_lt, length, List, [], ◌∷◌, ◌++◌, Bool, true, false, not, ◌&&◌, Option, Some, None, if◌then◌else◌}
use Rattle.std.specs.List.{list_any}
use Rattle.cov_expr.specs.declared.expr.Op.{Op}
use Rattle.cov_expr.specs.declared.expr.Op.TheVariants.{Add, Sub, Mul, And, Or, Xor, Eq, Ne, Lt, Le, Both, Either}
use Rattle.cov_expr.specs.Term.{Term, const, var, neg, bin}
use Rattle.cov_expr.specs.Trees.{same}
use Rattle.cov_ast.specs.Syntax.{Cert}
use Rattle.cov_ast.specs.Syntax as by
use Rattle.entail_search.specs.declared.facts.TheConstants.{MOST_FACTS}

-- what follows, and why
pub record Fact : Type 0 where
  pub says : Term
  pub shown : Cert

-- Certificates -------------------------------------------------------------------------------------------------

-- A certificate of `q` where hypothesis i is `p` and hypothesis m, the last, is `!p || q`.
abbrev pub by_premise : (i m : ℕ) → Cert
by_premise i m = by.cases m (by.absurdity i (m + 1)) by.auto

-- Order --------------------------------------------------------------------------------------------------------

-- whether a comparison is strict, and its sides
abbrev pub compared : Op → Term → Term → Option (Bool × Term × Term)
compared Lt a b = Some (true, a, b)
compared Le a b = Some (false, a, b)
compared Add a b = None
compared Sub a b = None
compared Mul a b = None
compared And a b = None
compared Or a b = None
compared Xor a b = None
compared Eq a b = None
compared Ne a b = None
compared Both a b = None
compared Either a b = None

-- the same of an expression that is `a < b` or `a <= b`
abbrev pub order_of : Term → Option (Bool × Term × Term)
order_of (bin op a b) = compared op a b
order_of (const k) = None
order_of (var x) = None
order_of (neg e) = None

-- Lists --------------------------------------------------------------------------------------------------------

-- whether a fact says this
abbrev pub has_fact : List Fact → Term → Bool
has_fact facts e = list_any (λ f. same f.says e) facts

-- whether none says it, and there is room for one more
abbrev pub is_new : List Fact → Term → Bool
is_new facts e = nat_lt (length facts) MOST_FACTS && not (has_fact facts e)

-- facts and one more, where it is new and there is room
abbrev pub with_fact : List Fact → Fact → List Fact
with_fact facts f = if is_new facts f.says then facts ++ f ∷ [] else facts

abbrev pub with_any : List Fact → Option Fact → List Fact
with_any facts None = facts
with_any facts (Some f) = with_fact facts f
