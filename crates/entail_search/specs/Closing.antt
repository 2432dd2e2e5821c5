-- How a goal follows from the facts of hypotheses.
use Rattle.std.specs.Prelude.{ℕ, ◌+◌, length, List, [], ◌∷◌, ◌++◌, Bool, not, ◌&&◌, Option, Some, None, option_map}
use Rattle.cov_expr.specs.declared.expr.Op.TheVariants.{Lt, Both, Either}
use Rattle.cov_expr.specs.Term.{Term, bin}
use Rattle.cov_expr.specs.Trees.{same}
use Rattle.cov_ast.specs.Syntax.{Cert}
use Rattle.cov_ast.specs.Syntax as by
use Rattle.cert_search.specs.Searching.{search, first_of, joined, only_where}
use Rattle.entail_search.specs.Facts.{Fact, by_premise, order_of}
use Rattle.entail_search.specs.Chains.{comparison, linked}

-- By a fact ----------------------------------------------------------------------------------------------------

-- a goal that a fact says
abbrev pub stated : Fact → Term → Option Cert
stated f goal = only_where (same f.says goal) (Some f.shown)

-- a goal `a <= c` by a fact `a < c`, with so many hypotheses
abbrev pub weaker : ℕ → Fact → Option (Bool × Term × Term) → Option (Bool × Term × Term) → Option Cert
weaker n f None o = None
weaker n f (Some p) None = None
weaker n f (Some p) (Some q) =
    only_where (p.0 && not q.0 && same p.1 q.1 && same p.2 q.2)
    (Some (by.have f.says f.shown (by.instance 9 (p.1 ∷ p.2 ∷ []) (by_premise (n + 1) (n + 2)))))

-- a goal by a leaf that a fact makes valid
abbrev pub with_leaf : List Term → Fact → Term → Option Cert
with_leaf hyps f goal = option_map (by.have f.says f.shown) (search 0 (hyps ++ f.says ∷ []) goal)

-- Any goal, where a fact leaves no value to one of its sides, `a`: it is less than itself.
abbrev pub with_less_than_itself : ℕ → Fact → Term → Option Cert → Option Cert
with_less_than_itself n f a found =
    option_map (λ c. by.have f.says f.shown (by.have (bin Lt a a) c (by.instance 7 (a ∷ []) (by.absurdity (n + 2) (n + 3))))) found

abbrev pub refuted_at : List Term → Fact → Term → Option Cert
refuted_at hyps f a = with_less_than_itself (length hyps) f a (search 0 (hyps ++ f.says ∷ []) (bin Lt a a))

abbrev pub refuted : List Term → Fact → Option (Bool × Term × Term) → Option Cert
refuted hyps f None = None
refuted hyps f (Some p) = first_of (refuted_at hyps f p.1) (refuted_at hyps f p.2)

-- a comparison that a leaf makes valid, as a fact
abbrev pub shown_by : Term → Cert → Fact
shown_by e c = record { says = e; shown = c }

abbrev pub leaf_fact : List Term → (strict : Bool) → (a b : Term) → Option Fact
leaf_fact hyps strict a b = option_map (shown_by (bin (comparison strict) a b)) (search 0 hyps (bin (comparison strict) a b))

-- a goal that a fact says, or says more strictly
abbrev pub says_goal : ℕ → Term → Fact → Option Cert
says_goal n goal f = first_of (stated f goal) (weaker n f (order_of f.says) (order_of goal))

-- a goal by a fact that compares `a` and `b`, and by a leaf that compares `b` and `c`
abbrev pub to_end : ℕ → Term → Fact → Bool × Term × Term → (strict : Bool) → (c : Term) → Option Fact → Option Cert
to_end n goal f p strict c None = None
to_end n goal f p strict c (Some g) = says_goal n goal (linked n f g p (strict, p.2, c))

-- a goal by a leaf that compares `a` and `b`, and by a fact that compares `b` and `c`
abbrev pub from_start : ℕ → Term → Fact → Bool × Term × Term → (strict : Bool) → (a : Term) → Option Fact → Option Cert
from_start n goal f p strict a None = None
from_start n goal f p strict a (Some g) = says_goal n goal (linked n g f (strict, a, p.1) p)

-- a goal by a fact that begins or ends as it does, and by a leaf
abbrev pub by_ends : List Term → Term → Fact → Option (Bool × Term × Term) → Option (Bool × Term × Term) → Option Cert
by_ends hyps goal f None o = None
by_ends hyps goal f (Some p) None = None
by_ends hyps goal f (Some p) (Some q) =
    first_of
    (only_where (same p.1 q.1) (to_end (length hyps) goal f p (q.0 && not p.0) q.2 (leaf_fact hyps (q.0 && not p.0) p.2 q.2)))
    (only_where (same p.2 q.2) (from_start (length hyps) goal f p (q.0 && not p.0) q.1 (leaf_fact hyps (q.0 && not p.0) q.1 p.1)))

abbrev pub by_fact : List Term → Term → Fact → Option Cert
by_fact hyps goal f =
    first_of (stated f goal)
    (first_of (with_leaf hyps f goal)
    (first_of (weaker (length hyps) f (order_of f.says) (order_of goal))
    (first_of (by_ends hyps goal f (order_of f.says) (order_of goal)) (refuted hyps f (order_of f.says)))))

-- by the first fact that does
abbrev pub by_facts : List Term → Term → List Fact → Option Cert
by_facts hyps goal [] = None
by_facts hyps goal (f ∷ fs) = first_of (by_fact hyps goal f) (by_facts hyps goal fs)

-- Of a goal ----------------------------------------------------------------------------------------------------

-- a goal by a search of depth 1, or by a fact
abbrev pub closed : List Term → List Fact → Term → Option Cert
closed hyps facts goal = first_of (search 1 hyps goal) (by_facts hyps goal facts)

-- the same, or both parts of a conjunction, or one of a disjunction
abbrev pub shown : List Term → List Fact → Term → Option Cert
shown hyps facts (bin Both a b) = first_of (closed hyps facts (bin Both a b)) (joined by.and (shown hyps facts a) (shown hyps facts b))
shown hyps facts (bin Either a b) =
    first_of (closed hyps facts (bin Either a b))
    (first_of (option_map by.left (shown hyps facts a)) (option_map by.right (shown hyps facts b)))
shown hyps facts e = closed hyps facts e
