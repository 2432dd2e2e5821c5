-- Which certificates are valid for hypotheses and a goal, and which node of the others fails first.
--
-- A node has a condition of its own and up to two children, each with hypotheses and a goal of its own. It is valid
-- where its condition holds and its children are valid. Hypotheses, axioms and children are numbered from 1.
use Rattle.std.specs.Prelude.{ℕ, List, [], ◌∷◌, ◌++◌, Bool, true, false, not, ◌&&◌, ◌||◌, ◌==◌, Option, Some, None, is_none, if◌then◌else◌}
use Rattle.std.specs.List.{list_any, list_all}
use Rattle.cov_expr.specs.declared.expr.Op.{Op}
use Rattle.cov_expr.specs.declared.expr.Op.TheVariants.{Eq, Both, Either}
use Rattle.cov_expr.specs.declared.expr.TheConstants.{HOLE}
use Rattle.cov_expr.specs.Term.{Term, const, var, neg, bin, value, is_set}
use Rattle.cov_expr.specs.Trees.{op_number, same, is_closed, conjuncts, has_conjunct, subst}
use Rattle.cov_ast.specs.Syntax.{Cert}
use Rattle.cov_ast.specs.Syntax as by
use Rattle.entail_range.specs.Range.{range_valid}
use Rattle.entail_ring.specs.Ring.{ring_equal}
use Rattle.entail_cert.specs.Axioms.{numbered, axiom_for}
use Rattle.entail_cert.specs.WordTests.{is_of_words}

-- Conditions ---------------------------------------------------------------------------------------------------

-- closed, with a value that isn't 0
abbrev pub is_true : Term → Bool
is_true e = is_closed e && is_set (value e [])

-- closed, with the value 0
abbrev pub is_false : Term → Bool
is_false e = is_closed e && not (is_set (value e []))

-- whether an expression is a conjunct of a hypothesis
abbrev pub is_known : List Term → Term → Bool
is_known hyps e = list_any (λ h. has_conjunct h e) hyps

-- each conjunct of the goal is true or known
abbrev pub is_all_known : List Term → Term → Bool
is_all_known hyps goal = list_all (λ e. is_true e || is_known hyps e) (conjuncts goal)

abbrev pub is_plain : List Term → Term → Bool
is_plain hyps goal = list_any is_false hyps || is_all_known hyps goal

abbrev pub is_some_and : {A : Type 0} → (A → Bool) → Option A → Bool
is_some_and test None = false
is_some_and test (Some x) = test x

-- the operands, where the expression has this operator
abbrev pub operands : Op → Term → Option (Term × Term)
operands op (bin o a b) = if op_number o == op_number op then Some (a, b) else None
operands op (const k) = None
operands op (var x) = None
operands op (neg e) = None

-- what the expression negates, where it is a negation
abbrev pub negated : Term → Option Term
negated (neg e) = Some e
negated (const k) = None
negated (var x) = None
negated (bin op a b) = None

abbrev pub operands_of : Op → Option Term → Option (Term × Term)
operands_of op None = None
operands_of op (Some e) = operands op e

-- the template with an expression in the place of each hole
abbrev pub filled : Term → Term → Term
filled template e = subst template HOLE e

-- whether the second is there and is the negation of the first
abbrev pub is_negation : Option Term → Option Term → Bool
is_negation None f = false
is_negation (Some e) None = false
is_negation (Some e) (Some f) = same f (neg e)

abbrev pub is_reflexive : Option (Term × Term) → Bool
is_reflexive None = false
is_reflexive (Some sides) = same sides.0 sides.1

-- whether both sides are one polynomial
abbrev pub are_ring_equal : Option (Term × Term) → Bool
are_ring_equal None = false
are_ring_equal (Some sides) = ring_equal sides.0 sides.1

-- An equation of two sides that are one polynomial. Each expression of the code is made of words, so the test for that leaves out none.
abbrev pub is_ring : Term → Bool
is_ring goal = are_ring_equal (operands Eq goal) && is_of_words goal

-- A goal that follows from the bounds that hypotheses give. The test for words is as above.
abbrev pub is_range : List Term → Term → Bool
is_range hyps goal = range_valid hyps goal && is_of_words goal

-- Nodes that fail ----------------------------------------------------------------------------------------------
--
-- A node is named by its path from the root: the numbers of the children that lead to it. A search for the first node
-- that fails, in pre-order, gives its path, or nothing.

-- the node fails where its condition doesn't hold
abbrev pub only_if : Bool → Option (List ℕ) → Option (List ℕ)
only_if true children = children
only_if false children = Some []

-- the node fails where there is none
abbrev pub only_with : {A : Type 0} → Option A → (A → Option (List ℕ)) → Option (List ℕ)
only_with None children = Some []
only_with (Some x) children = children x

abbrev pub in_child : ℕ → Option (List ℕ) → Option (List ℕ)
in_child n None = None
in_child n (Some path) = Some (n ∷ path)

abbrev pub one : Option (List ℕ) → Option (List ℕ)
one first = in_child 1 first

abbrev pub two : Option (List ℕ) → Option (List ℕ) → Option (List ℕ)
two None second = in_child 2 second
two (Some path) second = Some (1 ∷ path)

-- The path of the first node, in pre-order, whose own condition fails, if there is one.
abbrev pub first_bad : List Term → Term → Cert → Option (List ℕ)
first_bad hyps goal by.auto = only_if (is_plain hyps goal) None
first_bad hyps goal (by.hyp i) = only_if (is_some_and (λ h. same h goal) (numbered hyps i)) None
first_bad hyps goal by.calc = only_if (is_true goal) None
first_bad hyps goal (by.clash i) = only_if (is_some_and is_false (numbered hyps i)) None
first_bad hyps goal (by.and c d) =
    only_with (operands Both goal) (λ (a, b). two (first_bad hyps a c) (first_bad hyps b d))
first_bad hyps goal (by.left c) = only_with (operands Either goal) (λ (a, b). one (first_bad hyps a c))
first_bad hyps goal (by.right c) = only_with (operands Either goal) (λ (a, b). one (first_bad hyps b c))
first_bad hyps goal (by.unpack i c) =
    only_with (operands_of Both (numbered hyps i)) (λ (a, b). one (first_bad (hyps ++ a ∷ b ∷ []) goal c))
first_bad hyps goal (by.cases i c d) =
    only_with (operands_of Either (numbered hyps i))
    (λ (a, b). two (first_bad (hyps ++ a ∷ []) goal c) (first_bad (hyps ++ b ∷ []) goal d))
first_bad hyps goal (by.split e c d) = two (first_bad (hyps ++ e ∷ []) goal c) (first_bad (hyps ++ neg e ∷ []) goal d)
first_bad hyps goal (by.have e c d) = two (first_bad hyps e c) (first_bad (hyps ++ e ∷ []) goal d)
first_bad hyps goal (by.absurdity i j) = only_if (is_negation (numbered hyps i) (numbered hyps j)) None
first_bad hyps goal (by.negation c) = only_with (negated goal) (λ a. one (first_bad (hyps ++ a ∷ []) (const 0) c))
first_bad hyps goal (by.contra c) = one (first_bad (hyps ++ neg goal ∷ []) (const 0) c)
first_bad hyps goal by.reflexive = only_if (is_reflexive (operands Eq goal)) None
first_bad hyps goal (by.fwd i t c) =
    only_with (operands_of Eq (numbered hyps i))
    (λ (a, b). only_if (same (filled t a) goal) (one (first_bad hyps (filled t b) c)))
first_bad hyps goal (by.rev i t c) =
    only_with (operands_of Eq (numbered hyps i))
    (λ (a, b). only_if (same (filled t b) goal) (one (first_bad hyps (filled t a) c)))
first_bad hyps goal (by.instance k es c) = only_with (axiom_for k es) (λ e. one (first_bad (hyps ++ e ∷ []) goal c))
first_bad hyps goal by.ring = only_if (is_ring goal) None
first_bad hyps goal by.range = only_if (is_range hyps goal) None

-- No node fails.
abbrev pub is_valid : List Term → Term → Cert → Bool
is_valid hyps goal cert = is_none (first_bad hyps goal cert)
