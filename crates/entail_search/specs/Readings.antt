-- The facts of order that hypotheses give.
use Rattle.std.specs.Prelude.{ℕ, ◌+◌, ◌==◌, List, [], ◌∷◌, Bool, false, Option, Some, None, if◌then◌else◌}
use Rattle.cov_expr.specs.declared.expr.Op.{Op}
use Rattle.cov_expr.specs.declared.expr.Op.TheVariants.{Add, Sub, Mul, And, Or, Xor, Eq, Ne, Lt, Le, Both, Either}
use Rattle.cov_expr.specs.declared.expr.TheConstants.{HOLE}
use Rattle.cov_expr.specs.Term.{Term, const, var, neg, bin}
use Rattle.cov_ast.specs.Syntax.{Cert}
use Rattle.cov_ast.specs.Syntax as by
use Rattle.entail_cert.specs.Valid.{operands}
use Rattle.entail_search.specs.Facts.{Fact, by_premise, with_any}

-- Certificates -------------------------------------------------------------------------------------------------
--
-- Each is for where hypothesis n + 1, the last, says what is named.

-- `b <= a`, of `!(a < b)`
abbrev pub not_less : ℕ → Term → Term → Cert
not_less n a b =
    by.instance 6 (b ∷ a ∷ [])
    (by.cases (n + 2)
    (by.cases (n + 3) (by.instance 9 (b ∷ a ∷ []) (by_premise (n + 4) (n + 5))) (by.instance 11 (b ∷ a ∷ []) (by_premise (n + 4) (n + 5))))
    (by.absurdity (n + 3) (n + 1)))

-- anything, of `!(a <= b)`, where hypothesis n + 4, the last, gives `a <= b` by the axiom of a number
abbrev pub against : ℕ → (k : ℕ) → Term → Term → Cert
against n k a b = by.instance k (a ∷ b ∷ []) (by.cases (n + 5) (by.absurdity (n + 4) (n + 6)) (by.absurdity (n + 6) (n + 1)))

-- `b < a`, of `!(a <= b)`
abbrev pub not_at_most : ℕ → Term → Term → Cert
not_at_most n a b = by.instance 6 (a ∷ b ∷ []) (by.cases (n + 2) (by.cases (n + 3) (against n 9 a b) (against n 11 a b)) by.auto)

-- `a <= b`, of `a == b`
abbrev pub equal_below : ℕ → Term → Term → Cert
equal_below n a b = by.instance 11 (a ∷ b ∷ []) (by_premise (n + 1) (n + 2))

-- `b <= a`, of `a == b`
abbrev pub equal_above : ℕ → Term → Term → Cert
equal_above n a b =
    by.have (bin Eq b a) (by.rev (n + 1) (bin Eq (var HOLE) a) by.reflexive) (by.instance 11 (b ∷ a ∷ []) (by_premise (n + 2) (n + 3)))

-- `0 < a`, of `!(a == 0)`
abbrev pub not_zero : ℕ → Term → Cert
not_zero n a = by.instance 22 (a ∷ []) (by.cases (n + 2) (by.absurdity (n + 3) (n + 1)) by.auto)

-- `0 < a`, of `a != 0`
abbrev pub other_than_zero : ℕ → Term → Cert
other_than_zero n a =
    by.instance 22 (a ∷ [])
    (by.cases (n + 2) (by.instance 4 (a ∷ const 0 ∷ []) (by.cases (n + 4) (by.absurdity (n + 3) (n + 5)) (by.absurdity (n + 1) (n + 5)))) by.auto)

-- Of a conjunct of a hypothesis --------------------------------------------------------------------------------

-- what a conjunct says, as a fact
abbrev pub itself : Term → Fact
itself e = record { says = e; shown = by.auto }

-- what follows from a conjunct of a hypothesis, by a certificate behind it
abbrev pub derived : (e says : Term) → Cert → Fact
derived e says c = record { says = says; shown = by.have e by.auto c }

abbrev pub is_zero : Term → Bool
is_zero (const k) = k == 0
is_zero (var x) = false
is_zero (neg e) = false
is_zero (bin op a b) = false

-- the fact, where a side is 0
abbrev pub if_zero : Term → Fact → Option Fact
if_zero e f = if is_zero e then Some f else None

-- of a comparison
abbrev pub fact_of_comparison : ℕ → Op → Term → Term → Option Fact
fact_of_comparison n Lt a b = Some (itself (bin Lt a b))
fact_of_comparison n Le a b = Some (itself (bin Le a b))
fact_of_comparison n Eq a b = Some (derived (bin Eq a b) (bin Le a b) (equal_below n a b))
fact_of_comparison n Ne a b = if_zero b (derived (bin Ne a b) (bin Lt (const 0) a) (other_than_zero n a))
fact_of_comparison n Add a b = None
fact_of_comparison n Sub a b = None
fact_of_comparison n Mul a b = None
fact_of_comparison n And a b = None
fact_of_comparison n Or a b = None
fact_of_comparison n Xor a b = None
fact_of_comparison n Both a b = None
fact_of_comparison n Either a b = None

-- of the negation of a comparison
abbrev pub fact_of_denial : ℕ → Op → Term → Term → Option Fact
fact_of_denial n Lt a b = Some (derived (neg (bin Lt a b)) (bin Le b a) (not_less n a b))
fact_of_denial n Le a b = Some (derived (neg (bin Le a b)) (bin Lt b a) (not_at_most n a b))
fact_of_denial n Eq a b = if_zero b (derived (neg (bin Eq a b)) (bin Lt (const 0) a) (not_zero n a))
fact_of_denial n Ne a b = None
fact_of_denial n Add a b = None
fact_of_denial n Sub a b = None
fact_of_denial n Mul a b = None
fact_of_denial n And a b = None
fact_of_denial n Or a b = None
fact_of_denial n Xor a b = None
fact_of_denial n Both a b = None
fact_of_denial n Either a b = None

abbrev pub fact_of_negation : ℕ → Term → Option Fact
fact_of_negation n (bin op a b) = fact_of_denial n op a b
fact_of_negation n (const k) = None
fact_of_negation n (var x) = None
fact_of_negation n (neg e) = None

-- the fact that a conjunct gives, with so many hypotheses
abbrev pub fact_of : ℕ → Term → Option Fact
fact_of n (bin op a b) = fact_of_comparison n op a b
fact_of n (neg e) = fact_of_negation n e
fact_of n (const k) = None
fact_of n (var x) = None

-- the other fact that an equation gives
abbrev pub turned_of : ℕ → Option (Term × Term) → Option Fact
turned_of n None = None
turned_of n (Some sides) = Some (derived (bin Eq sides.0 sides.1) (bin Le sides.1 sides.0) (equal_above n sides.0 sides.1))

-- Of hypotheses ------------------------------------------------------------------------------------------------

-- facts and those of a conjunct
abbrev pub gathered_one : ℕ → List Fact → Term → List Fact
gathered_one n facts e = with_any (with_any facts (fact_of n e)) (turned_of n (operands Eq e))

-- facts and those of each conjunct of a hypothesis
abbrev pub gathered : ℕ → List Fact → Term → List Fact
gathered n facts (bin Both a b) = gathered n (gathered n facts a) b
gathered n facts e = gathered_one n facts e

abbrev pub gathered_each : ℕ → List Fact → List Term → List Fact
gathered_each n facts [] = facts
gathered_each n facts (h ∷ hs) = gathered_each n (gathered n facts h) hs
