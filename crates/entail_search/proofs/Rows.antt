-- Worked rows: what a deeper search finds, and what it doesn't.
use Rattle.std.proofs.Common.{◌≡◌, List, [], ◌∷◌, true, Some, None, is_some, refl}
use Rattle.cov_expr.specs.declared.expr.Op.TheVariants.{Add, Sub, Eq, Ne, Lt, Le, Both, Either}
use Rattle.cov_expr.specs.declared.expr.TheConstants.{HOLE}
use Rattle.cov_expr.specs.Term.{Term, const, var, neg, bin}
use Rattle.cov_ast.specs.Syntax as by
use Rattle.cert_search.specs.Searching.{search}
use Rattle.entail_search.specs.Deeper.{deeper}

-- `a`, `b`, `c`, `d`
abbrev a : Term
a = var 0

abbrev b : Term
b = var 1

abbrev c : Term
c = var 2

abbrev d : Term
d = var 3

-- `e == f`, `e <= f`, `e < f` and `_`
abbrev is : Term → Term → Term
is e f = bin Eq e f

abbrev at_most : Term → Term → Term
at_most e f = bin Le e f

abbrev less : Term → Term → Term
less e f = bin Lt e f

abbrev hole : Term
hole = var HOLE

-- Chains -------------------------------------------------------------------------------------------------------

abbrev in_order : List Term
in_order = at_most a b ∷ at_most b c ∷ []

-- `a <= b` and `b <= c` give `a <= c`
chain : deeper in_order (at_most a c) ≡ Some (by.have (bin Both (at_most a b) (at_most b c)) by.auto (by.instance 12 (a ∷ b ∷ c ∷ []) (by.cases 4 (by.absurdity 3 5) by.auto)))
chain = refl

-- and no search of two steps finds that
not_by_two : search 2 in_order (at_most a c) ≡ None
not_by_two = refl

-- `a <= b` and `b <= 3` give `a <= 5`
chain_and_bound : deeper (at_most a b ∷ at_most b (const 3) ∷ []) (at_most a (const 5)) ≡
    Some (by.have (bin Both (at_most a b) (at_most b (const 5))) (by.and by.auto by.range)
    (by.instance 12 (a ∷ b ∷ const 5 ∷ []) (by.cases 4 (by.absurdity 3 5) by.auto)))
chain_and_bound = refl

-- `a < b` and `b <= c` give `a < c`
strict_chain : deeper (less a b ∷ at_most b c ∷ []) (less a c) ≡
    Some (by.have (bin Both (less a b) (at_most b c)) by.auto
    (by.unpack 3 (by.instance 10 (b ∷ c ∷ [])
    (by.cases 6
    (by.cases 7 (by.absurdity 5 8)
    (by.have (bin Both (less a b) (less b c)) by.auto (by.instance 8 (a ∷ b ∷ c ∷ []) (by.cases 10 (by.absurdity 9 11) by.auto))))
    (by.rev 7 (less a hole) by.auto)))))
strict_chain = refl

-- `a < b` gives `a <= b`
weaker : deeper (less a b ∷ []) (at_most a b) ≡ Some (by.have (less a b) by.auto (by.instance 9 (a ∷ b ∷ []) (by.cases 3 (by.absurdity 2 4) by.auto)))
weaker = refl

-- `a <= b` doesn't give `b <= a`
not_turned : deeper (at_most a b ∷ []) (at_most b a) ≡ None
not_turned = refl

-- Contradictions -----------------------------------------------------------------------------------------------

-- `b < 0` gives 0
no_value : deeper (less b (const 0) ∷ []) (const 0) ≡
    Some (by.have (less b (const 0)) by.auto (by.have (less b b) by.range (by.instance 7 (b ∷ []) (by.absurdity 3 4))))
no_value = refl

no_value_by_two : search 2 (less b (const 0) ∷ []) (const 0) ≡ None
no_value_by_two = refl

-- Cases --------------------------------------------------------------------------------------------------------

-- `e == 0 || e == 1 || e == 2`
abbrev to_two : Term → Term
to_two e = bin Either (bin Either (is e (const 0)) (is e (const 1))) (is e (const 2))

-- where `a` is at most 2 and isn't 2, `c == a + 1` is at most 2
abbrev one_more : List Term
one_more = to_two a ∷ at_most b (const 1) ∷ neg (is a (const 2)) ∷ is c (bin Add a (const 1)) ∷ []

one_more_found : deeper one_more (to_two c) ≡
    Some (by.cases 1
    (by.cases 5 (by.left (by.right (by.fwd 4 (is hole (const 1)) by.range))) (by.right (by.fwd 4 (is hole (const 2)) by.range)))
    (by.absurdity 5 3))
one_more_found = refl

not_one_more_by_two : search 2 one_more (to_two c) ≡ None
not_one_more_by_two = refl

-- where `a` is at most 2 and isn't 0, `c == a - 1` is at most 1
abbrev one_less : List Term
one_less = to_two a ∷ neg (is a (const 0)) ∷ at_most b (const 1) ∷ is c (bin Sub a (const 1)) ∷ []

one_less_found : deeper one_less (to_two c) ≡
    Some (by.cases 1
    (by.cases 5 (by.absurdity 6 2) (by.left (by.left (by.fwd 4 (is hole (const 0)) by.range))))
    (by.left (by.right (by.fwd 4 (is hole (const 1)) by.range))))
one_less_found = refl

not_one_less_by_two : search 2 one_less (to_two c) ≡ None
not_one_less_by_two = refl

-- Other facts --------------------------------------------------------------------------------------------------

-- `!(a < b)` gives `b <= a`
not_less : deeper (neg (less a b) ∷ []) (at_most b a) ≡
    Some (by.have (neg (less a b)) by.auto
    (by.instance 6 (b ∷ a ∷ [])
    (by.cases 3
    (by.cases 4 (by.instance 9 (b ∷ a ∷ []) (by.cases 6 (by.absurdity 5 7) by.auto)) (by.instance 11 (b ∷ a ∷ []) (by.cases 6 (by.absurdity 5 7) by.auto)))
    (by.absurdity 4 2))))
not_less = refl

-- `!(b <= a)` and `!(c < b)` give `a < c`
denied_chain : is_some (deeper (neg (at_most b a) ∷ neg (less c b) ∷ []) (less a c)) ≡ true
denied_chain = refl

-- `!(a == 0)` gives `1 <= a`
not_zero : deeper (neg (is a (const 0)) ∷ []) (at_most (const 1) a) ≡
    Some (by.have (less (const 0) a)
    (by.have (neg (is a (const 0))) by.auto (by.instance 22 (a ∷ []) (by.cases 3 (by.absurdity 4 2) by.auto)))
    by.range)
not_zero = refl

-- `a != 0 && b == c` gives `0 < a`
other_than_zero : is_some (deeper (bin Both (bin Ne a (const 0)) (is b c) ∷ []) (less (const 0) a)) ≡ true
other_than_zero = refl

-- `a <= b`, `b == c` and `c <= d` give `a <= d`
through_an_equation : is_some (deeper (at_most a b ∷ is b c ∷ at_most c d ∷ []) (at_most a d)) ≡ true
through_an_equation = refl

-- `b <= a` gives `!(a < b)`
denied_goal : is_some (deeper (at_most b a ∷ []) (neg (less a b))) ≡ true
denied_goal = refl

-- `a < b` and `b <= a` give each goal
contradiction : is_some (deeper (less a b ∷ at_most b a ∷ []) (is c (const 7))) ≡ true
contradiction = refl

-- `a <= b && b <= c` gives `a <= c`
chain_in_one : is_some (deeper (bin Both (at_most a b) (at_most b c) ∷ []) (at_most a c)) ≡ true
chain_in_one = refl

-- `a == 0 || !(a == 0)` holds
either_way : deeper [] (bin Either (is a (const 0)) (neg (is a (const 0)))) ≡ Some (by.split (is a (const 0)) (by.left by.auto) (by.right by.auto))
either_way = refl

-- `a < b` gives `!(b < c) || a < c`
implied : is_some (deeper (less a b ∷ []) (bin Either (neg (less b c)) (less a c))) ≡ true
implied = refl

-- Ends by bounds -----------------------------------------------------------------------------------------------

-- `a <= b + 1` and `b <= 4` give `a <= 5`
bounded_end : deeper (at_most a (bin Add b (const 1)) ∷ at_most b (const 4) ∷ []) (at_most a (const 5)) ≡
    Some (by.have (bin Both (at_most a (bin Add b (const 1))) (at_most (bin Add b (const 1)) (const 5))) (by.and by.auto by.range)
    (by.instance 12 (a ∷ bin Add b (const 1) ∷ const 5 ∷ []) (by.cases 4 (by.absurdity 3 5) by.auto)))
bounded_end = refl

-- `c == d`, `d == a + 1` and `a <= 1` give `c < 3`
through_two_equations : is_some (deeper (is c d ∷ is d (bin Add a (const 1)) ∷ at_most a (const 1) ∷ []) (less c (const 3))) ≡ true
through_two_equations = refl

-- `3 < a` and `a <= b + 1`, where `b <= 1`, give 0
no_value_above : is_some (deeper (less (const 3) a ∷ at_most a (bin Add b (const 1)) ∷ at_most b (const 1) ∷ []) (const 0)) ≡ true
no_value_above = refl
