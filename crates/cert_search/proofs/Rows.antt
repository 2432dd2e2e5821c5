-- Worked rows: what each depth finds, what it doesn't, and what is in a class.
use Rattle.std.proofs.Common.{◌≡◌, List, [], ◌∷◌, true, false, Some, None, refl}
use Rattle.cov_expr.specs.declared.expr.Op.TheVariants.{Add, Eq, Ne, Lt, Le, Both, Either}
use Rattle.cov_expr.specs.declared.expr.TheConstants.{HOLE}
use Rattle.cov_expr.specs.Term.{Term, const, var, neg, bin}
use Rattle.cov_ast.specs.Syntax as by
use Rattle.entail_cert.specs.Valid.{is_valid}
use Rattle.cert_search.specs.Classes.{is_in_class}
use Rattle.cert_search.specs.Searching.{search}

-- `a`, `b`, `c`, `d`
abbrev a : Term
a = var 0

abbrev b : Term
b = var 1

abbrev c : Term
c = var 2

abbrev d : Term
d = var 3

-- `e == f`, `e <= f` and `_`
abbrev is : Term → Term → Term
is e f = bin Eq e f

abbrev at_most : Term → Term → Term
at_most e f = bin Le e f

abbrev hole : Term
hole = var HOLE

-- Without a step -----------------------------------------------------------------------------------------------

-- `a <= 2` gives `a + 1 < 4`
by_bounds : search 0 (at_most a (const 2) ∷ []) (bin Lt (bin Add a (const 1)) (const 4)) ≡ Some by.range
by_bounds = refl

-- `a < 3` and `!(a < 3)` give `b == 7`
by_denial : search 0 (bin Lt a (const 3) ∷ neg (bin Lt a (const 3)) ∷ []) (is b (const 7)) ≡ Some (by.absurdity 1 2)
by_denial = refl

-- `a + b == b + a`
by_polynomials : search 0 [] (is (bin Add a b) (bin Add b a)) ≡ Some by.ring
by_polynomials = refl

-- By one step --------------------------------------------------------------------------------------------------

-- `a == 1` and `a == 0` give 0, by a replacement in the second
abbrev modes : List Term
modes = is a (const 1) ∷ is a (const 0) ∷ []

abbrev clash : by.Cert
clash = by.have (is (const 1) (const 0)) (by.rev 1 (is hole (const 0)) (by.hyp 2)) by.auto

clash_found : search 1 modes (const 0) ≡ Some clash
clash_found = refl

clash_in : is_in_class 1 modes (const 0) clash ≡ true
clash_in = refl

clash_not_in : is_in_class 0 modes (const 0) clash ≡ false
clash_not_in = refl

clash_valid : is_valid modes (const 0) clash ≡ true
clash_valid = refl

nothing_at_once : search 0 modes (const 0) ≡ None
nothing_at_once = refl

-- `a <= 3`, `a <= 2` and `b == a` give `b <= 2`
replaced_and_known : search 1 (at_most a (const 3) ∷ at_most a (const 2) ∷ is b a ∷ []) (at_most b (const 2)) ≡ Some (by.fwd 3 (at_most hole (const 2)) by.auto)
replaced_and_known = refl

-- `b <= 2` and `a == b + 1` give `a <= 3`
replaced_and_bounded : search 1 (at_most b (const 2) ∷ is a (bin Add b (const 1)) ∷ []) (at_most a (const 3)) ≡ Some (by.fwd 2 (at_most hole (const 3)) by.range)
replaced_and_bounded = refl

-- `a <= 3 && b <= 3` gives `a + b <= 6`
taken_apart : search 1 (bin Both (at_most a (const 3)) (at_most b (const 3)) ∷ []) (at_most (bin Add a b) (const 6)) ≡ Some (by.unpack 1 by.range)
taken_apart = refl

abbrev one_or_two : List Term
one_or_two = bin Either (is a (const 1)) (is a (const 2)) ∷ []

-- `a == 1 || a == 2` gives `a <= 2`
in_each_case : search 1 one_or_two (at_most a (const 2)) ≡ Some (by.cases 1 by.range by.range)
in_each_case = refl

-- `a == 1` gives `a <= 2 && a + b == b + a`
both_parts : search 1 (is a (const 1) ∷ []) (bin Both (at_most a (const 2)) (is (bin Add a b) (bin Add b a))) ≡ Some (by.and by.range by.ring)
both_parts = refl

-- `a <= 1` gives `b == 7 || a < 2`
one_part : search 1 (at_most a (const 1) ∷ []) (bin Either (is b (const 7)) (bin Lt a (const 2))) ≡ Some (by.right by.range)
one_part = refl

-- By two steps -------------------------------------------------------------------------------------------------

abbrev chain : List Term
chain = is a b ∷ is b c ∷ is c (const 3) ∷ []

-- `a == b`, `b == c` and `c == 3` give `a <= 5`, and not by one step
chained : search 2 chain (at_most a (const 5)) ≡ Some (by.fwd 1 (at_most hole (const 5)) (by.fwd 2 (at_most hole (const 5)) by.range))
chained = refl

not_by_one : search 1 chain (at_most a (const 5)) ≡ None
not_by_one = refl

-- `a == 1 || a == 2` gives `a != 0 && a < 3`, and not by one step
each_part_in_each_case : search 2 one_or_two (bin Both (bin Ne a (const 0)) (bin Lt a (const 3))) ≡ Some (by.and (by.cases 1 by.range by.range) (by.cases 1 by.range by.range))
each_part_in_each_case = refl

not_in_one : search 1 one_or_two (bin Both (bin Ne a (const 0)) (bin Lt a (const 3))) ≡ None
not_in_one = refl

-- By no certificate of a class ---------------------------------------------------------------------------------

-- `a == b`, `b == c`, `c == d` and `d == 3` give `a <= 5`, by three replacements
abbrev longer_chain : List Term
longer_chain = is a b ∷ is b c ∷ is c d ∷ is d (const 3) ∷ []

not_by_two : search 2 longer_chain (at_most a (const 5)) ≡ None
not_by_two = refl

by_three : is_valid longer_chain (at_most a (const 5)) (by.fwd 1 (at_most hole (const 5)) (by.fwd 2 (at_most hole (const 5)) (by.fwd 3 (at_most hole (const 5)) by.range))) ≡ true
by_three = refl

-- `3 == a` gives `a <= 3`, by a replacement from the right to the left
number_first : search 2 (is (const 3) a ∷ []) (at_most a (const 3)) ≡ None
number_first = refl

backward_valid : is_valid (is (const 3) a ∷ []) (at_most a (const 3)) (by.rev 1 (at_most hole (const 3)) by.calc) ≡ true
backward_valid = refl

-- `a <= 3` and `b <= a` give `b <= 3`, by an axiom
between_variables : search 2 (at_most a (const 3) ∷ at_most b a ∷ []) (at_most b (const 3)) ≡ None
between_variables = refl

by_axiom : is_valid (at_most a (const 3) ∷ at_most b a ∷ []) (at_most b (const 3))
    (by.instance 12 (b ∷ a ∷ const 3 ∷ [])
    (by.cases 3 (by.have (bin Both (at_most b a) (at_most a (const 3))) (by.and (by.hyp 2) (by.hyp 1)) (by.absurdity 5 4)) (by.hyp 4))) ≡ true
by_axiom = refl

-- `a == 0 || !(a == 0)` holds, by a split
either_way : search 2 [] (bin Either (is a (const 0)) (neg (is a (const 0)))) ≡ None
either_way = refl

by_split : is_valid [] (bin Either (is a (const 0)) (neg (is a (const 0)))) (by.split (is a (const 0)) (by.left (by.hyp 1)) (by.right (by.hyp 1))) ≡ true
by_split = refl

-- 1 doesn't give 0
nothing : search 2 (const 1 ∷ []) (const 0) ≡ None
nothing = refl

-- Members ------------------------------------------------------------------------------------------------------

-- A replacement in a goal that doesn't mention the variable is in the class: its child has the same goal.
unmoved : is_in_class 1 (is a b ∷ at_most c (const 5) ∷ []) (at_most c (const 5)) (by.fwd 1 (at_most c (const 5)) by.auto) ≡ true
unmoved = refl

-- The equation by which another is replaced has another number, and may be the same.
abbrev next : Term
next = is a (bin Add a (const 1))

abbrev in_itself : by.Cert
in_itself = by.have (is (bin Add a (const 1)) (bin Add (bin Add a (const 1)) (const 1))) (by.rev 1 (is hole (bin Add hole (const 1))) (by.hyp 1)) by.auto

abbrev in_its_like : by.Cert
in_its_like = by.have (is (bin Add a (const 1)) (bin Add (bin Add a (const 1)) (const 1))) (by.rev 1 (is hole (bin Add hole (const 1))) (by.hyp 2)) by.auto

not_in_itself : is_in_class 1 (next ∷ []) (const 0) in_itself ≡ false
not_in_itself = refl

but_in_its_like : is_in_class 1 (next ∷ next ∷ []) (const 0) in_its_like ≡ true
but_in_its_like = refl
