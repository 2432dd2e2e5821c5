-- Small entailments of which it is known, by computation, what is told of them.
use Rattle.std.proofs.Common.{◌≡◌, ℕ, List, [], ◌∷◌, Some, None, refl, codes, lit<}
use Rattle.std.proofs.lemmas.Fmt.{decimal_digit}
use Rattle.cov_expr.specs.Term.{Term, const, var, neg, bin}
use Rattle.cov_expr.specs.declared.expr.TheConstants.{HOLE}
use Rattle.cov_expr.specs.declared.expr.Op.TheVariants.{Eq, Le, Either}
use Rattle.cov_ast.specs.Syntax as s
use Rattle.entail_text.specs.Given.{cert_for}
use Rattle.entail_text.specs.Nodes.{node, node_at}
use Rattle.entail_text.specs.EntailmentLines.{entailment_text, place_of, indent}
use Rattle.entail_text.specs.OtherCertificates.{first_valid}

abbrev names : List (List ℕ)
names = codes "flight" ∷ codes "head" ∷ []

abbrev is_zero : Term → Term
is_zero e = bin Eq e (const 0)

abbrev hyps : List Term
hyps = bin Le (var 0) (const 2) ∷ is_zero (var 1) ∷ []

-- What is told ---------------------------------------------------------------------------------------------------

nothing_known : entailment_text names [] [] (const 0) None ≡ codes "  goal:         0\n  hypotheses:   none\n  certificate:  none given, and `auto` doesn't show it\n"
nothing_known = simp (decimal_digit 0 (lit< tt))

-- the template at 0 isn't the goal of the node
other_template : entailment_text names hyps [] (const 0) (Some (s.have (is_zero (const 1)) (s.rev 2 (is_zero (var HOLE)) s.auto) s.auto))
    ≡ codes "  goal:         0\n  hypotheses:   1  flight <= 2\n                2  head == 0\n  certificate:  given; fails at node 1: rev 2 [_ == 0] (the goal there is 1 == 0, and hypothesis 2 is head == 0)\n"
other_template = simp (decimal_digit 0 (lit< tt), decimal_digit 1 (lit< tt), decimal_digit 2 (lit< tt))

-- a number that names no hypothesis
no_hypothesis : entailment_text names (var 1 ∷ []) [] (var 0) (Some (s.hyp 2))
    ≡ codes "  goal:         flight\n  hypotheses:   1  head\n  certificate:  given; fails at the root: hyp 2 (the goal there is flight, and there is no hypothesis 2)\n"
no_hypothesis = simp (decimal_digit 1 (lit< tt), decimal_digit 2 (lit< tt))

fine : entailment_text names (var 1 ∷ []) [] (var 1) (Some s.auto) ≡ codes "  goal:         head\n  hypotheses:   1  head\n  certificate:  given; valid\n"
fine = simp (decimal_digit 1 (lit< tt))

-- remarks: of the second hypothesis none, and one more than there are hypotheses
remarked : entailment_text names hyps (codes "note, line 3" ∷ [] ∷ codes "more" ∷ []) (const 0) None
    ≡ codes "  goal:         0\n  hypotheses:   1  flight <= 2   (note, line 3)\n                2  head == 0\n  certificate:  none given, and `auto` doesn't show it\n"
remarked = simp (decimal_digit 0 (lit< tt), decimal_digit 1 (lit< tt), decimal_digit 2 (lit< tt))

-- fewer remarks than hypotheses
remark_missing : entailment_text names hyps (codes "guard" ∷ []) (const 0) None
    ≡ codes "  goal:         0\n  hypotheses:   1  flight <= 2   (guard)\n                2  head == 0\n  certificate:  none given, and `auto` doesn't show it\n"
remark_missing = simp (decimal_digit 0 (lit< tt), decimal_digit 1 (lit< tt), decimal_digit 2 (lit< tt))

-- a number of two digits stands one place to the left
second_digit : indent 10 ≡ []
second_digit = refl

-- Nodes ----------------------------------------------------------------------------------------------------------

a_path : place_of (2 ∷ 1 ∷ []) ≡ codes "node 2.1"
a_path = simp (decimal_digit 1 (lit< tt), decimal_digit 2 (lit< tt))

-- x == 0 || !(x == 0), by split [x == 0] (left (hyp 1)) (right (hyp 2)): below the second child
below_split : node_at (2 ∷ 1 ∷ []) (node [] (bin Either (is_zero (var 0)) (neg (is_zero (var 0)))) (s.split (is_zero (var 0)) (s.left (s.hyp 1)) (s.right (s.hyp 2))))
    ≡ Some (node (neg (is_zero (var 0)) ∷ []) (neg (is_zero (var 0))) (s.hyp 2))
below_split = refl

-- x <= 5 from x == 3, by fwd 1 [_ <= 5] calc
rewritten : node_at (1 ∷ []) (node (bin Eq (var 0) (const 3) ∷ []) (bin Le (var 0) (const 5)) (s.fwd 1 (bin Le (var HOLE) (const 5)) s.calc))
    ≡ Some (node (bin Eq (var 0) (const 3) ∷ []) (bin Le (const 3) (const 5)) s.calc)
rewritten = refl

no_third_child : node_at (3 ∷ []) (node [] (const 0) (s.have (const 1) s.calc s.calc)) ≡ None
no_third_child = refl

-- Certificates that are given ------------------------------------------------------------------------------------

abbrev proved : ℕ → s.Cert → s.Proof
proved n c = record { number = n; cert = c }

-- the first of two
first_given : cert_for (proved 1 s.calc ∷ proved 2 s.ring ∷ proved 2 s.range ∷ []) 2 ≡ Some s.ring
first_given = refl

not_given : cert_for (proved 2 s.range ∷ []) 1 ≡ None
not_given = refl

-- What other certificates would show ----------------------------------------------------------------------------

-- the second of two certificates, which is given for 7
second_shows : first_valid (record { number = 3; cert = s.hyp 2 } ∷ record { number = 7; cert = s.hyp 1 } ∷ []) 3 (var 1 ∷ var 0 ∷ []) (var 1) ≡ Some 7
second_shows = refl

-- that of the number itself isn't another
itself_is_none : first_valid (record { number = 7; cert = s.hyp 1 } ∷ []) 7 (var 1 ∷ var 0 ∷ []) (var 1) ≡ None
itself_is_none = refl
