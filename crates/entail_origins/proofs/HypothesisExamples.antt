-- Small ways, and what is said of hypotheses behind them, by computation.
use Rattle.std.proofs.Common.{◌≡◌, ℕ, List, [], ◌∷◌, Some, None, true, false, refl, codes, lit<}
use Rattle.std.proofs.lemmas.Fmt.{decimal_digit}
use Rattle.cov_expr.specs.declared.expr.Op.TheVariants.{Eq, Le}
use Rattle.cov_expr.specs.Term.{Term, const, var, neg, bin}
use Rattle.cov_ast.specs.Plain.{Plain}
use Rattle.cov_ast.specs.Syntax as s
use Rattle.statement_paths.specs.Paths.{Step, passed, yes, no, head}
use Rattle.entail_origins.specs.Origins.{origin, at_place}
use Rattle.entail_origins.specs.Remarks.{remarks}
use Rattle.entail_origins.specs.declared.hypothesis_origin.HypothesisSource.TheVariants.{Assigned, Invariant, Join, LoopLeft, LoopState, Noted, GuardHolds, GuardFails}

-- lock door has the invariant x <= 2, and lock bell none
abbrev program : Plain
program = record {
  vars = [];
  locks = record { name = codes "door"; at = 0; nowrite = []; hide = []; inv = Some (bin Le (var 0) (const 2)) }
      ∷ record { name = codes "bell"; at = 0; nowrite = []; hide = []; inv = None } ∷ [];
  threads = [];
}

abbrev small : Term
small = bin Le (var 0) (const 2)

abbrev is_one : Term
is_one = bin Eq (var 0) (const 1)

abbrev stated : List Term → s.State
stated es = record { preds = es; types = [] }

abbrev one : Step
one = passed 4 (s.assign 0 (const 1) None [])

abbrev taken : Step
taken = passed 3 (s.lock 0)

abbrev noted : Step
noted = passed 7 (s.note (stated (var 1 ∷ small ∷ [])))

abbrev choice : Step
choice = passed 8 (s.branch (var 1) s.done s.done (stated (is_one ∷ [])))

abbrev left : Step
left = passed 9 (s.loop (var 1) (stated (small ∷ [])) s.done)

-- One step -----------------------------------------------------------------------------------------------------

assigned : origin program (one ∷ []) is_one ≡ Some (at_place 4 Assigned)
assigned = refl

-- the sides of the equation aren't exchanged
not_assigned : origin program (one ∷ []) (bin Eq (const 1) (var 0)) ≡ None
not_assigned = refl

locked : origin program (taken ∷ []) small ≡ Some (at_place 3 (Invariant 0))
locked = refl

no_invariant : origin program (passed 3 (s.lock 1) ∷ []) (const 1) ≡ None
no_invariant = refl

-- what stands in the blocks of a branch, and its guard, gives nothing behind it
joined : origin program (choice ∷ []) is_one ≡ Some (at_place 8 Join)
joined = refl

not_joined : origin program (choice ∷ []) (var 1) ≡ None
not_joined = refl

loop_left : origin program (left ∷ []) (neg (var 1)) ≡ Some (at_place 9 LoopLeft)
loop_left = refl

behind_a_loop : origin program (left ∷ []) small ≡ Some (at_place 9 LoopState)
behind_a_loop = refl

at_a_head : origin program (head 9 (stated (small ∷ [])) ∷ []) small ≡ Some (at_place 9 LoopState)
at_a_head = refl

noted_second : origin program (noted ∷ []) small ≡ Some (at_place 7 Noted)
noted_second = refl

guarded : origin program (yes 8 (var 1) ∷ []) (var 1) ≡ Some (at_place 8 GuardHolds)
guarded = refl

otherwise : origin program (no 8 (var 1) ∷ []) (neg (var 1)) ≡ Some (at_place 8 GuardFails)
otherwise = refl

freed : origin program (passed 5 (s.unlock 0) ∷ passed 6 (s.output small) ∷ passed 7 s.skip ∷ []) small ≡ None
freed = refl

-- Several steps ------------------------------------------------------------------------------------------------

the_last_counts : origin program (taken ∷ one ∷ noted ∷ yes 8 is_one ∷ []) small ≡ Some (at_place 7 Noted)
the_last_counts = refl

others_are_passed : origin program (taken ∷ one ∷ []) small ≡ Some (at_place 3 (Invariant 0))
others_are_passed = refl

-- Remarks ------------------------------------------------------------------------------------------------------

-- three line feeds: the place 3 stands in line 3, and 4 in line 4
abbrev text : List ℕ
text = 10 ∷ 120 ∷ 10 ∷ 10 ∷ 120 ∷ 120 ∷ 120 ∷ 120 ∷ []

all_said : remarks program text (taken ∷ one ∷ []) false (small ∷ is_one ∷ var 1 ∷ [])
    ≡ codes "invariant of door, line 3" ∷ codes "assignment, line 4" ∷ [] ∷ []
all_said = simp (decimal_digit 3 (lit< tt), decimal_digit 4 (lit< tt))

last_asked : remarks program text (taken ∷ one ∷ []) true (small ∷ is_one ∷ []) ≡ codes "invariant of door, line 3" ∷ codes "asked with the goal" ∷ []
last_asked = simp (decimal_digit 3 (lit< tt))

none_asked : remarks program text [] true [] ≡ []
none_asked = refl
