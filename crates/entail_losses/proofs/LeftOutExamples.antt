-- Small ways, and what was left out on them, by computation.
use Rattle.std.proofs.Common.{◌≡◌, ℕ, List, [], ◌∷◌, Bool, length, Some, None, true, false, refl, codes, lit<}
use Rattle.std.proofs.lemmas.Fmt.{decimal_digit}
use Rattle.cov_expr.specs.declared.expr.Op.TheVariants.{Both, Eq, Le}
use Rattle.cov_expr.specs.Term.{Term, const, var, neg, bin}
use Rattle.cov_expr.specs.Trees.{has_term}
use Rattle.cov_ast.specs.Plain.{Plain}
use Rattle.cov_ast.specs.Syntax as s
use Rattle.entail_origins.specs.Origins.{given}
use Rattle.typing_points.specs.Points.{point_after_steps}
use Rattle.entail_origins.specs.declared.hypothesis_origin.HypothesisSource.TheVariants.{Assigned, Invariant, LoopLeft, Noted, GuardFails}
use Rattle.statement_paths.specs.Paths.{Step, passed, no, head}
use Rattle.entail_losses.specs.LeftOut.{LeftOut, left_out, left_out_at, state_at}
use Rattle.entail_losses.specs.LeftOutLines.{left_out_line}
use Rattle.entail_losses.specs.WouldBeKnown.{first_state, listed_by, listing}
use Rattle.entail_losses.specs.declared.left_out_states.StateAt.{StateAt}
use Rattle.entail_losses.specs.declared.left_out_states.StateKind.TheVariants as of
use Rattle.entail_losses.specs.declared.left_out_states.States.{States}

-- lock door has x and the invariant x <= 2
abbrev program : Plain
program = record {
  vars = [];
  locks = record { name = codes "door"; at = 0; nowrite = 0 ∷ []; hide = []; inv = Some (bin Le (var 0) (const 2)) } ∷ [];
  threads = [];
}

abbrev small : Term
small = bin Le (var 0) (const 2)

abbrev is_one : Term
is_one = bin Eq (var 0) (const 1)

abbrev stated : List Term → s.State
stated es = record { preds = es; types = [] }

abbrev one : Step
one = passed 4 (s.assign 0 (const 1) None [])

abbrev taken : Step
taken = passed 3 (s.lock 0)

abbrev freed : Step
freed = passed 9 (s.unlock 0)

abbrev noted : ℕ → List Term → Step
noted at es = passed at (s.note (stated es))

abbrev choice : Step
choice = passed 8 (s.branch (var 1) s.done s.done (stated []))

-- one state, and a first and a last one
abbrev only : StateAt → States
only state = record { first = state; last = None }

abbrev up_to : (last : StateAt) → (first : StateAt) → States
up_to last first = record { first = first; last = Some last }

abbrev small_by_note : LeftOut
small_by_note = left_out_at 3 (only (state_at of.Note 7)) (given (Invariant 0) small)

-- One predicate ------------------------------------------------------------------------------------------------

by_a_note : left_out program (var 1 ∷ []) (true ∷ true ∷ []) (taken ∷ noted 7 (var 1 ∷ []) ∷ []) ≡ small_by_note ∷ []
by_a_note = refl

-- by two states, and by three
by_both : left_out program [] (true ∷ true ∷ []) (taken ∷ noted 7 [] ∷ choice ∷ [])
    ≡ left_out_at 3 (up_to (state_at of.Join 8) (state_at of.Note 7)) (given (Invariant 0) small) ∷ []
by_both = refl

by_three : left_out program [] (true ∷ true ∷ []) (taken ∷ noted 7 [] ∷ choice ∷ noted 9 [] ∷ [])
    ≡ left_out_at 3 (up_to (state_at of.Note 9) (state_at of.Note 7)) (given (Invariant 0) small) ∷ []
by_three = refl

by_a_branch : left_out program [] (true ∷ true ∷ []) (one ∷ choice ∷ []) ≡ left_out_at 4 (only (state_at of.Join 8)) (given Assigned is_one) ∷ []
by_a_branch = refl

by_a_head : left_out program [] (true ∷ true ∷ []) (no 5 (var 1) ∷ head 6 (stated []) ∷ []) ≡ left_out_at 5 (only (state_at of.Inv 6)) (given GuardFails (neg (var 1))) ∷ []
by_a_head = refl

by_a_loop : left_out program [] (true ∷ true ∷ []) (one ∷ passed 6 (s.loop (var 1) (stated []) s.done) ∷ [])
    ≡ left_out_at 4 (only (state_at of.Inv 6)) (given Assigned is_one) ∷ []
by_a_loop = refl

-- what a loop gives behind it, and a note leaves out
of_a_loop : left_out program [] (true ∷ true ∷ []) (passed 6 (s.loop (var 1) (stated []) s.done) ∷ noted 7 [] ∷ [])
    ≡ left_out_at 6 (only (state_at of.Note 7)) (given LoopLeft (neg (var 1))) ∷ []
of_a_loop = refl

-- None ---------------------------------------------------------------------------------------------------------

no_state_behind : left_out program [] (true ∷ true ∷ []) (noted 2 [] ∷ taken ∷ []) ≡ []
no_state_behind = refl

known : left_out program (small ∷ []) (true ∷ true ∷ []) (taken ∷ noted 7 (small ∷ []) ∷ []) ≡ []
known = refl

-- a conjunction both of whose sides are hypotheses
known_in_parts : left_out program (var 1 ∷ small ∷ []) (true ∷ true ∷ []) (noted 5 (bin Both small (var 1) ∷ []) ∷ noted 7 (small ∷ var 1 ∷ []) ∷ []) ≡ []
known_in_parts = refl

known_in_part : left_out program (small ∷ []) (true ∷ true ∷ []) (noted 5 (bin Both small (var 1) ∷ []) ∷ noted 7 (small ∷ []) ∷ [])
    ≡ left_out_at 5 (only (state_at of.Note 7)) (given Noted (bin Both small (var 1))) ∷ []
known_in_part = refl

not_stable : left_out program [] (false ∷ true ∷ []) (taken ∷ noted 7 [] ∷ []) ≡ []
not_stable = refl

assigned_later : left_out program [] (true ∷ true ∷ []) (taken ∷ noted 7 [] ∷ one ∷ []) ≡ []
assigned_later = refl

-- also in a block of a branch or of a loop
assigned_in_a_branch : left_out program [] (true ∷ true ∷ []) (taken ∷ passed 8 (s.branch (var 1) s.done (s.more 8 (s.assign 0 (const 1) None []) [] s.done) (stated [])) ∷ []) ≡ []
assigned_in_a_branch = refl

assigned_in_a_loop : left_out program [] (true ∷ true ∷ []) (taken ∷ passed 6 (s.loop (var 1) (stated []) (s.more 8 (s.assign 0 (const 1) None []) [] s.done)) ∷ []) ≡ []
assigned_in_a_loop = refl

freed_later : left_out program [] (true ∷ true ∷ []) (taken ∷ noted 7 [] ∷ freed ∷ []) ≡ []
freed_later = refl

without_variables : left_out program [] (true ∷ true ∷ []) (noted 5 (const 1 ∷ []) ∷ noted 7 [] ∷ []) ≡ []
without_variables = refl

-- Several ------------------------------------------------------------------------------------------------------

-- from the point back; those of one step in their order; each once
in_order : left_out program [] (true ∷ true ∷ []) (noted 2 (var 1 ∷ []) ∷ taken ∷ noted 5 (var 1 ∷ neg (var 1) ∷ []) ∷ choice ∷ [])
    ≡ left_out_at 5 (only (state_at of.Join 8)) (given Noted (var 1)) ∷ left_out_at 5 (only (state_at of.Join 8)) (given Noted (neg (var 1)))
    ∷ left_out_at 3 (up_to (state_at of.Join 8) (state_at of.Note 5)) (given (Invariant 0) small) ∷ []
in_order = refl

abbrev many : List Term
many = bin Le (var 0) (const 1) ∷ bin Le (var 0) (const 2) ∷ bin Le (var 0) (const 3) ∷ bin Le (var 0) (const 4) ∷ bin Le (var 0) (const 5)
    ∷ bin Le (var 0) (const 6) ∷ bin Le (var 0) (const 7) ∷ bin Le (var 0) (const 8) ∷ bin Le (var 0) (const 9) ∷ []

at_most_eight : length (left_out program [] (true ∷ true ∷ []) (noted 5 many ∷ noted 7 [] ∷ [])) ≡ 8
at_most_eight = refl

-- Had the states listed it -----------------------------------------------------------------------------------------

abbrev knows : List Step → Bool
knows steps = has_term (point_after_steps program 0 steps).preds small

-- known in front of the note, forgotten behind it
in_front_of_the_note : knows (taken ∷ []) ≡ true
in_front_of_the_note = refl

forgotten : knows (taken ∷ noted 7 [] ∷ choice ∷ []) ≡ false
forgotten = refl

listed : knows (taken ∷ listing small (noted 7 [] ∷ choice ∷ [])) ≡ true
listed = refl

-- not where only the first state lists it
listed_once : knows (taken ∷ noted 7 (small ∷ []) ∷ choice ∷ []) ≡ false
listed_once = refl

-- what assigns the variable, or gives back its lock, forgets it all the same
assigned : knows (taken ∷ listing small (noted 7 [] ∷ one ∷ [])) ≡ false
assigned = refl

given_back : knows (taken ∷ listing small (noted 7 [] ∷ freed ∷ [])) ≡ false
given_back = refl

states_list_it : listing small (one ∷ noted 7 [] ∷ choice ∷ passed 6 (s.loop (var 1) (stated []) s.done) ∷ head 6 (stated (is_one ∷ [])) ∷ no 5 (var 1) ∷ [])
    ≡ one ∷ noted 7 (small ∷ []) ∷ passed 8 (s.branch (var 1) s.done s.done (stated (small ∷ []))) ∷ passed 6 (s.loop (var 1) (stated (small ∷ [])) s.done)
    ∷ head 6 (stated (is_one ∷ small ∷ [])) ∷ no 5 (var 1) ∷ []
states_list_it = refl

first_is_the_note : first_state (one ∷ noted 7 (small ∷ []) ∷ choice ∷ []) ≡ Some (state_at of.Note 7)
first_is_the_note = refl

note_lists_it : listed_by (one ∷ noted 7 (small ∷ []) ∷ choice ∷ []) ≡ small ∷ []
note_lists_it = refl

-- A line -------------------------------------------------------------------------------------------------------

-- three line feeds: the place 3 stands in line 3, and 7 in line 4
abbrev text : List ℕ
text = 10 ∷ 120 ∷ 10 ∷ 10 ∷ 120 ∷ 120 ∷ 120 ∷ 120 ∷ []

said : left_out_line program (codes "x" ∷ codes "y" ∷ []) text false (left_out_at 3 (only (state_at of.Note 7)) (given (Invariant 0) (var 1)))
    ≡ codes "  left out:     y   (invariant of door, line 3), by the note, line 4\n"
said = simp (decimal_digit 3 (lit< tt), decimal_digit 4 (lit< tt))

-- where it alone would help
said_to_help : left_out_line program (codes "x" ∷ codes "y" ∷ []) text true (left_out_at 3 (only (state_at of.Note 7)) (given (Invariant 0) (var 1)))
    ≡ codes "  would help:   y   (invariant of door, line 3), left out by the note, line 4\n"
said_to_help = simp (decimal_digit 3 (lit< tt), decimal_digit 4 (lit< tt))

-- where states come behind the first
said_up_to : left_out_line program (codes "x" ∷ codes "y" ∷ []) text true (left_out_at 1 (up_to (state_at of.Join 7) (state_at of.Note 3)) (given (Invariant 0) (var 1)))
    ≡ codes "  would help:   y   (invariant of door, line 2), left out by the note, line 3; each state since has to list it too, up to the join of the `if`, line 4\n"
said_up_to = simp (decimal_digit 2 (lit< tt), decimal_digit 3 (lit< tt), decimal_digit 4 (lit< tt))
