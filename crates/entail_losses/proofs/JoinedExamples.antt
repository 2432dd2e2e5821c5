-- Small ways past branches, and what their joins left out, by computation.
use Rattle.std.proofs.Common.{◌≡◌, ℕ, List, [], ◌∷◌, Some, None, true, false, refl}
use Rattle.cov_expr.specs.declared.expr.Op.TheVariants.{Eq}
use Rattle.cov_expr.specs.Term.{Term, const, var, bin}
use Rattle.cov_ast.specs.Plain.{Plain}
use Rattle.cov_ast.specs.Syntax as s
use Rattle.entail_losses.specs.Joined.{with_joined}
use Rattle.entail_losses.specs.LeftOut.{LeftOut, left_out_at, state_at}
use Rattle.entail_losses.specs.declared.left_out_states.StateAt.{StateAt}
use Rattle.entail_losses.specs.declared.left_out_states.StateKind.TheVariants as of
use Rattle.entail_losses.specs.declared.left_out_states.States.{States}
use Rattle.entail_origins.specs.Origins.{given}
use Rattle.entail_origins.specs.declared.hypothesis_origin.HypothesisSource.TheVariants.{Assigned, GuardHolds, Noted}
use Rattle.statement_paths.specs.Paths.{Step, passed}

-- a thread that assumes of no variable that others don't write it; the sets of stable variables are given
abbrev program : Plain
program = record { vars = []; locks = []; threads = [] }

abbrev equals : (x k : ℕ) → Term
equals x k = bin Eq (var x) (const k)

abbrev stated : List Term → s.State
stated es = record { preds = es; types = [] }

-- x := k at a place, in front of others
abbrev assigned : (at x k : ℕ) → s.Block → s.Block
assigned at x k rest = s.more at (s.assign x (const k) None []) [] rest

abbrev noted : (at : ℕ) → List Term → s.Block → s.Block
noted at es rest = s.more at (s.note (stated es)) [] rest

-- if c { .. } else { .. } at the place 5, with a join that lists these
abbrev either : s.Block → s.Block → (listed : List Term) → Step
either a b listed = passed 5 (s.branch (var 2) a b (stated listed))

-- a join alone
abbrev only : StateAt → States
only state = record { first = state; last = None }

-- at a point where three variables are stable, and nothing else is told
abbrev joined : (hypotheses : List Term) → List Step → List LeftOut
joined hypotheses steps = with_joined hypotheses program [] (true ∷ true ∷ true ∷ []) steps

-- One predicate ------------------------------------------------------------------------------------------------

-- x := 1 in both
by_both : joined [] (either (assigned 6 0 1 s.done) (assigned 8 0 1 s.done) [] ∷ []) ≡ left_out_at 6 (only (state_at of.Join 5)) (given Assigned (equals 0 1)) ∷ []
by_both = refl

-- in front of further steps, which touch another variable
further : joined [] (either (assigned 6 0 1 s.done) (assigned 8 0 1 s.done) [] ∷ passed 9 (s.assign 1 (const 2) None []) ∷ [])
    ≡ left_out_at 6 (only (state_at of.Join 5)) (given Assigned (equals 0 1)) ∷ []
further = refl

-- in front of two further states
up_to_a_note : joined [] (either (assigned 6 0 1 s.done) (assigned 8 0 1 s.done) [] ∷ passed 9 (s.note (stated [])) ∷ passed 10 (s.note (stated [])) ∷ [])
    ≡ left_out_at 6 (record { first = state_at of.Join 5; last = Some (state_at of.Note 10) }) (given Assigned (equals 0 1)) ∷ []
up_to_a_note = refl

-- by a note in one of them
by_a_note : joined [] (either (noted 6 (equals 0 1 ∷ []) s.done) (assigned 8 1 3 (assigned 9 0 1 s.done)) [] ∷ []) ≡ left_out_at 6 (only (state_at of.Join 5)) (given Noted (equals 0 1)) ∷ []
by_a_note = refl

-- None ---------------------------------------------------------------------------------------------------------

by_one : joined [] (either (assigned 6 0 1 s.done) (assigned 8 0 2 s.done) [] ∷ []) ≡ []
by_one = refl

joined_already : joined [] (either (assigned 6 0 1 s.done) (assigned 8 0 1 s.done) (equals 0 1 ∷ []) ∷ []) ≡ []
joined_already = refl

known : joined (equals 0 1 ∷ []) (either (assigned 6 0 1 s.done) (assigned 8 0 1 s.done) [] ∷ []) ≡ []
known = refl

-- touched later in one block, or behind the branch
touched_in_a_block : joined [] (either (assigned 6 0 1 s.done) (assigned 8 0 1 (assigned 9 0 2 s.done)) [] ∷ []) ≡ []
touched_in_a_block = refl

touched_behind : joined [] (either (assigned 6 0 1 s.done) (assigned 8 0 1 s.done) [] ∷ passed 9 (s.assign 0 (const 2) None []) ∷ []) ≡ []
touched_behind = refl

-- a note behind it in one block leaves it out
left_out_in_a_block : joined [] (either (assigned 6 0 1 s.done) (assigned 8 0 1 (noted 9 [] s.done)) [] ∷ []) ≡ []
left_out_in_a_block = refl

not_stable : with_joined [] program [] (false ∷ true ∷ true ∷ []) (either (assigned 6 0 1 s.done) (assigned 8 0 1 s.done) [] ∷ []) ≡ []
not_stable = refl

-- Several ------------------------------------------------------------------------------------------------------

-- behind what was told otherwise; from the end of the first block back
in_order : with_joined [] program (left_out_at 1 (only (state_at of.Note 2)) (given GuardHolds (var 2)) ∷ []) (true ∷ true ∷ true ∷ [])
    (either (assigned 6 0 1 (assigned 7 1 3 s.done)) (assigned 8 1 3 (assigned 9 0 1 s.done)) [] ∷ [])
    ≡ left_out_at 1 (only (state_at of.Note 2)) (given GuardHolds (var 2)) ∷ left_out_at 7 (only (state_at of.Join 5)) (given Assigned (equals 1 3)) ∷ left_out_at 6 (only (state_at of.Join 5)) (given Assigned (equals 0 1)) ∷ []
in_order = refl
