-- Small ways, and what stores forgot on them, by computation.
use Rattle.std.proofs.Common.{◌≡◌, ℕ, List, [], ◌∷◌, Bool, Option, Some, None, true, false, refl, codes, lit<}
use Rattle.std.proofs.lemmas.Fmt.{decimal_digit}
use Rattle.cov_expr.specs.declared.expr.Op.TheVariants.{Both, Le}
use Rattle.cov_expr.specs.Term.{Term, const, var, bin}
use Rattle.cov_expr.specs.Trees.{has_term}
use Rattle.cov_ast.specs.Plain.{Plain}
use Rattle.cov_ast.specs.Syntax as s
use Rattle.entail_losses.specs.Forgotten.{ForgottenPart, forgotten_at, forgotten_parts}
use Rattle.entail_losses.specs.ForgottenLines.{forgotten_line}
use Rattle.entail_losses.specs.LeftOut.{left_out_at, state_at}
use Rattle.entail_origins.specs.Origins.{at_place, given}
use Rattle.typing_points.specs.Points.{point_after_steps}
use Rattle.entail_origins.specs.declared.hypothesis_origin.HypothesisSource.TheVariants.{GuardHolds, Invariant, Noted}
use Rattle.entail_losses.specs.declared.left_out_states.StateAt.{StateAt}
use Rattle.entail_losses.specs.declared.left_out_states.StateKind.TheVariants as of
use Rattle.statement_paths.specs.Paths.{Step, passed, yes}

abbrev at_most : (x k : ℕ) → Term
at_most x k = bin Le (var x) (const k)

-- lock hub has x and y and the invariant x <= 2 && y <= 3
abbrev program : Plain
program = record {
  vars = [];
  locks = record { name = codes "hub"; at = 0; nowrite = 0 ∷ 1 ∷ []; hide = []; inv = Some (bin Both (at_most 0 2) (at_most 1 3)) } ∷ [];
  threads = [];
}

abbrev stated : List Term → s.State
stated es = record { preds = es; types = [] }

abbrev taken : Step
taken = passed 3 (s.lock 0)

abbrev freed : Step
freed = passed 9 (s.unlock 0)

abbrev stored : (x : ℕ) → Step
stored x = passed 5 (s.assign x (const 1) None [])

abbrev noted : ℕ → List Term → Step
noted at es = passed at (s.note (stated es))

abbrev turns : Step
turns = passed 6 (s.loop (var 2) (stated []) (s.more 7 (s.assign 0 (const 1) None []) [] s.done))

-- the second part of the invariant
abbrev second : Option StateAt → ForgottenPart
second state = forgotten_at (at_place 3 (Invariant 0)) state (at_most 1 3)

-- at a point where three variables are stable, and nothing else is told
abbrev parts : (hypotheses : List Term) → List Step → List ForgottenPart
parts hypotheses steps = forgotten_parts hypotheses [] program (true ∷ true ∷ true ∷ []) steps

-- One part -------------------------------------------------------------------------------------------------------

by_a_store : parts [] (taken ∷ stored 0 ∷ []) ≡ second None ∷ []
by_a_store = refl

-- a store and a state, in either order
by_a_store_and_a_note : parts [] (taken ∷ stored 0 ∷ noted 7 [] ∷ []) ≡ second (Some (state_at of.Note 7)) ∷ []
by_a_store_and_a_note = refl

by_a_note_and_a_store : parts [] (taken ∷ noted 7 [] ∷ stored 0 ∷ []) ≡ second (Some (state_at of.Note 7)) ∷ []
by_a_note_and_a_store = refl

-- a store in a block
by_a_loop : parts [] (taken ∷ turns ∷ []) ≡ second (Some (state_at of.Inv 6)) ∷ []
by_a_loop = refl

of_a_guard : parts [] (yes 4 (bin Both (var 0) (var 2)) ∷ stored 0 ∷ []) ≡ forgotten_at (at_place 4 GuardHolds) None (var 2) ∷ []
of_a_guard = refl

-- None -----------------------------------------------------------------------------------------------------------

no_store : parts [] (taken ∷ noted 7 [] ∷ []) ≡ []
no_store = refl

known : parts (at_most 1 3 ∷ []) (taken ∷ stored 0 ∷ []) ≡ []
known = refl

-- also where the whole is, by a later state
whole_known : parts (bin Both (at_most 0 2) (at_most 1 3) ∷ []) (taken ∷ stored 0 ∷ noted 7 (bin Both (at_most 0 2) (at_most 1 3) ∷ []) ∷ []) ≡ []
whole_known = refl

each_is_stored_to : parts [] (taken ∷ stored 0 ∷ stored 1 ∷ []) ≡ []
each_is_stored_to = refl

-- what an unlock forgets isn't told
freed_later : parts [] (taken ∷ stored 0 ∷ freed ∷ []) ≡ []
freed_later = refl

not_stable : forgotten_parts [] [] program (true ∷ false ∷ true ∷ []) (taken ∷ stored 0 ∷ []) ≡ []
not_stable = refl

-- nor what is told to be left out
told_already : forgotten_parts [] (left_out_at 5 (record { first = state_at of.Note 7; last = None }) (given Noted (at_most 1 3)) ∷ []) program (true ∷ true ∷ true ∷ []) (taken ∷ stored 0 ∷ []) ≡ []
told_already = refl

-- Several --------------------------------------------------------------------------------------------------------

-- from the point back; each once
in_order : parts [] (taken ∷ noted 4 (bin Both (var 2) (bin Both (at_most 1 3) (var 0)) ∷ []) ∷ stored 0 ∷ [])
    ≡ forgotten_at (at_place 4 Noted) None (var 2) ∷ forgotten_at (at_place 4 Noted) None (at_most 1 3) ∷ []
in_order = refl

-- Had a note listed it -------------------------------------------------------------------------------------------

abbrev knows : List Step → Bool
knows steps = has_term (point_after_steps program 0 steps).preds (at_most 1 3)

unlisted : knows (taken ∷ stored 0 ∷ []) ≡ false
unlisted = refl

listed : knows (taken ∷ noted 4 (at_most 1 3 ∷ []) ∷ stored 0 ∷ []) ≡ true
listed = refl

-- A line ---------------------------------------------------------------------------------------------------------

-- three line feeds: the place 3 stands in line 3, and 7 in line 4
abbrev text : List ℕ
text = 10 ∷ 120 ∷ 10 ∷ 10 ∷ 120 ∷ 120 ∷ 120 ∷ 120 ∷ []

said : forgotten_line program (codes "x" ∷ codes "y" ∷ []) text false (second None)
    ≡ codes "  forgotten:    y <= 3   (part of the invariant of hub, line 3): a store since to another variable of it forgets the whole in any case; this part would be kept, had a note right behind that line listed it\n"
said = simp (decimal_digit 3 (lit< tt))

said_of_states : forgotten_line program (codes "x" ∷ codes "y" ∷ []) text false (second (Some (state_at of.Note 7)))
    ≡ codes "  forgotten:    y <= 3   (part of the invariant of hub, line 3): a store since to another variable of it forgets the whole in any case; this part would be kept, had a note right behind that line listed it, and each state since, such as the note, line 4\n"
said_of_states = simp (decimal_digit 3 (lit< tt), decimal_digit 4 (lit< tt))

-- where it alone would help
said_to_help : forgotten_line program (codes "x" ∷ codes "y" ∷ []) text true (second None)
    ≡ codes "  would help:   y <= 3   (part of the invariant of hub, line 3): a store since to another variable of it forgets the whole in any case; this part would be kept, had a note right behind that line listed it\n"
said_to_help = simp (decimal_digit 3 (lit< tt))
