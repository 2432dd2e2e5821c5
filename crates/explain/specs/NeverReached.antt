-- Statements that no run comes to: a guard without variables has the same value in every memory, so that what stands on its other
-- side is never run. Notes are no statements.
use Rattle.std.specs.Prelude.{◌≢◌, ℕ, ◌&&◌, List, [], ◌∷◌, ◌++◌, Bool, false, if◌then◌else◌, Some}
use Rattle.cov_expr.specs.Term.{Term, value, is_set}
use Rattle.cov_expr.specs.Trees.{is_closed}
use Rattle.cov_ast.specs.Plain.{Cmd, Cmds, PlainThread, Plain}
use Rattle.flow_model.specs.Source.{after, first_place, items_of}
use Rattle.statement_parts.specs.PlainParts.{either, Inside, made, made_inside, nothing, parts, turns}
use Rattle.explain.specs.Unused.{warned, is_closed_false}
use Rattle.explain.specs.declared.warning.Warning.{Warning}
use Rattle.explain.specs.declared.warning.Cause.TheVariants as c

-- whether an expression isn't 0, without a look at memory
abbrev pub is_closed_true : Term → Bool
is_closed_true e = is_closed e && is_set (value e [])

-- whether turns never end, since their guard isn't 0 in any memory
abbrev pub never_ends : Inside Cmds → Bool
never_ends nothing = false
never_ends (turns e b) = is_closed_true e
never_ends (either e a b) = false

-- whether a statement is a loop that no run leaves
abbrev pub is_endless : Cmd → Bool
is_endless c = never_ends (parts c).inside

-- a statement in front of which a guard turns every run away
abbrev pub of_front : (is_cut_off : Bool) → (at : ℕ) → List Warning
of_front is_cut_off at = if is_cut_off then warned at c.NeverReached ∷ [] else []

-- Of blocks inside a statement, by what is found where each is cut off, or isn't: the first block of a branch and the block of a loop are cut off where
-- the guard is 0 in every memory, the second block of a branch where it isn't 0 in any.
abbrev pub of_inside : Inside ((is_cut_off : Bool) → List Warning) → List Warning
of_inside nothing = []
of_inside (turns e b) = b (is_closed_false e)
of_inside (either e a b) = a (is_closed_false e) ++ b (is_closed_true e)

-- nothing stands at the end of a block
abbrev pub of_end : (is_cut_off : Bool) → List Warning
of_end is_cut_off = []

-- in a block that is cut off, or isn't: its first statement, what is in its blocks, and the rest, which an endless loop cuts off
abbrev pub of_first : (at : ℕ) → Cmd → Inside (Bool → List Warning) → (rest : Bool → List Warning) → (is_cut_off : Bool) → List Warning
of_first at c inside rest is_cut_off = of_front is_cut_off at ++ of_inside inside ++ rest (is_endless c)

-- in the blocks of a statement
abbrev pub of_blocks : Cmd → List Warning
of_blocks c = of_inside (made_inside of_end of_first c)

-- in a block that is cut off, or isn't
abbrev pub of_block : (is_cut_off : Bool) → Cmds → List Warning
of_block is_cut_off b = made of_end of_first b is_cut_off

-- in a thread, whose own front is reached
abbrev pub of_thread : PlainThread → List Warning
of_thread t = of_block false t.body

-- From whatever memory and under every schedule, the thread never stands in front of the statement at the place, nor in the midst of it.
abbrev pub NeverComesTo : Plain → (t place : ℕ) → Type 0
NeverComesTo p t place = (m schedule : List ℕ) → first_place (items_of (after p m schedule) t) ≢ Some place
