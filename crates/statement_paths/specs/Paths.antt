-- The way to a statement of a thread's text: what is passed and entered on it, from the start of the thread on.
use Rattle.std.specs.Prelude.{ℕ, ◌==◌, List, [], ◌∷◌, ◌++◌, map, Option, Some, None, option_map, if◌then◌else◌}
use Rattle.std.specs.Option.{option_or}
use Rattle.cov_expr.specs.Term.{Term}
use Rattle.cov_expr.specs.View.{term}
use Rattle.cov_ast.specs.Syntax.{State, Proof, Stm, branch, loop, Block, done, more}
use Rattle.cov_ast.specs.View as view
use Rattle.statement_parts.specs.Parts.{Inside, made, made_inside, of_either, of_none, of_turn}
use Rattle.statement_paths.specs.declared.way.Step as declared
use Rattle.statement_paths.specs.declared.way.Step.TheVariants as steps
use Rattle.statement_paths.specs.declared.way.Way as declared_way

-- A step on the way, with the place of the statement that it is about.
pub data Step : Type 0 where
  -- past a statement in front, in the same block or in one around it
  passed : (at : ℕ) → Stm → Step
  -- into a block at whose start this guard holds: the first block of a branch, or the block of a loop
  yes : (at : ℕ) → Term → Step
  -- into the second block of a branch, at whose start this guard doesn't hold
  no : (at : ℕ) → Term → Step
  -- to the head of a loop, with what the loop states
  head : (at : ℕ) → State → Step

-- the place of the statement that a step is about
abbrev pub place_of : Step → ℕ
place_of (passed at s) = at
place_of (yes at e) = at
place_of (no at e) = at
place_of (head at inv) = at

-- The steps to a statement, the first of the thread first, and what stands at their end.
pub record Way : Type 0 where
  pub steps : List Step
  pub stm : Stm
  pub proofs : List Proof

-- The way to a place -------------------------------------------------------------------------------------------

-- the way to a statement itself
abbrev pub here : Stm → List Proof → Way
here s proofs = record { steps = []; stm = s; proofs = proofs }

-- a way with steps in front
abbrev pub with_steps_in_front : List Step → Way → Way
with_steps_in_front steps w = record { steps = steps ++ w.steps; stm = w.stm; proofs = w.proofs }

-- where it stands in the blocks of a statement, by the ways from their starts on
abbrev pub way_inside : (at : ℕ) → Inside ((place : ℕ) → Option Way) → (place : ℕ) → Option Way
way_inside at of_none place = None
way_inside at (of_turn e inv b) place = option_map (with_steps_in_front (head at inv ∷ yes at e ∷ [])) (b place)
way_inside at (of_either e join a b) place =
    option_or (option_map (with_steps_in_front (yes at e ∷ [])) (a place)) (option_map (with_steps_in_front (no at e ∷ [])) (b place))

abbrev pub no_way : (place : ℕ) → Option Way
no_way place = None

-- to a statement itself, then to those in its blocks, then to those behind it
abbrev pub way_or : (at : ℕ) → Stm → List Proof → Inside (ℕ → Option Way) → (rest : ℕ → Option Way) → (place : ℕ) → Option Way
way_or at s proofs inside rest place =
    option_or (if at == place then Some (here s proofs) else way_inside at inside place) (option_map (with_steps_in_front (passed at s ∷ [])) (rest place))

-- The way to the first statement at a place, in the order of the text. `None` comes where no statement is at the place.
abbrev pub way_to : Block → (place : ℕ) → Option Way
way_to b place = made no_way way_or b place

-- where it stands in the blocks of a statement
abbrev pub way_within : (at : ℕ) → Stm → (place : ℕ) → Option Way
way_within at s place = way_inside at (made_inside no_way way_or s) place

-- The ends of blocks -------------------------------------------------------------------------------------------

-- past each statement of a block
abbrev pub passed_all : Block → List Step
passed_all done = []
passed_all (more at s proofs rest) = passed at s ∷ passed_all rest

-- from a branch at a place to the end of its first block; no steps from another statement
abbrev pub to_first_end : (at : ℕ) → Stm → List Step
to_first_end at (branch e a b join) = yes at e ∷ passed_all a
to_first_end at s = []

-- from a branch to the end of its second block
abbrev pub to_second_end : (at : ℕ) → Stm → List Step
to_second_end at (branch e a b join) = no at e ∷ passed_all b
to_second_end at s = []

-- from a loop to its head
abbrev pub to_head : (at : ℕ) → Stm → List Step
to_head at (loop e inv b) = head at inv ∷ []
to_head at s = []

-- from a loop to the end of its block
abbrev pub to_body_end : (at : ℕ) → Stm → List Step
to_body_end at (loop e inv b) = head at inv ∷ yes at e ∷ passed_all b
to_body_end at s = []

-- What the code has --------------------------------------------------------------------------------------------

abbrev pub step : declared.Step → Step
step (steps.Passed s) = passed s.now.at (view.kind s.now.kind)
step (steps.Yes at e) = yes at (term e.now)
step (steps.No at e) = no at (term e.now)
step (steps.Head at inv) = head at (view.state inv.now)

abbrev pub way : declared_way.Way → Way
way w = record { steps = map step w.steps; stm = view.kind w.stmt.now.kind; proofs = map view.proof w.stmt.now.proofs }
