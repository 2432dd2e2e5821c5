-- What contracts see of a program that runs, the run of the definition for which it stands, and what calls answer.
use Rattle.std.specs.Prelude.{ℕ, List, [], ◌∷◌, map, reverse, Option, Some, None}
use Rattle.std.specs.Option.{option_or}
use Rattle.cov_ast.specs.View as view
use Rattle.cov_ast.specs.declared.decl.Program.{Program}
use Rattle.cov_ast.specs.declared.stmt.Stmt.{Stmt}
use Rattle.flow_model.specs.FirstDifference.{holders_of}
use Rattle.statement_parts.specs.PlainParts.{parts}
use Rattle.flow_model.specs.Source.{Item, run, put, test, emit, Outputs, Run}
use Rattle.flow_model.specs.declared.machine.Holder.{Holder}
use Rattle.source_machine.specs.Frames.{items, with_word}
use Rattle.source_machine.specs.declared.change.Change.{Change}
use Rattle.source_machine.specs.declared.change.Change.TheVariants as change

-- where a thread stands: what is left of each block that it is in, the innermost last, and the word that the expression of
-- its first statement gave, where it was evaluated
pub record Standing : Type 0 where
  pub frames : List (List Stmt)
  pub word : Option ℕ

-- a program that runs, with room for so many outputs
pub record RunningProgram : Type 0 where
  pub program : Program
  pub memory : List ℕ
  pub holders : List Holder
  pub outputs : Outputs
  pub room : ℕ
  pub threads : List Standing

-- the items for which a thread stands
abbrev pub items_left : Standing → List Item
items_left q = with_word q.word (items (reverse (map view.block q.frames)))

-- the run of the definition
abbrev pub run_of : RunningProgram → Run
run_of m = record { memory = m.memory; holders = holders_of m.holders; outputs = m.outputs; items = map items_left m.threads }

-- Answers ------------------------------------------------------------------------------------------------------

-- what a step changes that takes a lock or gives it back
abbrev pub change_of_lock : Option ℕ → Change
change_of_lock None = change.Nothing
change_of_lock (Some l) = change.Holder l

-- What the next step of a thread changes beside its items, by the items before it, where the step doesn't stay.
abbrev pub change_of : List Item → Change
change_of [] = change.Nothing
change_of (run at c ∷ rest) = change_of_lock (option_or (parts c).taken (parts c).returned)
change_of (put at x word ∷ rest) = change.Word x
change_of (test at word a b ∷ rest) = change.Nothing
change_of (emit at word ∷ rest) = change.Outputs
