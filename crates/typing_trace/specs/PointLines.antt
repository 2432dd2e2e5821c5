-- What is known in front of the statements of a program, and at the ends of their blocks, as lines of text: of all of them, or of those that begin in one line.
use Rattle.std.specs.Prelude.{ℕ, ◌+◌, ◌-◌, nat_le, List, [], ◌∷◌, ◌++◌, length, flat_map, take, Bool, true, false, codes, decimal, if◌then◌else◌, Option, Some, None, option_map}
use Rattle.cov_ast.specs.Plain.{Plain, plain}
use Rattle.cov_ast.specs.Syntax.{Stm, branch, loop, Program}
use Rattle.cov_ast.specs.Tables.{has}
use Rattle.cov_print.specs.Spelling.{Names}
use Rattle.entail_origins.specs.QuestionLines.{line_of}
use Rattle.entail_origins.specs.Questions.{of_statement}
use Rattle.entail_origins.specs.declared.kinds.Question.{Question}
use Rattle.mode_compat.specs.Compatible.{numbered}
use Rattle.statement_paths.specs.Paths.{Step, Way, to_body_end, to_first_end, to_second_end, way_to}
use Rattle.statement_paths.specs.VariableSets.{hidden_after_steps}
use Rattle.text_parts.specs.Excerpts.{excerpt}
use Rattle.text_parts.specs.Lines.{line}
use Rattle.text_parts.specs.VariableNames.{variable_names}
use Rattle.typing_trace.specs.KnownLines.{known_behind}
use Rattle.typing_trace.specs.declared.ends.BlockEnd.{BlockEnd}
use Rattle.typing_trace.specs.declared.ends.BlockEnd.TheVariants.{First, Second, Body}
use Rattle.typing_trace.specs.declared.points.TheConstants.{MOST_TOLD}
use Rattle.typing_trace.specs.Spots.{span_of, spots_of}
use Rattle.typing_trace.specs.declared.spots.Spot.{Spot}

-- What is told of each -----------------------------------------------------------------------------------------

-- what each entailment of a statement asks, with its number
abbrev pub lines_from : Plain → (number of : ℕ) → List Question → List ℕ
lines_from p number of [] = []
lines_from p number of (q ∷ qs) = line_of p number (Some (record { question = q; of = of })) ++ lines_from p (number + 1) of qs

abbrev pub all_lines : Plain → List Question → List ℕ
all_lines p qs = lines_from p 1 (length qs) qs

-- what is asked of a statement behind steps
abbrev pub asked_lines : Plain → (t : ℕ) → List Step → Stm → List ℕ
asked_lines p t steps s = all_lines p (of_statement p (has (hidden_after_steps p t steps)) s)

-- the words for an end of a block
abbrev pub end_words : BlockEnd → List ℕ
end_words First = codes "the first block"
end_words Second = codes "the `else` block"
end_words Body = codes "the block"

-- whether a statement has such a block
abbrev pub has_end : BlockEnd → Stm → Bool
has_end First (branch e a b join) = true
has_end Second (branch e a b join) = true
has_end Body (loop e inv b) = true
has_end end s = false

-- the steps from a statement to an end of a block of it
abbrev pub steps_to : BlockEnd → (at : ℕ) → Stm → List Step
steps_to First at s = to_first_end at s
steps_to Second at s = to_second_end at s
steps_to Body at s = to_body_end at s

-- which statement it is, of which thread
abbrev pub head_lines : (bytes thread : List ℕ) → (at : ℕ) → List ℕ
head_lines bytes thread at = codes "line " ++ decimal (line bytes at) ++ codes ", thread " ++ thread ++ codes ", in front of:\n" ++ excerpt bytes at

module _ (p : Plain) (t : ℕ) (names : Names) (bytes : List ℕ) where
  -- what is known at an end of a block of a statement behind steps
  abbrev pub end_lines : List Step → BlockEnd → (at : ℕ) → Stm → List ℕ
  end_lines steps end at s =
      codes "  at the end of " ++ end_words end ++ codes ":\n" ++ known_behind p t names bytes (steps ++ steps_to end at s)

  -- the same, if the statement has such a block
  abbrev pub end_if : List Step → BlockEnd → (at : ℕ) → Stm → List ℕ
  end_if steps end at s = if has_end end s then end_lines steps end at s else []

  -- what is known at the ends of the blocks of a statement behind steps
  abbrev pub ends_of : List Step → (at : ℕ) → Stm → List ℕ
  ends_of steps at s = end_if steps First at s ++ end_if steps Second at s ++ end_if steps Body at s

  -- what is told of a statement, by the way to it
  abbrev pub way_lines : (thread : List ℕ) → (at : ℕ) → Option Way → List ℕ
  way_lines thread at None = []
  way_lines thread at (Some w) =
      head_lines bytes thread at ++ known_behind p t names bytes w.steps ++ ends_of w.steps at w.stm ++ asked_lines p t w.steps w.stm

-- by the way to a statement of a program, whose text these bytes are
abbrev pub way_told : Program → (t : ℕ) → (bytes : List ℕ) → (at : ℕ) → Way → List ℕ
way_told p t bytes at w = way_lines (plain p) t (variable_names p.vars) bytes (numbered p t).name at (Some w)

-- of the statement at a place of a thread
abbrev pub spot_lines : Program → (bytes : List ℕ) → Spot → List ℕ
spot_lines p bytes s =
    way_lines (plain p) s.thread (variable_names p.vars) bytes (numbered p s.thread).name s.place (way_to (numbered p s.thread).body s.place)

-- how many there are besides
abbrev pub left_line : ℕ → List ℕ
left_line n = codes "and as many more statements, which aren't told: " ++ decimal n ++ codes "\n"

-- of the first of many statements, and how many there are besides
abbrev pub first_lines : Program → (bytes : List ℕ) → List Spot → List ℕ
first_lines p bytes ss = flat_map (spot_lines p bytes) (take MOST_TOLD ss) ++ left_line (length ss - MOST_TOLD)

-- of all of some statements, or of the first of many; or that there is none
abbrev pub told_of : Program → (bytes : List ℕ) → List Spot → List ℕ
told_of p bytes [] = codes "no statement begins there\n"
told_of p bytes (s ∷ ss) =
    if nat_le (length (s ∷ ss)) MOST_TOLD then flat_map (spot_lines p bytes) (s ∷ ss) else first_lines p bytes (s ∷ ss)

-- What is known in a program whose text these bytes are: in front of each statement, or of those that begin in a line.
abbrev pub point_lines : Program → (bytes : List ℕ) → (number : Option ℕ) → List ℕ
point_lines p bytes number = told_of p bytes (spots_of (option_map (span_of bytes) number) 0 p.threads)
