-- The steps to the ends of blocks have ids in range, where the statement has.
use Rattle.std.proofs.Common.{ℕ, List, ◌++◌}
use Rattle.std.proofs.lemmas.List.Elements.{All-append}
use Rattle.cov_ast.specs.Syntax.{Stm}
use Rattle.cov_ast.specs.WellFormed.{IsStmInRange}
use Rattle.statement_paths.specs.Paths.{Step}
use Rattle.typing_points.proofs.Ranges.{AreAllInRange, body_end_in_range, first_end_in_range, second_end_in_range}
use Rattle.typing_points.specs.PointsBehind.{IsStepInRange}
use Rattle.typing_trace.specs.PointLines.{steps_to}
use Rattle.typing_trace.specs.declared.ends.BlockEnd.{BlockEnd}
use Rattle.typing_trace.specs.declared.ends.BlockEnd.TheVariants.{First, Second, Body}

module _ (vars locks : ℕ) where
  to_end_in_range : (end : BlockEnd) (at : ℕ) (s : Stm) → IsStmInRange vars locks s → AreAllInRange vars locks (steps_to end at s)
  to_end_in_range First at s range = first_end_in_range vars locks at s range
  to_end_in_range Second at s range = second_end_in_range vars locks at s range
  to_end_in_range Body at s range = body_end_in_range vars locks at s range

  -- steps to a statement, and to an end of a block of it
  pub end_in_range : (steps : List Step) (end : BlockEnd) (at : ℕ) (s : Stm)
      → AreAllInRange vars locks steps → IsStmInRange vars locks s → AreAllInRange vars locks (steps ++ steps_to end at s)
  end_in_range steps end at s front range = All-append (IsStepInRange vars locks) steps (steps_to end at s) front (to_end_in_range end at s range)
