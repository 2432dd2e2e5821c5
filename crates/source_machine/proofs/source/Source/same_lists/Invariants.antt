use Rattle.std.proofs.Common.{ℕ, ◌<◌}
use Rattle.source_machine.specs.SourceMachine.{run_of}
use Rattle.flow_model.specs.Agreement.{IsAlikeAt}
use Rattle.source_machine.proofs.source.Source.same_lists.Given as goal

-- the threads so far are alike
abbrev pub invariant-loop-t : goal.invariant-loop-t
invariant-loop-t l = (u : ℕ) → u < l.t → IsAlikeAt (run_of l.self) (run_of l.other) u
