use Rattle.std.proofs.Common.{◌≡◌, map}
use Rattle.std.specs.List.{range_with_len}
use Rattle.cov_ast.specs.Plain.{plain}
use Rattle.cov_ast.specs.View as view
use Rattle.refute.specs.Trials.{entry}
use Rattle.refute.proofs.inputs.schedule.Given as goal

abbrev pub invariant-loop-j : goal.invariant-loop-j
invariant-loop-j l = l.made ≡ map (entry (plain (view.program l.p)) l.i) (range_with_len 0 l.j)
