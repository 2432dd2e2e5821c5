use Rattle.std.proofs.Common.{◌≡◌, map}
use Rattle.std.specs.List.{range_with_len}
use Rattle.cov_ast.specs.Plain.{plain}
use Rattle.cov_ast.specs.View as view
use Rattle.refute.specs.Trials.{second_word}
use Rattle.refute.proofs.inputs.second_memory.Given as goal

abbrev pub invariant-loop-x : goal.invariant-loop-x
invariant-loop-x g l = l.made ≡ map (second_word (plain (view.program l.p)) l.i) (range_with_len 0 l.x)
