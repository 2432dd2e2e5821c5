use Rattle.std.proofs.Common.{◌≡◌, map}
use Rattle.std.specs.List.{list_all, range_with_len}
use Rattle.cov_ast.specs.Tables.{has}
use Rattle.mode_compat.proofs.controls.marks_of_all.Given as goal

abbrev pub invariant-loop-x : goal.invariant-loop-x
invariant-loop-x l = l.marks ≡ map (λ x. list_all (λ s. has s x) l.sets) (range_with_len 0 l.x)
