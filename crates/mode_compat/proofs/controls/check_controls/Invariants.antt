use Rattle.std.proofs.Common.{◌≡◌, drop}
use Rattle.std.specs.List.{flat_map}
use Rattle.cov_ast.specs.View as view
use Rattle.cov_ast.specs.Obligations.{first_false}
use Rattle.mode_compat.specs.Inside.{kept_obligations}
use Rattle.mode_compat.proofs.controls.check_controls.Given as goal

abbrev pub invariant-loop-x : goal.invariant-loop-x
invariant-loop-x l =
    first_false (flat_map (kept_obligations (view.program l.p) l.rule l.place l.kept) (drop l.x-index l.list))
    ≡ first_false (flat_map (kept_obligations (view.program l.p) l.rule l.place l.kept) l.list)
