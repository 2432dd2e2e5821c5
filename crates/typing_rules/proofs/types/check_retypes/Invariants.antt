use Rattle.std.proofs.Common.{◌≡◌, [], ◌&&◌, drop, map, reverse, take}
use Rattle.cov_ast.specs.Declarations.{is_control}
use Rattle.cov_ast.specs.Obligations.{first_false}
use Rattle.cov_ast.specs.Plain.{plain}
use Rattle.cov_ast.specs.View as view
use Rattle.point_law.specs.Point.{is_tracked}
use Rattle.typing_law.specs.ThreadObligations.{type_obligations}
use Rattle.typing_state.specs.KeptPoints.{AtPoint}
use Rattle.typing_rules.proofs.StateLaws.{names}
use Rattle.typing_rules.proofs.types.check_retypes.Given as goal

abbrev pub invariant-loop-i : goal.invariant-loop-i
invariant-loop-i l =
    AtPoint (plain (view.program l.p)) l.site.thread l.point (λ a.
    first_false (type_obligations (plain (view.program l.p)) l.site.thread l.site.place
    (λ z. is_control (plain (view.program l.p)) l.x && is_tracked (plain (view.program l.p)) l.site.thread a.held z) a.held
    (reverse (names view.retype (take l.i l.retypes))) (map view.retype (drop l.i l.retypes)))
    ≡ first_false (type_obligations (plain (view.program l.p)) l.site.thread l.site.place
    (λ z. is_control (plain (view.program l.p)) l.x && is_tracked (plain (view.program l.p)) l.site.thread a.held z) a.held [] (map view.retype l.retypes)))
