use Rattle.std.proofs.Common.{◌≡◌, [], drop, map, reverse, take}
use Rattle.cov_ast.specs.Obligations.{first_false}
use Rattle.cov_ast.specs.Plain.{plain}
use Rattle.cov_ast.specs.View as view
use Rattle.point_law.specs.Point.{is_tracked}
use Rattle.typing_law.specs.ThreadObligations.{type_obligations}
use Rattle.typing_state.specs.KeptPoints.{AtPoint}
use Rattle.typing_rules.proofs.StateLaws.{names}
use Rattle.typing_rules.proofs.types.check_types.Given as goal

abbrev pub invariant-loop-i : goal.invariant-loop-i
invariant-loop-i l =
    AtPoint (plain (view.program l.p)) l.site.thread l.point (λ a.
    first_false (type_obligations (plain (view.program l.p)) l.site.thread l.site.place
    (is_tracked (plain (view.program l.p)) l.site.thread a.held) a.held
    (reverse (names view.typed (take l.i l.types))) (map view.typed (drop l.i l.types)))
    ≡ first_false (type_obligations (plain (view.program l.p)) l.site.thread l.site.place
    (is_tracked (plain (view.program l.p)) l.site.thread a.held) a.held [] (map view.typed l.types)))
