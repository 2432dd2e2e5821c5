use Rattle.std.proofs.Common.{◌≡◌, take, true}
use Rattle.std.specs.List.{list_all}
use Rattle.point_law.specs.Point.{is_over_controls, ty_var}
use Rattle.typing_rules.specs.Inside.Walking.{Wherever, plain_of}
use Rattle.typing_rules.proofs.walk.Walk.is_read_over_controls.Given as goal

abbrev pub invariant-loop-y : goal.invariant-loop-y
invariant-loop-y l =
    Wherever l.self l.point (λ a. list_all (λ y. is_over_controls (plain_of l.self) l.self.thread a.held (ty_var (plain_of l.self) l.self.thread a y)) (take l.y-index l.y-items) ≡ true)
