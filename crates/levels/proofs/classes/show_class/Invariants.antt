use Rattle.std.proofs.Common.{◌≡◌, ◌==◌, drop, map}
use Rattle.std.specs.Prelude.{find}
use Rattle.level_text.specs.Views as level_view
use Rattle.levels.specs.Projection as spec
use Rattle.levels.proofs.classes.show_class.Given as goal

abbrev pub invariant-loop-listed : goal.invariant-loop-listed
invariant-loop-listed l = record {
  left : find (λ c. c.0 == l.x) (map level_view.listed (drop l.listed-index l.l.classes)) ≡ spec.listed (level_view.levels l.l) l.x;
  kept : l.class ≡ l.fn.class;
}
