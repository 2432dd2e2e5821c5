use Rattle.std.proofs.Common.{◌≡◌, drop, length}
use Rattle.levels.specs.Order.{rows_onto, rows_of}
use Rattle.level_text.specs.Views as view
use Rattle.levels.proofs.rows.level_rows.Given as goal

abbrev pub invariant-loop-lower : goal.invariant-loop-lower
invariant-loop-lower l = rows_onto (length l.l.names) l.rows (drop l.lower-index l.l.below) ≡ rows_of (view.levels l.l)
