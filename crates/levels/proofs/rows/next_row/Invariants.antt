use Rattle.std.proofs.Common.{◌≡◌, ◌==◌, ◌||◌, length, map}
use Rattle.std.specs.List.{list_any, range_with_len}
use Rattle.levels.specs.Order.{is_in_row}
use Rattle.levels.proofs.rows.next_row.Given as goal

abbrev pub invariant-loop-a : goal.invariant-loop-a
invariant-loop-a l = l.marks ≡ map (λ a. a == length l.rows || list_any (is_in_row l.rows a) l.lower) (range_with_len 0 l.a)
