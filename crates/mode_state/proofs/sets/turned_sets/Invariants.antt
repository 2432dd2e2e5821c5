use Rattle.std.proofs.Common.{◌≡◌, ◌<◌, [], ℕ, length, get_or}
use Rattle.mode_state.proofs.TurnedLaws.{row_below}
use Rattle.mode_state.proofs.sets.turned_sets.Given as goal

abbrev pub invariant-loop-l : goal.invariant-loop-l
invariant-loop-l l = (length l.rows ≡ l.bound) × ((x : ℕ) → x < l.bound → get_or l.rows x [] ≡ row_below l.sets x l.l)
