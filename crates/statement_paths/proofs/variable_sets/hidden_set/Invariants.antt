use Rattle.std.proofs.Common.{◌≡◌, ℕ, List, Bool, map}
use Rattle.std.specs.List.{range_with_len}
use Rattle.cov_ast.specs.Plain.{plain}
use Rattle.cov_ast.specs.View as view
use Rattle.mode_state.specs.Sets.{is_hidden, modes_at}
use Rattle.statement_paths.proofs.variable_sets.hidden_set.Given as goal

-- of each variable so far, whether it is hidden
abbrev pub invariant-loop-x : goal.invariant-loop-x
invariant-loop-x l =
    (t : ℕ) (held : List Bool) → l.modes ≡ modes_at (plain (view.program l.p)) t held → l.marks ≡ map (is_hidden (plain (view.program l.p)) t held) (range_with_len 0 l.x)
