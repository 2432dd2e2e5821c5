use Rattle.std.proofs.Common.{◌≡◌, ◌+◌, ◌++◌, drop, map}
use Rattle.cov_expr.specs.View.{term}
use Rattle.entail_origins.specs.Questions.{of_preds}
use Rattle.entail_origins.proofs.question_states.add_preds.Given as goal

-- what was added, and what is asked of the rest, is all of it
abbrev pub invariant-loop-i : goal.invariant-loop-i
invariant-loop-i l =
    l.made ++ of_preds l.end (l.i + 1) (map term (drop l.i l.preds)) ≡ l.fn.made ++ of_preds l.end 1 (map term l.preds)
