use Rattle.std.proofs.Common.{◌≡◌, ◌++◌, map}
use Rattle.std.specs.Prelude.{filter}
use Rattle.std.specs.List.{range_with_len}
use Rattle.cov_ast.specs.Plain.{plain}
use Rattle.cov_ast.specs.Tables.{has}
use Rattle.cov_ast.specs.View as view
use Rattle.entail_origins.specs.Questions.{is_shown_by}
use Rattle.entail_origins.specs.declared.kinds.Question.TheVariants as q
use Rattle.entail_origins.proofs.assignments.add_each_controlled.Given as goal

-- what is asked of the variables so far was added
abbrev pub invariant-loop-y : goal.invariant-loop-y
invariant-loop-y l =
    l.made ≡ l.fn.made ++ map q.Controlled (filter (is_shown_by (plain (view.program l.p)) (has l.hidden) l.x) (range_with_len 0 l.y))
