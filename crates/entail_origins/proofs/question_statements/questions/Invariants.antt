use Rattle.std.proofs.Common.{◌≡◌, ◌++◌, drop, map, not}
use Rattle.std.specs.Prelude.{filter}
use Rattle.cov_ast.specs.Declarations.{is_control}
use Rattle.cov_ast.specs.Plain.{plain}
use Rattle.cov_ast.specs.View as view
use Rattle.entail_origins.specs.declared.kinds.Question.TheVariants as q
use Rattle.entail_origins.proofs.question_statements.questions.Given as goal

-- what was added, and what is asked of the rest, is all of it
abbrev pub invariant-loop-x : goal.invariant-loop-x
invariant-loop-x l =
    l.made ++ map q.Freed (filter (λ x. not (is_control (plain (view.program l.p)) x)) (drop l.x-index l.hide))
    ≡ l.initial.made ++ map q.Freed (filter (λ x. not (is_control (plain (view.program l.p)) x)) l.hide)
