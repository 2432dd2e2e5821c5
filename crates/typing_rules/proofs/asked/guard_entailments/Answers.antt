use Rattle.cov_expr.specs.View.{term}
use Rattle.cov_ast.specs.Plain.{plain}
use Rattle.cov_ast.specs.View as view
use Rattle.point_law.specs.Point.{ty}
use Rattle.typing_law.specs.Entailments.{guard_follows}
use Rattle.typing_rules.proofs.ListedLaws.{large_alone, large_goal}
use Rattle.typing_rules.proofs.LargeTypes.{large_type}
use Rattle.typing_rules.proofs.asked.guard_entailments.Goals as goal

pub returns-in_default : goal.returns-in_default
returns-in_default c t a kept =
    let p = plain (view.program c.args.p.now) in
    let e = term c.args.e.now in
    large_alone (guard_follows p t a e) (large_goal a.preds (ty p t a e) (large_type p t a e (rw c.in_default.is at (c.in_ok-goal.ensures t a kept))))
