use Rattle.std.proofs.Common.{◌∙◌, ap, option_map}
use Rattle.std.specs.List.{list_all}
use Rattle.cov_expr.specs.View.{term}
use Rattle.cov_ast.specs.Plain.{plain}
use Rattle.cov_ast.specs.View as view
use Rattle.point_law.specs.Point.{ty}
use Rattle.typing_law.specs.Entailments.{from_one_more, is_small_entailment, written_type}
use Rattle.typing_rules.proofs.ListedLaws.{large_alone, large_goal}
use Rattle.typing_rules.proofs.LargeTypes.{large_type}
use Rattle.typing_rules.proofs.entailments_of_assignments.add_written.Goals as goal

pub returns-in_default-2 : goal.returns-in_default-2
returns-in_default-2 c t a kept is =
    let p = plain (view.program c.args.p.now) in
    let e = term c.args.e.now in
    let asked = from_one_more a.preds (term c.in-Some.field-0) (ty p t a e) in
    ap (λ q. list_all is_small_entailment (written_type p t a e (option_map term q))) c.in-Some.is
    ∙ large_alone asked (large_goal asked.hyps (ty p t a e) (large_type p t a e (rw c.in_default-2.is at (c.in_ok-goal.ensures t a kept))))
