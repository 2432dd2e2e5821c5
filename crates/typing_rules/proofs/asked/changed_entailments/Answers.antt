use Rattle.std.proofs.Common.{map}
use Rattle.cov_expr.specs.View.{term}
use Rattle.cov_ast.specs.Plain.{plain}
use Rattle.cov_ast.specs.View as view
use Rattle.typing_law.specs.Entailments.{controlled_values, retype_follows}
use Rattle.typing_rules.proofs.ListedLaws.{large_behind}
use Rattle.typing_rules.proofs.asked.changed_entailments.Goals as goal

pub returns-then-not-branch-2 : goal.returns-then-not-branch-2
returns-then-not-branch-2 c t a kept =
    let p = plain (view.program c.args.p.now) in
    let x = c.args.x in
    let e = term c.args.e.now in
    let retyped = map (retype_follows p t a x e) (map view.retype c.args.retypes.now) in
    large_behind (controlled_values p t a x e) retyped (rw c.if-not-branch-2.true at (c.in_ok-add_retypes.ensures p t a kept))
