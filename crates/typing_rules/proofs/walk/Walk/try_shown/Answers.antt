use Rattle.std.proofs.Common.{map, subst}
use Rattle.cov_ast.specs.View as view
use Rattle.typing_rules.specs.Inside.Walking.{Tries}
use Rattle.typing_rules.proofs.walk.Walk.try_shown.Goals as goal

pub returns-in-None : goal.returns-in-None
returns-in-None c a k =
    let proofs = map view.proof c.args.proofs.now in
    let none = rw c.in-None.is at (c.shown_entailment.ensures c.args.self.now.thread a k) in
    subst (λ gs. Tries c.args.self.now.purpose c.args.at proofs c.args.from gs c.args.kept.now c.args.kept.now c.none.result) none
    (c.none.ensures.tried c.args.self.now.purpose c.args.at proofs c.args.from c.args.kept.now)
