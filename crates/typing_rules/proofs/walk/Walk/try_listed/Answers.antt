use Rattle.std.proofs.Common.{map, subst}
use Rattle.cov_ast.specs.View as view
use Rattle.typing_rules.specs.Listed.{AreListed}
use Rattle.typing_rules.proofs.walk.Walk.try_listed.Goals as goal

pub returns-in-None : goal.returns-in-None
returns-in-None c a k gs listed =
    c.large.ensures c.args.self.now.purpose c.args.at (map view.proof c.args.proofs.now) c.args.from gs c.args.kept.now (subst (AreListed a.preds gs) c.in-None.is listed)
