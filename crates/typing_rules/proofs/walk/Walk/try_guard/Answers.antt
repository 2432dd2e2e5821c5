use Rattle.std.proofs.Common.{[], ◌∷◌, map}
use Rattle.cov_expr.specs.View.{term}
use Rattle.cov_ast.specs.View as view
use Rattle.typing_law.specs.Entailments.{guard_follows}
use Rattle.typing_rules.proofs.TryLaws.{tried_listed}
use Rattle.typing_rules.specs.Inside.Walking.{plain_of}
use Rattle.typing_rules.proofs.walk.Walk.try_guard.Goals as goal

pub returns : goal.returns
returns c =
    let w = c.args.self.now in
    tried_listed w c.args.at c.args.point.now (map view.proof c.args.proofs.now) c.args.from c.in_ok-entailments.entailments (λ a. guard_follows (plain_of w) w.thread a (term c.args.e.now) ∷ [])
    c.args.kept.now c.try_listed.new.kept c.try_listed.result (λ a k. c.in_ok-entailments.ensures w.thread a k) c.try_listed.ensures
