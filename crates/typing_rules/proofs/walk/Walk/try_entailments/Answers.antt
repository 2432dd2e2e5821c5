use Rattle.std.proofs.Common.{map, sym, ◌∙◌}
use Rattle.std.proofs.lemmas.Result.{IfOk-weaker}
use Rattle.cov_ast.specs.View as view
use Rattle.typing_rules.specs.Listed.{entailments_of}
use Rattle.typing_rules.specs.Inside.Walking.{plain_of}
use Rattle.typing_rules.proofs.walk.Walk.try_entailments.Goals as goal

pub returns-then-not-are_small : goal.returns-then-not-are_small
returns-then-not-are_small c a k =
    let w = c.args.self.now in
    c.large.ensures w.purpose c.args.at (map view.proof c.args.proofs.now) c.args.from (entailments_of a.preds c.args.entailments.now) c.args.kept.now
    (sym (c.are_small.ensures (plain_of w) w.thread a k) ∙ c.if-not-are_small.true)

pub returns : goal.returns
returns c =
    let w = c.args.self.now in
    IfOk-weaker c.try_small.result _ _ (λ tried h a k. h a k (sym (c.are_small.ensures (plain_of w) w.thread a k) ∙ c.if-not-are_small.false)) c.try_small.ensures
