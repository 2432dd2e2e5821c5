use Rattle.std.proofs.Common.{◌≡◌, List, ◌∙◌, refl, Option, Some, None}
use Rattle.cov_expr.specs.Term.{Term}
use Rattle.cov_expr.specs.View.{term}
use Rattle.entail_cert.specs.declared.held.Held.{Held}
use Rattle.typing_rules.specs.Listed.{entailment_from, entailment_of}
use Rattle.typing_rules.proofs.entail.copied.Goals as goal

goal_of : (preds : List Term) (more : Option Held) (e : Term) → e ≡ (entailment_from preds more e).goal
goal_of preds None e = refl
goal_of preds (Some h) e = refl

pub returns : goal.returns
returns c p t a k =
    let x = c.args.entailment.now in
    let hyps = c.in_ok-hyps.ensures p t a k in
    let asked : term c.in_ok-goal.goal ≡ (entailment_of a.preds x).goal = c.in_ok-goal.ensures.copied ∙ c.expr.ensures ∙ goal_of a.preds x.more _ in
    λ i. record { place = c.args.site.place; number = c.args.number; entailment = record { hyps = hyps i; goal = asked i } }
