use Rattle.std.proofs.Common.{◌≡◌, ◌∙◌, ℕ, List, map, option_map, ap, refl, Option, Some, None}
use Rattle.std.proofs.lemmas.Result.{IfOk-weaker}
use Rattle.cov_expr.specs.Term.{Term}
use Rattle.cov_expr.specs.View.{term}
use Rattle.cov_ast.specs.Plain.{Plain}
use Rattle.cov_ast.specs.View as view
use Rattle.cert_search.specs.Searching.{search}
use Rattle.entail_cert.specs.declared.held.Held.{Held}
use Rattle.entail_range.specs.Range.{lent}
use Rattle.typing_state.specs.KeptPoints.{AtPoint}
use Rattle.typing_rules.specs.Listed.{entailment_from, entailment_of}
use Rattle.typing_rules.proofs.searched.find.Goals as goal

goal_of : (preds : List Term) (more : Option Held) (e : Term) → e ≡ (entailment_from preds more e).goal
goal_of preds None e = refl
goal_of preds (Some h) e = refl

pub returns : goal.returns
returns c =
    let x = c.args.entailment.now in
    let d = c.args.depth in
    IfOk-weaker c.find_lent.result (λ found. option_map view.cert found ≡ search d (map lent c.as_slice.result.now) (term c.expr.result.now))
    (λ found. (p : Plain) → (t : ℕ) → AtPoint p t c.args.point.now (λ a. option_map view.cert found ≡ search d (entailment_of a.preds x).hyps (entailment_of a.preds x).goal))
    (λ found is p t a k.
    let hyps : map lent c.as_slice.result.now ≡ (entailment_of a.preds x).hyps = ap (map lent) c.as_slice.ensures ∙ c.in_ok-hyps.ensures p t a k in
    let asked : term c.expr.result.now ≡ (entailment_of a.preds x).goal = c.expr.ensures ∙ goal_of a.preds x.more _ in
    is ∙ (λ i. search d (hyps i) (asked i))) c.find_lent.ensures.first
