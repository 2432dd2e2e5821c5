use Rattle.std.proofs.Common.{◌-◌, take, map, sym, ap, ◌∙◌}
use Rattle.std.proofs.lemmas.List.{length-map, take-map}
use Rattle.cov_expr.specs.View.{term}
use Rattle.entail_refused.proofs.remarked.without_last.Goals as goal

pub returns : goal.returns
returns c =
    let hs = c.args.hypotheses.now in
    sym (take-map term c.saturating_sub-count.result hs)
    ∙ ap (λ n. take n (map term hs)) (c.saturating_sub-count.ensures ∙ ap (λ n. n - 1) (sym (length-map hs term)))
