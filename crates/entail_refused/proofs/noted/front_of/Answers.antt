use Rattle.std.proofs.Common.{◌-◌, take, map, sym, ap, ◌∙◌}
use Rattle.std.proofs.lemmas.List.{length-map, take-map}
use Rattle.statement_paths.specs.Paths.{step}
use Rattle.entail_refused.proofs.noted.front_of.Goals as goal

pub returns : goal.returns
returns c =
    let steps = c.args.steps.now in
    sym (take-map step c.saturating_sub-count.result steps)
    ∙ ap (λ n. take n (map step steps)) (c.saturating_sub-count.ensures ∙ ap (λ n. n - 1) (sym (length-map steps step)))
