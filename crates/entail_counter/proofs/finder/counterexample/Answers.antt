use Rattle.std.proofs.Common.{[], map, ◌∙◌, ap, ap₂}
use Rattle.cov_expr.specs.View.{term}
use Rattle.entail_counter.specs.declared.search.TheConstants.{MOST_BINDINGS}
use Rattle.entail_counter.specs.Counterexamples.{counterexample, only_breaking}
use Rattle.entail_counter.specs.Searching as spec
use Rattle.entail_counter.proofs.finder.counterexample.Goals as goal

pub returns : goal.returns
unfolding counterexample
returns c =
    let hyps = map term c.args.hyps.now in
    let asked = term c.args.goal.now in
    c.only_breaking.ensures
    ∙ ap (only_breaking hyps asked)
    (c.in_ok-found.ensures.0
    ∙ ap₂ (λ more left. (spec.search hyps asked more MOST_BINDINGS [] left).found) (c.as_slice.ensures ∙ c.in_ok-more.ensures) c.trials-left.ensures)
