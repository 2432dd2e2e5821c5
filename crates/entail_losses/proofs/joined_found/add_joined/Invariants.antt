use Rattle.std.proofs.Common.{◌≡◌, drop, map, true}
use Rattle.cov_expr.specs.View.{term}
use Rattle.cov_ast.specs.Plain.{plain}
use Rattle.cov_ast.specs.View as view
use Rattle.entail_losses.specs.Forgotten.{untouched_along}
use Rattle.entail_losses.specs.Joined.{with_joined}
use Rattle.entail_losses.specs.LeftOut.{seen, states_of_steps}
use Rattle.statement_paths.specs.Paths.{step}
use Rattle.entail_losses.proofs.joined_found.add_joined.Given as goal

-- what is known of the steps from this one on
abbrev pub invariant-loop-i : goal.invariant-loop-i
invariant-loop-i l =
    let p = plain (view.program l.p) in
    let rest = map step (drop l.i l.steps) in
    record {
      kept : l.kept ≡ untouched_along p true l.stable rest;
      states : l.states ≡ states_of_steps rest;
      found : map seen l.found ≡ with_joined (map term l.hypotheses) p (map seen l.fn.found) l.stable rest;
    }
