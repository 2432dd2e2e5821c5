use Rattle.std.proofs.Common.{◌≡◌, drop, false, map, true}
use Rattle.cov_expr.specs.View.{term}
use Rattle.cov_ast.specs.Plain.{plain}
use Rattle.cov_ast.specs.View as view
use Rattle.entail_losses.specs.Forgotten.{forgotten_parts, seen, untouched_along}
use Rattle.entail_losses.specs.LeftOut as left
use Rattle.entail_losses.specs.WouldBeKnown.{first_state}
use Rattle.statement_paths.specs.Paths.{step}
use Rattle.entail_losses.proofs.forgotten_search.forgotten_parts.Given as goal

-- what is known of the steps from this one on
abbrev pub invariant-loop-i : goal.invariant-loop-i
invariant-loop-i l =
    let p = plain (view.program l.p) in
    let rest = map step (drop l.i l.steps) in
    record {
      steady : l.steady ≡ untouched_along p false l.fn.stable rest;
      kept : l.kept ≡ untouched_along p true l.fn.stable rest;
      state : l.state ≡ first_state rest;
      found : map seen l.found ≡ forgotten_parts (map term l.hypotheses) (map left.seen l.left_out) p l.fn.stable rest;
    }
