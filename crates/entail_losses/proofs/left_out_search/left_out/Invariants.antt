use Rattle.std.proofs.Common.{◌≡◌, drop, map}
use Rattle.cov_expr.specs.View.{term}
use Rattle.cov_ast.specs.Plain.{plain}
use Rattle.cov_ast.specs.View as view
use Rattle.statement_paths.specs.Paths.{step}
use Rattle.entail_losses.specs.LeftOut.{Search, search_along, seen}
use Rattle.entail_losses.proofs.left_out_search.left_out.Given as goal

-- what is known of the steps from this one on
abbrev pub invariant-loop-i : goal.invariant-loop-i
invariant-loop-i l =
    ◌≡◌ {A = Search} (record { kept = l.kept; states = l.states; found = map seen l.found })
    (search_along (plain (view.program l.p)) (map term l.hypotheses) l.fn.stable (map step (drop l.i l.steps)))
