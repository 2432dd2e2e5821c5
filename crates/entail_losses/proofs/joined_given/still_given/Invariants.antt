use Rattle.std.proofs.Common.{◌≡◌, drop, map, true}
use Rattle.cov_ast.specs.Plain.{plain}
use Rattle.cov_ast.specs.View as view
use Rattle.entail_losses.specs.Forgotten.{untouched_along}
use Rattle.entail_losses.specs.Joined.{seen, still_given}
use Rattle.entail_losses.specs.WouldBeKnown.{first_state}
use Rattle.statement_paths.specs.Paths.{step}
use Rattle.entail_losses.proofs.joined_given.still_given.Given as goal

-- what is known of the steps from this one on
abbrev pub invariant-loop-i : goal.invariant-loop-i
invariant-loop-i l =
    let p = plain (view.program l.p) in
    let rest = map step (drop l.i l.steps) in
    record {
      left : l.left ≡ untouched_along p true l.kept rest;
      state : l.state ≡ first_state rest;
      found : map seen l.found ≡ still_given p l.kept rest;
    }
