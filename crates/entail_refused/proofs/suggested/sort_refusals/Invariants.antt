use Rattle.std.proofs.Common.{◌≡◌, ◌++◌, drop}
use Rattle.cov_ast.specs.View as view
use Rattle.entail_refused.specs.Suggested.{found_among, open_among}
use Rattle.entail_refused.proofs.suggested.sort_refusals.Given as goal

-- those so far, and those of the rest, are those of all
abbrev pub invariant-loop-refusal : goal.invariant-loop-refusal
invariant-loop-refusal l =
    (l.made.open ++ open_among (view.program l.p) (drop l.refusal-index l.refusals) ≡ open_among (view.program l.p) l.refusals)
    × (l.made.found ++ found_among (view.program l.p) (drop l.refusal-index l.refusals) ≡ found_among (view.program l.p) l.refusals)
