use Rattle.std.proofs.Common.{◌≡◌, ◌++◌, drop, map}
use Rattle.typing_rules.specs.Keeping.{view_searched}
use Rattle.entail_refused.specs.Inside.SearchedOthers.{listed}
use Rattle.entail_refused.proofs.others.others_among.Given as goal

-- those so far, and those among the rest, are all of them
abbrev pub invariant-loop-entailment : goal.invariant-loop-entailment
invariant-loop-entailment l =
    l.made ++ listed l.t l.place l.number (map view_searched (drop l.entailment-index l.searched))
    ≡ listed l.t l.place l.number (map view_searched l.searched)
