use Rattle.std.proofs.Common.{map}
use Rattle.typing_rules.specs.Keeping.{sought_among, view_kept}
use Rattle.typing_rules.proofs.KeptLaws.{sought_more}
use Rattle.typing_rules.proofs.kept.searches.Goals as goal

pub loop-item-preserved : goal.loop-item-preserved
loop-item-preserved c =
    let l = c.loop-item in
    sought_more l.made c.add_search.new.made l.rest c.pop.new.self c.in-Some.item (sought_among (map view_kept c.args.kept)) c.in-Some.ensures l.invariant c.in_ok-add_search.ensures
