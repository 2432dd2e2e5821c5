use Rattle.std.proofs.Common.{map}
use Rattle.typing_rules.specs.Keeping.{copied_among, view_kept}
use Rattle.typing_rules.proofs.KeptLaws.{copied_more}
use Rattle.typing_rules.proofs.kept.copies.Goals as goal

pub loop-item-preserved : goal.loop-item-preserved
loop-item-preserved c =
    let l = c.loop-item in
    copied_more l.made c.add_copy.new.made l.rest c.pop.new.self c.in-Some.item (copied_among (map view_kept c.args.kept)) c.in-Some.ensures l.invariant c.in_ok-add_copy.ensures
