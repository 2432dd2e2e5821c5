use Rattle.std.proofs.Common.{map}
use Rattle.annotate.specs.Inside.Choosing.{lent_choice}
use Rattle.annotate.proofs.StatementUses.{proofs_go_on}
use Rattle.annotate.proofs.uses.Uses.add_proofs.Goals as goal

pub loop-proof-preserved : goal.loop-proof-preserved
loop-proof-preserved c =
    let told = c.in_ok-left-2.ensures in
    proofs_go_on c.args.at (map lent_choice c.loop-proof.left) (map lent_choice c.in_ok-left-2.left) c.args.proofs.now c.loop-proof.proof-index c.proof-item.result _ _ _
    c.loop-proof-test.true c.proof-item.is c.loop-proof.invariant told.0 told.1
