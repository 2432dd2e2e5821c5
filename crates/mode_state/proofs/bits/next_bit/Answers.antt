use Rattle.mode_state.proofs.BitLaws.{none_after, some_after}
use Rattle.mode_state.proofs.bits.next_bit.Goals as goal
use Rattle.std.proofs.Common.{rules}

pub returns-then-rest-eq0 : goal.returns-then-rest-eq0
returns-then-rest-eq0 c = none_after c.args.word c.args.from (search rules) c.if-rest-eq0.true

pub returns : goal.returns
returns c = some_after c.args.word c.args.from (search rules) c.if-rest-eq0.false
