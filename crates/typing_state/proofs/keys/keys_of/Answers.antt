use Rattle.std.proofs.Common.{arith}
use Rattle.typing_state.proofs.OnceLaws.{next_key}
use Rattle.typing_state.proofs.keys.keys_of.Goals as goal

pub loop-e-preserved : goal.loop-e-preserved
loop-e-preserved c =
    next_key c.args.list.now c.e-item.result c.loop-e.e-index (omega (arith, c.loop-e-test.true, c.loop-e.auto)) c.e-item.is c.loop-e.made.keys c.insert.new.self.keys c.in_ok-key.key
    c.requires c.loop-e.invariant c.in_ok-key.ensures c.in_ok-insert.ensures.keys
