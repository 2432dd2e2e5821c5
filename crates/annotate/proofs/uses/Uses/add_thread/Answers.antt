use Rattle.annotate.proofs.StatementUses.{loop_goes}
use Rattle.annotate.proofs.uses.Uses.add_thread.Goals as goal

pub returns : goal.returns
returns c = rw (← c.as_slice.ensures) (loop_goes c.add_block.result _ _ _ _ _ c.in_ok-keep_modes.ensures c.add_block.ensures)
