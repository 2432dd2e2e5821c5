use Rattle.mode_state.proofs.LockSetLaws.{no_word}
use Rattle.mode_state.proofs.lock_set.LockSet.new.Goals as goal

pub returns : goal.returns
returns c = no_word c.args.bound
