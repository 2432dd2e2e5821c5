use Rattle.mode_state.proofs.MaskLaws.{no_words}
use Rattle.mode_state.proofs.mask.Mask.new.Goals as goal

pub returns : goal.returns
returns c = no_words c.args.bound
