use Rattle.mode_state.proofs.MaskLaws.{words_joined}
use Rattle.mode_state.proofs.mask.joined.Goals as goal

pub returns : goal.returns
returns c x small = words_joined c.args.a.now c.args.b.now x small
