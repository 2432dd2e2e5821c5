use Rattle.schedule_replay.proofs.PairLaws.{same_rest, rest_same}
use Rattle.schedule_replay.proofs.replays.same_words.Goals as goal

pub returns : goal.returns
returns c = (
  λ t. same_rest c.args.compared c.args.left.now c.args.right.now c.requires (c.same_slice.ensures.0 t),
  λ e. c.same_slice.ensures.1 (rest_same c.args.compared c.args.left.now c.args.right.now e),
)
