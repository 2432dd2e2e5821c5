use Rattle.std.proofs.Common.{◌≡◌, drop}
use Rattle.typing_state.specs.Keys.{digest_from}
use Rattle.typing_state.proofs.key.digest.Given as goal

abbrev pub invariant-loop-word : goal.invariant-loop-word
invariant-loop-word l = digest_from l.number (drop l.word-index l.words) ≡ digest_from 0 l.words
