use Rattle.std.proofs.Common.{◌++◌, ◌∙◌, ap}
use Rattle.cov_gen.proofs.Rounds.{round_more}
use Rattle.cov_gen.proofs.text.add_thread.Goals as goal

pub loop-preserved : goal.loop-preserved
loop-preserved c =
    c.in_ok-extend_from_slice-2.ensures.ok ∙ ap (λ out. out ++ c.args.round.now) c.loop.invariant
    ∙ round_more c.loop.counter c.extend_from_slice.new.self c.args.round.now
