use Rattle.std.proofs.Common.{◌≡◌, drop}
use Rattle.entail_losses.specs.LeftOut.{without_all}
use Rattle.entail_losses.proofs.left_out_touched.take_all.Given as goal

-- what is left without the rest is what is left without all
abbrev pub invariant-loop-x : goal.invariant-loop-x
invariant-loop-x l = without_all l.kept (drop l.x-index l.numbers) ≡ without_all l.fn.kept l.numbers
