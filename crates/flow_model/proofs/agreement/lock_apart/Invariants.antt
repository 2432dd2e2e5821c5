use Rattle.std.proofs.Common.{◌≡◌, ℕ, ◌<◌, false}
use Rattle.flow_model.specs.FirstDifference.{holders_differ, holders_of}
use Rattle.flow_model.proofs.agreement.lock_apart.Given as goal

abbrev pub invariant-loop-l : goal.invariant-loop-l
invariant-loop-l l = (k : ℕ) → k < l.l → holders_differ (holders_of l.h1) (holders_of l.h2) k ≡ false
