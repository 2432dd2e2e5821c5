use Rattle.std.proofs.Common.{◌≡◌, drop}
use Rattle.schedule_replay.specs.Starts.{is_declared}
use Rattle.schedule_replay.proofs.start.is_declared.Given as goal

abbrev pub invariant-loop-var : goal.invariant-loop-var
invariant-loop-var l = is_declared (drop l.var-index l.vars) l.key ≡ is_declared l.vars l.key
