use Rattle.std.proofs.Common.{◌≡◌, ◌++◌}
use Rattle.std.specs.List.{repeat}
use Rattle.cov_gen.proofs.text.add_thread.Given as goal

-- the rounds so far
abbrev pub invariant-loop : goal.invariant-loop
invariant-loop l = l.out ≡ l.initial.out ++ repeat l.counter l.round
