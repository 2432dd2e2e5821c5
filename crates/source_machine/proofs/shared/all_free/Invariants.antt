use Rattle.std.proofs.Common.{◌≡◌, replicate, None}
use Rattle.flow_model.specs.FirstDifference.{holders_of}
use Rattle.source_machine.proofs.shared.all_free.Given as goal

abbrev pub invariant-loop : goal.invariant-loop
invariant-loop l = holders_of l.holders ≡ replicate l.counter None
