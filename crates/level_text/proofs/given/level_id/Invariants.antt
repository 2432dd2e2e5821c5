use Rattle.std.proofs.Common.{◌≡◌, ◌+◌, drop}
use Rattle.level_text.specs.Inside.GivenBy.{level_by}
use Rattle.level_text.proofs.given.level_id.Given as goal

abbrev pub invariant-loop-other : goal.invariant-loop-other
invariant-loop-other l = record {
  counted : l.place ≡ l.other-index;
  kept : l.place + level_by (drop l.other-index l.declared) l.number ≡ level_by l.declared l.number;
}
