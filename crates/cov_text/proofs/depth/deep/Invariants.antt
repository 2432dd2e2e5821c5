use Rattle.std.proofs.Common.{◌≡◌, ◌≤◌, drop}
use Rattle.cov_text.specs.Depth as spec
use Rattle.cov_text.proofs.depth.deep.Given as goal

abbrev pub invariant-loop-token : goal.invariant-loop-token
invariant-loop-token l = record {
  same : spec.deep l.«open» l.marks (drop l.token-index l.tokens) ≡ spec.deep 0 0 l.tokens;
  brackets : l.«open» ≤ 200;
  marks : l.marks ≤ 64;
}
