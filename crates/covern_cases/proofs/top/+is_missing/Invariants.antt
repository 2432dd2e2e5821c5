use Rattle.std.proofs.Common.{length}
use Rattle.covern_cases.proofs.top.+is_missing.Given as goal

-- one file fewer at each call
abbrev pub decreases-is_missing : goal.decreases-is_missing
decreases-is_missing l = length l.files.now
