use Rattle.std.proofs.Common.{length}
use Rattle.covern_cases.proofs.top.+are_distinct.Given as goal

-- one file fewer at each call
abbrev pub decreases-are_distinct : goal.decreases-are_distinct
decreases-are_distinct l = length l.files.now
