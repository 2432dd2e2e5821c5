use Rattle.object_code.proofs.Answered.{counted}
use Rattle.object_code.proofs.read.code_of.Goals as goal

pub with_distinct_names-requires-clause-counted : goal.with_distinct_names-requires-clause-counted
with_distinct_names-requires-clause-counted c = counted c.args.parts c.requires
