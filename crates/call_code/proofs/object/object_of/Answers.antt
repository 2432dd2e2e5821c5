use Rattle.std.proofs.Common.{ap}
use Rattle.call_reports.specs.Replies.{spelled}
use Rattle.call_code.proofs.object.object_of.Goals as goal

pub returns : goal.returns
returns c = record {
  is_code = c.requires;
  whole = c.in_ok-object.ensures.whole;
  is = ap spelled c.in_ok-object.ensures.bytes;
}
