use Rattle.std.proofs.Common.{ap}
use Rattle.call_reports.specs.Replies.{spelled}
use Rattle.call_code.proofs.compile.listed.Goals as goal

pub returns : goal.returns
returns c = record {
  is_code = c.requires;
  listed = c.in_ok-list.ensures.listed;
  is = ap spelled c.in_ok-list.ensures.text;
}
