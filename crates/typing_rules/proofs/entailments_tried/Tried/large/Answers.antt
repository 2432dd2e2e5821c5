use Rattle.std.proofs.Common.{refl}
use Rattle.typing_rules.proofs.TryLaws.{tries_large}
use Rattle.typing_rules.proofs.entailments_tried.Tried.large.Goals as goal

pub returns : goal.returns
returns c u at proofs n gs k large = tries_large u at proofs n gs k _ refl refl large
