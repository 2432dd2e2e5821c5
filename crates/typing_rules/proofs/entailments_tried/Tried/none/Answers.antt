use Rattle.std.proofs.Common.{refl}
use Rattle.typing_rules.proofs.TryLaws.{tries_none}
use Rattle.typing_rules.proofs.entailments_tried.Tried.none.Goals as goal

pub returns-clause-tried : goal.returns-clause-tried
returns-clause-tried c u at proofs n k = tries_none u at proofs n k _ refl refl refl
