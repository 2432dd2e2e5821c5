use Rattle.std.proofs.Common.{refl}
use Rattle.call_text.proofs.laws.migrated_stays.Goals as goal

pub returns : goal.returns
returns c p = record {
  runs = λ m schedule. refl;
  stays = λ m schedule. refl;
  judged = refl;
  counted = refl;
  read = c.second_version_is_read.ensures p;
}
