use Rattle.std.proofs.Common.{refl}
use Rattle.flow_model.proofs.Decided.{none_is_agreement}
use Rattle.flow_model.proofs.laws.no_difference_is_agreement.Goals as goal

pub returns : goal.returns
returns c = λ p m1 h1 m2 h2 long1 locks1 long2 locks2. none_is_agreement p m1 h1 m2 h2 long1 locks1 long2 locks2 _ refl
