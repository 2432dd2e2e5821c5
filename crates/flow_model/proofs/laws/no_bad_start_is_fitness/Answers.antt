use Rattle.std.proofs.Common.{refl}
use Rattle.flow_model.proofs.Decided.{none_is_fit}
use Rattle.flow_model.proofs.laws.no_bad_start_is_fitness.Goals as goal

pub returns : goal.returns
returns c = λ p m1 m2. none_is_fit p m1 m2 _ refl
