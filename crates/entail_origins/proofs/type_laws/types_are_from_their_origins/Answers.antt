use Rattle.entail_origins.proofs.TypeOriginLaws.{tells}
use Rattle.entail_origins.proofs.type_laws.types_are_from_their_origins.Goals as goal

pub returns : goal.returns
returns c p t z ss declared no_control = tells p t z declared no_control ss
