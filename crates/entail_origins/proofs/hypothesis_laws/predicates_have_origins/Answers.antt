use Rattle.std.proofs.Common.{ap}
use Rattle.std.specs.Option.{is_some}
use Rattle.entail_origins.proofs.HypothesisLaws.{has_origin}
use Rattle.entail_origins.proofs.hypothesis_laws.predicates_have_origins.Goals as goal

pub returns : goal.returns
returns c p t ss e h = ap is_some (has_origin p t ss e h).1
