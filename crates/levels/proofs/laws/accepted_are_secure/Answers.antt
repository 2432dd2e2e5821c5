use Rattle.levels.specs.Order.{seen_by}
use Rattle.levels.specs.Projection.{projected}
use Rattle.levels.proofs.laws.accepted_are_secure.Goals as goal

pub returns : goal.returns
returns c l p h fine accepted observer lt =
    c.accepted_is_secure.ensures (projected l observer p) (c.shown_is_well_formed.ensures (seen_by l observer) l p h fine) (accepted observer lt)
