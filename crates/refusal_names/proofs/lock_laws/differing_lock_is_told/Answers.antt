use Rattle.refusal_names.proofs.ChangeLaws.{branch_told, turn_is_told}
use Rattle.refusal_names.proofs.lock_laws.differing_lock_is_told.Goals as goal

pub returns-clause-branched : goal.returns-clause-branched
returns-clause-branched c p bytes t held complete steps proofs detail e a b join l declared apart = branch_told p bytes held complete l declared a b apart

pub returns-clause-repeated : goal.returns-clause-repeated
returns-clause-repeated c p bytes t held complete steps proofs detail e inv b l declared apart = turn_is_told p bytes held complete l declared b apart
