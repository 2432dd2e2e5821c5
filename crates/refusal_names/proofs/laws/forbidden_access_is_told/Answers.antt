use Rattle.refusal_names.proofs.ForbiddenLaws.{readable, unreadable, unwritable, writable}
use Rattle.refusal_names.proofs.laws.forbidden_access_is_told.Goals as goal

pub returns-clause-read : goal.returns-clause-read
returns-clause-read c = unreadable

pub returns-clause-written : goal.returns-clause-written
returns-clause-written c = unwritable

pub returns-clause-readable : goal.returns-clause-readable
returns-clause-readable c = readable

pub returns-clause-writable : goal.returns-clause-writable
returns-clause-writable c = writable
