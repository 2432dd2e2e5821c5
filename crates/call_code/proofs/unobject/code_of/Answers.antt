use Rattle.object_code.proofs.Answered.{counted}
use Rattle.call_code.proofs.unobject.code_of.Goals as goal

pub returns-in-Ok-clause-good : goal.returns-in-Ok-clause-good
returns-in-Ok-clause-good c =
    let is = c.in-Ok.ensures.reading in
    record { counted = counted c.in-Ok.code is.0.whole; faultless = is.1 }
