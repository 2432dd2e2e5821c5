use Rattle.call_code.proofs.ObjectLaws.{object_then_compiled, object_then_listed}
use Rattle.call_code.proofs.laws.unobject_gives_the_listing.Goals as goal

pub returns-clause-compiled : goal.returns-clause-compiled
returns-clause-compiled c files program name bytes reply made at fits h = object_then_compiled files name bytes at fits reply program made h

pub returns-clause-listed : goal.returns-clause-listed
returns-clause-listed c files program name bytes reply made at fits h = object_then_listed files name bytes at fits reply program made h
