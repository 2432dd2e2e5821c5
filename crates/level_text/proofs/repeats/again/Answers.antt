use Rattle.std.proofs.Common.{sym, ap, if◌then◌else◌, Some, None}
use Rattle.std.specs.Str.{bytes_eq}
use Rattle.level_text.proofs.FindLaws.{found_among, missing_among}
use Rattle.level_text.proofs.repeats.again.Goals as goal

pub returns-in-Some : goal.returns-in-Some
returns-in-Some c = sym (ap (λ b. if b then Some c.args.at else None) (found_among (bytes_eq c.args.name) c.args.before.now c.in-Some.field-0 c.in-Some.ensures.number))

pub returns-in-None : goal.returns-in-None
returns-in-None c = sym (ap (λ b. if b then Some c.args.at else None) (missing_among (bytes_eq c.args.name) c.args.before.now c.in-None.ensures.number))
