use Rattle.std.proofs.Common.{◌∙◌, sym}
use Rattle.std.specs.Str.{bytes_eq}
use Rattle.level_text.proofs.FindLaws.{absent, missing_among}
use Rattle.level_text.proofs.markers.number_in.Goals as goal

pub returns-in-None : goal.returns-in-None
returns-in-None c = c.len.ensures.len ∙ sym (absent (bytes_eq c.args.name) c.args.p.now.names (missing_among (bytes_eq c.args.name) c.args.p.now.names c.in-None.ensures.number))
