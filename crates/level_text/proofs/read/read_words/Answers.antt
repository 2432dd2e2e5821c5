use Rattle.std.proofs.Common.{◌∙◌, sym, ap}
use Rattle.cov_text.specs.Depth.{deep}
use Rattle.cov_parse.proofs.ParseLaws.{deep_fault, reads_tokens}
use Rattle.level_text.proofs.read.read_words.Goals as goal

pub returns-in-Some : goal.returns-in-Some
returns-in-Some c = deep_fault c.args.bytes.now c.in_ok-read.read c.in_ok-read.ensures c.in-Some.at (sym c.in-Some.is ∙ c.deep.ensures ∙ ap (deep 0 0) c.as_slice.ensures)

pub returns-in-None : goal.returns-in-None
returns-in-None c = reads_tokens c.args.bytes.now c.in_ok-read.read c.in_ok-read.ensures (sym c.in-None.is ∙ c.deep.ensures ∙ ap (deep 0 0) c.as_slice.ensures)
