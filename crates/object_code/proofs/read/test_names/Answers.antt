use Rattle.std.proofs.Common.{◌∙◌, sym}
use Rattle.object_code.proofs.Answered.{repeated_is_first}
use Rattle.object_code.proofs.read.test_names.Goals as goal

pub returns-in-Some : goal.returns-in-Some
returns-in-Some c = repeated_is_first c.args.parts.now c.in-Some.name c.requires (sym c.in_ok-first_repeated.ensures ∙ c.in-Some.is)
