use Rattle.refusal_names.proofs.UnstableReads.{told}
use Rattle.refusal_names.specs.SpokenParts.{evaluated_expression}
use Rattle.refusal_names.proofs.read_laws.unstable_reads_are_told.Goals as goal

pub returns : goal.returns
returns c p bytes t held steps proofs detail s e below evaluates broken = told p bytes t held e below broken (evaluated_expression s) evaluates
