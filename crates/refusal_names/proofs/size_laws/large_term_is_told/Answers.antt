use Rattle.refusal_names.proofs.LargeLaws.{assigned_told, output_told}
use Rattle.refusal_names.proofs.size_laws.large_term_is_told.Goals as goal

pub returns-clause-assigned : goal.returns-clause-assigned
returns-clause-assigned c p bytes t steps a so_far proofs detail x e q retypes stated broken = assigned_told p bytes t steps a so_far x e q retypes stated broken

pub returns-clause-put_out : goal.returns-clause-put_out
returns-clause-put_out c p bytes t steps a so_far proofs detail e broken = output_told p bytes t steps a so_far e broken
