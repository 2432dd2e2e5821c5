use Rattle.cov_ast.specs.Plain.{plain}
use Rattle.point_law.specs.After.{meet}
use Rattle.typing_law.specs.Blocks.{value_type}
use Rattle.refusal_names.proofs.AddedLaws.{assigned, guarded, taken}
use Rattle.refusal_names.proofs.size_laws.one_too_many_is_told.Goals as goal

pub returns-clause-assigned : goal.returns-clause-assigned
returns-clause-assigned c p bytes t a few steps proofs detail x e q retypes many = assigned p t a few x e (value_type (plain p) t a q e) retypes many

pub returns-clause-taken : goal.returns-clause-taken
returns-clause-taken c p bytes t a few steps proofs detail l many = taken p t a few l many

pub returns-clause-branched : goal.returns-clause-branched
returns-clause-branched c p bytes t a few steps proofs detail e yes_block no_block join many = guarded p t a few e many

pub returns-clause-entered : goal.returns-clause-entered
returns-clause-entered c p bytes t a steps proofs detail e inv b few many = guarded p t (meet (plain p) t a inv) few e many
