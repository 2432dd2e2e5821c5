use Rattle.refusal_names.proofs.MadeLaws.{small_behind}
use Rattle.refusal_names.proofs.size_laws.large_predicate_is_made.Goals as goal

pub returns : goal.returns
returns c p t invariants steps given made = small_behind p t invariants steps given made
