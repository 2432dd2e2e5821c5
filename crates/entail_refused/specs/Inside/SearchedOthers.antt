-- Words of private contracts: refusals of entailments that a search was made for. To believe what is told of others, nothing here need be read.
use Rattle.std.specs.Prelude.{ℕ, ◌==◌, List, map, filter, Bool, not, ◌&&◌}
use Rattle.cov_ast.specs.declared.refusal.Refusal.{Refusal}
use Rattle.typing_rules.specs.Keeping.{SearchedEntailment}
use Rattle.entail_refused.specs.OtherRefusals.{refusal_at}

-- whether one isn't that with a number at a place
abbrev pub is_elsewhere : (place number : ℕ) → SearchedEntailment → Bool
is_elsewhere place number s = not (s.place == place && s.number == number)

-- the refusals of those that aren't
abbrev pub listed : (t place number : ℕ) → List SearchedEntailment → List Refusal
listed t place number ss = map (λ s. refusal_at t s.place s.number) (filter (is_elsewhere place number) ss)
