-- What a search comes to for the entailments of a thread that have no valid certificate.
use Rattle.std.specs.Prelude.{ℕ, List, map, filter, not}
use Rattle.cov_ast.specs.Syntax.{Program}
use Rattle.mode_compat.specs.Compatible.{numbered}
use Rattle.typing_law.specs.ThreadEntailments.{is_proved_in, thread_entailments}
use Rattle.typing_rules.specs.Keeping.{SearchedEntailment, searched_for}

-- in the order in which the entailments are tried
abbrev pub searched_in_thread : (depth : ℕ) → Program → (t : ℕ) → List SearchedEntailment
searched_in_thread depth p t = map (searched_for depth) (filter (λ g. not (is_proved_in (numbered p t).body g)) (thread_entailments p t))
