-- A program in version 2 of the language does what it did, and is judged as it was.
use Rattle.std.specs.Prelude.{◌≡◌, ℕ, List}
use Rattle.call_judge.specs.Check.{obligations}
use Rattle.call_judge.specs.Meaning.{meaning}
use Rattle.cov_ast.specs.Syntax.{Parsed}
use Rattle.cov_print.specs.ReadBack.{SpellsInSecond, in_second}
use Rattle.cov_print.specs.Spelling.{spelling}
use Rattle.flow_model.specs.Source.{after, stayed}
use Rattle.policy_class.specs.Resolved.{resolved}
use Rattle.typing_law.specs.Verdicts.{counts}

-- In version 2 a program does what it did, and is judged as it was: it has the same run from every memory under every
-- schedule, and the same obligations, statements and entailments. Where a text spells it, its spelling in version 2 is read as
-- just this program, places aside, unless it is longer than a text may be.
pub record StaysTheSame (p : Parsed) : Type 0 where
  pub runs : (m schedule : List ℕ) → after (meaning (in_second p)) m schedule ≡ after (meaning p) m schedule
  pub stays : (m schedule : List ℕ) → stayed (meaning (in_second p)) m schedule ≡ stayed (meaning p) m schedule
  pub judged : obligations (in_second p) ≡ obligations p
  pub counted : counts (resolved (in_second p)) ≡ counts (resolved p)
  pub read : SpellsInSecond (spelling (in_second p)) p
