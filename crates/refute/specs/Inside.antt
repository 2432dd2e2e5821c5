-- Words of private contracts. What is promised doesn't rest on them.
use Rattle.std.specs.Prelude.{ℕ, IsTrue, IsFalse}
use Rattle.cov_ast.specs.Plain.{Plain}
use Rattle.flow_model.specs.Source.{begin}
use Rattle.schedule_replay.specs.Replays.{AgreeThroughout, IsFirstStepApart}
use Rattle.refute.specs.Trials.{first_memory, is_fit, schedule, second_memory}
use Rattle.refute.specs.declared.trials.Outcome.{Outcome}
use Rattle.refute.specs.declared.trials.Outcome.TheVariants.{Unfit, Agrees, Apart}

-- This is what a trial shows.
abbrev pub Shows : Plain → ℕ → Outcome → Type 0
Shows p i Unfit = IsFalse (is_fit p i)
Shows p i Agrees = IsTrue (is_fit p i) × AgreeThroughout p (begin p (first_memory p i)) (begin p (second_memory p i)) (schedule p i)
Shows p i (Apart found) = IsTrue (is_fit p i) × IsFirstStepApart p (begin p (first_memory p i)) (begin p (second_memory p i)) (schedule p i) found
