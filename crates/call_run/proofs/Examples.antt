-- Worked replies to trials, by computation.
use Rattle.std.proofs.Common.{◌≡◌, [], ◌∷◌, None, refl}
use Rattle.std.specs.Prelude.{codes}
use Rattle.cov_ast.specs.Declarations.{no_modes}
use Rattle.cov_ast.specs.Syntax.{Block, Program, assign, done, high, low, more}
use Rattle.cov_expr.specs.Term.{var}
use Rattle.flow_model.specs.declared.agreement.Differ.TheVariants as differs
use Rattle.refute.specs.Trials.{trial_steps}
use Rattle.schedule_replay.specs.declared.replays.Found.{Found}
use Rattle.call_reports.specs.Replies.{ran}
use Rattle.replay_reports.specs.TrialReports.{apart_report, none_report}
use Rattle.call_run.specs.Refutes.{reply_to_trials, report_on_trial}

-- var a: low; var s: high; thread t { .. }
abbrev program : Block → Program
program body = record {
  version = 1;
  vars = record { name = codes "a"; at = 4; class = low } ∷ record { name = codes "s"; at = 16; class = high } ∷ [];
  locks = [];
  threads = record { name = codes "t"; at = 32; modes = no_modes; body = body; end = 48 } ∷ [];
}

-- a secret is copied to where it is seen, and what is seen to the secret
abbrev leak : Program
leak = program (more 36 (assign 0 (var 1) None []) [] done)

abbrev sound : Program
sound = program (more 36 (assign 1 (var 0) None []) [] done)

-- it differs in `a` after the second step
abbrev at_step_2 : Found
at_step_2 = record { step = 2; differ = differs.Var 0 }

first_trial_is_told : report_on_trial leak 1 at_step_2 ≡ apart_report leak 1 at_step_2 (1 ∷ 1 ∷ []) (1 ∷ 2 ∷ []) (0 ∷ 0 ∷ [])
unfolding trial_steps
first_trial_is_told = refl

none_is_told : reply_to_trials sound 100 None ≡ ran (none_report 100 100)
none_is_told = refl
