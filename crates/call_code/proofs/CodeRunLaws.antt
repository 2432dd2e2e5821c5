-- Laws of the replies of `run-code` and `pair-code`: each is the only one, and says that all is done.
use Rattle.std.proofs.Common.{◌≡◌, refl, sym, ap, ◌∙◌}
use Rattle.call_code.specs.Codes.{code_of}
use Rattle.call_inputs.proofs.PlanLaws.{IsSoundReply, one_sound}
use Rattle.replay_inputs.specs.Inputs.{PairInput, RunInput}
use Rattle.call_reports.specs.Replies.{ran, status_of}
use Rattle.call_reports.specs.declared.answers.Status.TheVariants as s
use Rattle.policy_class.specs.Resolved.{resolved}
use Rattle.call_code.specs.CodeRuns.{PairsCode, RunsCode, report_on_code}

pub run_code_sound : (i : RunInput) → IsSoundReply (λ status. status ≡ s.Done) (RunsCode i)
run_code_sound i = one_sound (ran (report_on_code (resolved i.program) (code_of i.program) i.memory i.schedule)) refl

pub pair_code_sound : (i : PairInput) → IsSoundReply (λ status. status ≡ s.Done) (PairsCode i)
pair_code_sound i = record { one = λ reply other h k. h.is ∙ sym k.is; success = λ reply h. ap status_of h.is }
