use Rattle.std.proofs.Common.{ap, sym, ◌∙◌}
use Rattle.flow_model.specs.Runs.{has_moved}
use Rattle.source_machine.specs.SourceMachine.{run_of}
use Rattle.schedule_replay.proofs.QuietLaws.{step_still}
use Rattle.schedule_replay.proofs.machine.SourceMachine.step.Goals as goal

pub returns-clause-still : goal.returns-clause-still
returns-clause-still c e = c.step.ensures.run ∙ step_still (run_of c.args.self.now) c.args.t (sym (ap has_moved c.step.ensures.says) ∙ e)
