use Rattle.std.proofs.Common.{◌%◌, length, sym, subst, arith}
use Rattle.cov_expr.specs.Words.{IsSchedule}
use Rattle.cov_ast.specs.Plain.{plain}
use Rattle.cov_ast.specs.View as view
use Rattle.refute.specs.Trials.{entry}
use Rattle.refute.proofs.TrialLaws.{list_more, schedule_made, turn_made, turns_of_program}
use Rattle.refute.proofs.inputs.schedule.Goals as goal

pub loop-j-preserved : goal.loop-j-preserved
loop-j-preserved c =
    list_more (entry (plain (view.program c.args.p.now)) c.args.i) c.loop-j.j (c.drawn.result % c.len-threads.result) c.loop-j.made c.push.new.self
    c.loop-j.invariant (turn_made c.args.p.now c.args.i c.loop-j.j c.drawn.result c.len-threads.result c.drawn.ensures c.len-threads.ensures) c.in_ok-push.ensures.ok

pub returns-clause-entries : goal.returns-clause-entries
returns-clause-entries c =
    schedule_made c.args.p.now c.args.i c.loop-j.j c.len-threads.result c.loop-j.made c.len-threads.ensures c.if-threads-eq0.false c.loop-j.invariant (omega arith)

pub returns-clause-threads : goal.returns-clause-threads
returns-clause-threads c =
    subst (IsSchedule (length c.args.p.now.threads))
    (sym (schedule_made c.args.p.now c.args.i c.loop-j.j c.len-threads.result c.loop-j.made c.len-threads.ensures c.if-threads-eq0.false c.loop-j.invariant (omega arith)))
    (turns_of_program c.args.p.now c.args.i)
