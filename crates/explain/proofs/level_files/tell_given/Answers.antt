use Rattle.cov_ast.specs.View as view
use Rattle.level_text.specs.Views as level_view
use Rattle.explain.proofs.LevelLaws.{fault_over, given_over}
use Rattle.explain.proofs.level_files.tell_given.Goals as goal

pub returns-in-Ok : goal.returns-in-Ok
returns-in-Ok c =
    given_over c.args.name.now c.args.bytes.now (view.parsed c.args.parsed) c.args.over.now c.args.text.now c.tell_text.new.text c.args.given.now
    (level_view.levels c.in-Ok.l) c.tell_text.result c.in-Ok.ensures.answer c.tell_text.ensures

pub returns-in-Err : goal.returns-in-Err
returns-in-Err c =
    fault_over c.args.name.now c.args.bytes.now (view.parsed c.args.parsed) c.args.over.now c.args.text.now c.tell_fault.new.text c.args.given.now
    c.in-Err.fault c.level_fault.result c.tell_fault.result c.in-Err.ensures.answer c.level_fault.ensures c.tell_fault.ensures
