use Rattle.cov_ast.specs.View as view
use Rattle.call_verdicts.proofs.LevelsLaws.{levels_unread}
use Rattle.call_verdicts.proofs.observers.given_levels.Goals as goal

pub returns-in-Err-clause-read : goal.returns-in-Err-clause-read
returns-in-Err-clause-read c =
    levels_unread c.args.name.now c.args.bytes.now (view.parsed c.args.parsed.now) c.in-Err.fault c.level_fault.result c.unread.result c.in-Err.ensures.answer
    c.level_fault.ensures c.unread.ensures
