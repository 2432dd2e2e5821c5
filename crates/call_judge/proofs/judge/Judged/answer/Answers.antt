use Rattle.std.proofs.Common.{rules}
use Rattle.call_judge.proofs.JudgeLaws.{answer_checks}
use Rattle.call_judge.proofs.judge.Judged.answer.Goals as goal

pub returns-in-Unnamed-clause-checks : goal.returns-in-Unnamed-clause-checks
returns-in-Unnamed-clause-checks c = answer_checks c.args.name.now c.args.self.now _ (search rules)

pub returns-in-Refused-clause-checks : goal.returns-in-Refused-clause-checks
returns-in-Refused-clause-checks c = answer_checks c.args.name.now c.args.self.now _ (search rules)

pub returns-in-Accepted-clause-checks : goal.returns-in-Accepted-clause-checks
returns-in-Accepted-clause-checks c = answer_checks c.args.name.now c.args.self.now _ (search rules)
