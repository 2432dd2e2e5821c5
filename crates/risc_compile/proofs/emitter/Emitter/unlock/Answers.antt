use Rattle.risc_compile.proofs.CodeLaws.{unlocked}
use Rattle.risc_compile.proofs.emitter.Emitter.unlock.Goals as goal

pub returns-clause-code : goal.returns-clause-code
returns-clause-code c p t h inside =
    unlocked p t c.args.l c.args.self.now c.push.new.self c.give.new.self c.restrict.new.self c.in_ok-push.ensures c.give.ensures c.restrict.ensures h
