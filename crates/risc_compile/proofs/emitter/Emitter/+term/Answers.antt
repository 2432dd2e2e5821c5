use Rattle.std.proofs.lemmas.Result.{on_ok_weaker}
use Rattle.cov_expr.proofs.View.{term-Bin}
use Rattle.cov_expr.specs.View.{term}
use Rattle.risc_compile.proofs.ExprLaws.{term_both}
use Rattle.risc_compile.proofs.emitter.Emitter.+term.Goals as goal

pub returns-in_ok-term-in-Bin-2-clause-code : goal.returns-in_ok-term-in-Bin-2-clause-code
returns-in_ok-term-in-Bin-2-clause-code t c =
    rw (c.in-Bin.is, term-Bin, ← c.deref-in-Bin.ensures, ← c.deref-in-Bin-2.ensures)
    (on_ok_weaker c.push-in-Bin.result
    (λ pushed. term_both c.in-Bin.op (term c.deref-in-Bin.result.now) (term c.deref-in-Bin-2.result.now) c.args.depth c.register-register.result c.register-second.result
    c.args.self.now c.term-in-Bin.new.self c.term-in-Bin-2.new.self c.push-in-Bin.new.self c.in_ok-term-in-Bin.ensures.code c.in_ok-term-in-Bin-2.ensures.code pushed
    c.register-register.ensures.part c.register-second.ensures.part)
    c.push-in-Bin.ensures)
