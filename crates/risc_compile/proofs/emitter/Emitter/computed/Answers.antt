use Rattle.cov_expr.specs.View.{term}
use Rattle.risc_compile.proofs.ExprLaws.{expr_code}
use Rattle.risc_compile.proofs.emitter.Emitter.computed.Goals as goal

pub returns-clause-code : goal.returns-clause-code
returns-clause-code c =
    expr_code (term c.args.e.now) c.len-start.result c.register.result c.width-parts.result c.args.self.now c.begin.new.self c.fetch.new.self c.term.new.self c.weigh.new.self c.len-start.ensures
    c.width-parts.ensures c.in_ok-begin.ensures.code c.in_ok-fetch.ensures.code c.in_ok-term.ensures.code c.weigh.ensures.code c.register.ensures.part
