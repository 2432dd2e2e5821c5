use Rattle.std.proofs.lemmas.Result.{on_ok_weaker}
use Rattle.cov_expr.proofs.View.{term-Bin}
use Rattle.cov_expr.specs.View.{term}
use Rattle.risc_compile.proofs.ExprLaws.{fetched_both}
use Rattle.risc_compile.proofs.emitter.Emitter.+fetch.Goals as goal

pub returns-in_ok-fetch-in-Bin-clause-code : goal.returns-in_ok-fetch-in-Bin-clause-code
returns-in_ok-fetch-in-Bin-clause-code t c =
    rw (c.in-Bin.is, term-Bin, ← c.deref-in-Bin.ensures, ← c.deref-in-Bin-2.ensures)
    (on_ok_weaker c.fetch-in-Bin-2.result
    (fetched_both c.in-Bin.field-0 (term c.deref-in-Bin.result.now) (term c.deref-in-Bin-2.result.now) c.args.parts c.args.self.now c.fetch-in-Bin.new.self c.fetch-in-Bin-2.new.self
    c.in_ok-fetch-in-Bin.ensures.code)
    c.fetch-in-Bin-2.ensures.code)
