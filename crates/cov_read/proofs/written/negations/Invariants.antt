use Rattle.std.proofs.Common.{◌≡◌}
use Rattle.cov_expr.specs.View.{term}
use Rattle.cov_grammar.specs.Grammar.{negated}
use Rattle.cov_read.proofs.written.negations.Given as goal

abbrev pub invariant-loop : goal.invariant-loop
invariant-loop l = term l.made.expr ≡ negated l.counter (term l.fn.operand.expr)
