use Rattle.cov_expr.specs.View.{term}
use Rattle.entail_cert.proofs.Conditions.{ring_told}
use Rattle.entail_cert.proofs.arithmetic.is_ring.Goals as goal

pub returns-in-Some : goal.returns-in-Some
returns-in-Some c =
    ring_told (term c.args.goal.now) (term c.in-Some.a.now) (term c.in-Some.b.now) c.ring_equal.result
    c.in-Some.ensures c.ring_equal.ensures.words c.ring_equal.ensures.test
