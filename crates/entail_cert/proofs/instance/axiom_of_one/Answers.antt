use Rattle.std.proofs.Common.{arith}
use Rattle.cov_expr.specs.View.{term}
use Rattle.entail_cert.proofs.Numbers.{not_of_one}
use Rattle.entail_cert.proofs.instance.axiom_of_one.Goals as goal

pub returns-in_default : goal.returns-in_default
returns-in_default c =
    not_of_one c.args.number (term c.args.a.now)
    (omega arith, (omega arith, (omega arith, (omega arith, (omega arith, (omega arith, (omega arith, tt)))))))
