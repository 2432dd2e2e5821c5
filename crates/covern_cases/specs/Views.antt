-- What the code's claims stand for as plain data.
use Rattle.std.specs.Prelude.{map}
use Rattle.cov_expr.specs.View.{term}
use Rattle.cov_ast.specs.View as view
use Rattle.covern_cases.specs.declared.claim.Claim.{Claim}
use Rattle.covern_cases.specs.Claims.{Claimed}

abbrev pub claim : Claim → Claimed
claim c = record { hyps = map term c.hyps; goal = term c.goal.now; cert = view.cert c.cert.now }
