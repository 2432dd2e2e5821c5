use Rattle.std.proofs.Common.{map, ◌++◌}
use Rattle.cov_expr.specs.View.{term}
use Rattle.cov_ast.specs.View.{cert}
use Rattle.entail_cert.specs.HeldTerms.{held_term}
use Rattle.entail_cert.proofs.Instances.{walked_entails}
use Rattle.entail_cert.proofs.check.walked.Goals as goal

pub returns-in-Ok-clause-entails : goal.returns-in-Ok-clause-entails
returns-in-Ok-clause-entails c =
    walked_entails (map term c.args.given.now ++ map held_term c.args.added) (term c.args.goal.now) (cert c.args.cert.now) c.in-Ok.ensures.finds.0 c.in-Ok.ensures.words
