use Rattle.std.proofs.Common.{subst, arith}
use Rattle.std.proofs.lemmas.Grind.{common_steps}
use Rattle.cov_expr.specs.Names.{IsName}
use Rattle.std.proofs.lemmas.List.Elements.{All-more}
use Rattle.object_code.proofs.bytes.add_names.Goals as goal

pub loop-name-preserved : goal.loop-name-preserved
loop-name-preserved c = record {
  bytes = grind (arith, common_steps);
  names = All-more IsName c.args.names.now c.loop-name.name-index c.name-item.result c.loop-name-test.true c.loop-name.invariant.names (subst IsName c.name-item.is c.in_ok-add_name.ensures.name);
}
