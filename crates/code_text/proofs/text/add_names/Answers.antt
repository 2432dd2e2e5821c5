use Rattle.std.proofs.Common.{arith}
use Rattle.std.proofs.lemmas.Grind.{common_steps}
use Rattle.cov_expr.specs.Names.{IsName}
use Rattle.code_text.proofs.Every.{all_more}
use Rattle.code_text.proofs.text.add_names.Goals as goal

pub loop-name-preserved : goal.loop-name-preserved
loop-name-preserved c = record {
  text = grind (arith, common_steps);
  names = all_more IsName c.args.names.now c.loop-name.name-index c.name-item.result c.loop-name-test.true c.name-item.is c.loop-name.invariant.names c.text.ensures.name;
}
