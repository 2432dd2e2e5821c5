use Rattle.std.proofs.Common.{Some, rules}
use Rattle.cov_ast.specs.Plain.{plain}
use Rattle.cov_ast.specs.View as view
use Rattle.flow_model.specs.declared.start.BadStart.TheVariants.{Var}
use Rattle.flow_model.proofs.Decided.{none_is_fit}
use Rattle.flow_model.proofs.start.starts.Goals as goal

pub returns-in-Some-clause-fit : goal.returns-in-Some-clause-fit
returns-in-Some-clause-fit c = none_is_fit (plain (view.program c.args.p.now)) c.args.m1.now c.args.m2.now (Some (Var c.in-Some.x)) (search rules)

pub returns-clause-fit : goal.returns-clause-fit
returns-clause-fit c = none_is_fit (plain (view.program c.args.p.now)) c.args.m1.now c.args.m2.now c.map.result (search rules)
