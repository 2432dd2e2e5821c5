use Rattle.std.proofs.Common.{List, map, refl}
use Rattle.std.specs.List.{flat_map}
use Rattle.cov_ast.specs.View as view
use Rattle.cov_ast.specs.declared.decl.VarDecl.{VarDecl}
use Rattle.cov_ast.specs.Obligations.{Obligation}
use Rattle.cov_ast.proofs.ObligationLaws.{loop_refused, loop_more}
use Rattle.cov_ast.proofs.WellFormedLaws.{class_in_range}
use Rattle.policy_class.specs.Policy.{control_obligations}
use Rattle.policy_class.proofs.policy.check_classes.Goals as goal

pub check_class-requires-clause-range : goal.check_class-requires-clause-range
check_class-requires-clause-range c =
    class_in_range c.args.p.now c.requires.formed c.loop-var.var-index c.var-item.result
    (rw c.as_slice-var-items.ensures at c.loop-var-test.true) (rw c.as_slice-var-items.ensures at c.var-item.is)

pub returns-in-Err : goal.returns-in-Err
returns-in-Err c =
    let F : List VarDecl → List Obligation = λ ys. flat_map (control_obligations (view.program c.args.p.now)) (map view.var ys) in
    loop_refused F F (control_obligations (view.program c.args.p.now) (view.var c.var-item.result)) (F c.args.p.now.vars) c.args.p.now.vars
    c.loop-var.var-index c.var-item.result
    (rw c.as_slice-var-items.ensures at c.loop-var-test.true) (rw c.as_slice-var-items.ensures at c.var-item.is) (λ ys. refl)
    c.loop-var.invariant c.in-Err.fault c.in-Err.ensures

pub loop-var-preserved : goal.loop-var-preserved
loop-var-preserved c =
    let F : List VarDecl → List Obligation = λ ys. flat_map (control_obligations (view.program c.args.p.now)) (map view.var ys) in
    loop_more F F (control_obligations (view.program c.args.p.now) (view.var c.var-item.result)) (F c.args.p.now.vars) c.args.p.now.vars
    c.loop-var.var-index c.var-item.result
    (rw c.as_slice-var-items.ensures at c.loop-var-test.true) (rw c.as_slice-var-items.ensures at c.var-item.is) (λ ys. refl)
    c.loop-var.invariant c.in_default.ensures
