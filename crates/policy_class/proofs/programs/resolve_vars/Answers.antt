use Rattle.std.proofs.Common.{arith, get_or}
use Rattle.cov_ast.specs.View as view
use Rattle.cov_expr.specs.Words.{HasWords}
use Rattle.cov_ast.specs.Plain.{class_term}
use Rattle.policy_class.specs.Inside.Ids.{var_in, lock_in}
use Rattle.policy_class.specs.Resolved.{resolved_variable}
use Rattle.policy_class.proofs.WalkLaws.{walked_none, walked_more, walked_all}
use Rattle.policy_class.proofs.programs.resolve_vars.Goals as goal

pub loop-var-init : goal.loop-var-init
loop-var-init c = walked_none view.var (resolved_variable (var_in c.args.ids.now) (lock_in c.args.ids.now)) (λ v. HasWords (class_term v.class)) c.args.vars.now

pub loop-var-preserved : goal.loop-var-preserved
loop-var-preserved c =
    walked_more view.var (resolved_variable (var_in c.args.ids.now) (lock_in c.args.ids.now)) (λ v. HasWords (class_term v.class)) c.args.vars.now c.loop-var.vars c.loop-var.var-index
    c.var-item.result _ (omega (arith, c.loop-var.auto.vars, c.loop-var-test.true)) (λ i. record { name = (get_or c.loop-var.vars c.loop-var.var-index c.var-item.result).name; at = (get_or c.loop-var.vars c.loop-var.var-index c.var-item.result).at; class = c.resolve_class.ensures.resolved i }) c.resolve_class.ensures.words c.loop-var.invariant

pub returns-clause-resolved : goal.returns-clause-resolved
returns-clause-resolved c =
    (walked_all view.var (resolved_variable (var_in c.args.ids.now) (lock_in c.args.ids.now)) (λ v. HasWords (class_term v.class)) c.args.vars.now c.loop-var.vars c.loop-var.var-index
    (omega (arith, c.loop-var.auto.vars, c.loop-var-test.false)) c.loop-var.invariant).0

pub returns-clause-words : goal.returns-clause-words
returns-clause-words c =
    (walked_all view.var (resolved_variable (var_in c.args.ids.now) (lock_in c.args.ids.now)) (λ v. HasWords (class_term v.class)) c.args.vars.now c.loop-var.vars c.loop-var.var-index
    (omega (arith, c.loop-var.auto.vars, c.loop-var-test.false)) c.loop-var.invariant).1
