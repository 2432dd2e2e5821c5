use Rattle.std.proofs.Common.{ap, length}
use Rattle.cov_expr.specs.View.{term}
use Rattle.cov_ast.specs.Plain.{plain, class_term}
use Rattle.cov_ast.specs.View as view
use Rattle.cov_ast.specs.Declarations.{is_plain_low}
use Rattle.cov_ast.proofs.ObligationLaws.{vars_held, vars_refused, outside_in_range}
use Rattle.policy_class.specs.Policy.{control_obligation}
use Rattle.policy_class.proofs.policy.check_class.Goals as goal

pub returns-in-None : goal.returns-in-None
returns-in-None c =
    let p = view.program c.args.p.now in
    let v = view.var c.args.var.now in
    vars_held (length c.args.p.now.vars) (is_plain_low (plain p)) (λ y. (control_obligation p v y).refusal)
    c.args.low.now c.requires.low (class_term v.class) (term c.in-When.e) (ap (λ k. class_term (view.class k)) c.in-When.is)
    c.requires.range c.in-None.ensures

pub var_name-requires : goal.var_name-requires
var_name-requires c =
    let p = view.program c.args.p.now in
    let v = view.var c.args.var.now in
    outside_in_range (length c.args.p.now.vars) (is_plain_low (plain p)) (λ y. (control_obligation p v y).refusal)
    c.args.low.now c.requires.low (class_term v.class) (term c.in-When.e) (ap (λ k. class_term (view.class k)) c.in-When.is)
    c.requires.range c.in-Some.c c.in-Some.ensures

pub returns-in-Some : goal.returns-in-Some
returns-in-Some c =
    let p = view.program c.args.p.now in
    let v = view.var c.args.var.now in
    rw (c.refused.ensures, c.var_name.ensures)
    (vars_refused (length c.args.p.now.vars) (is_plain_low (plain p)) (λ y. (control_obligation p v y).refusal)
    c.args.low.now c.requires.low (class_term v.class) (term c.in-When.e) (ap (λ k. class_term (view.class k)) c.in-When.is)
    c.requires.range c.in-Some.c c.in-Some.ensures)
