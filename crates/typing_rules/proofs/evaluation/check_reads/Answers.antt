use Rattle.std.proofs.Common.{◌∙◌, ap, cond, length, subst, sym, None, Ok, Some}
use Rattle.std.proofs.lemmas.List.{length-map}
use Rattle.cov_expr.specs.View.{term}
use Rattle.cov_expr.specs.Words.{HasVarsBelow}
use Rattle.cov_ast.specs.Plain.{plain}
use Rattle.cov_ast.specs.View as view
use Rattle.cov_ast.specs.declared.refusal.Rule.TheVariants.{V1}
use Rattle.mode_state.specs.Sets.{may_read}
use Rattle.typing_law.specs.ThreadObligations.{of_var}
use Rattle.typing_rules.proofs.GuardLaws.{each_held, over_vars}
use Rattle.typing_rules.proofs.evaluation.check_reads.Goals as goal

pub returns-then-may_read_each : goal.returns-then-may_read_each
returns-then-may_read_each c held modes =
    let p = plain (view.program c.args.p.now) in
    let site = c.args.site in
    let f = of_var p site.thread site.place V1 (may_read p site.thread held) in
    let below : HasVarsBelow (term c.args.e.now) (length p.vars) = subst (HasVarsBelow (term c.args.e.now)) (sym (length-map c.args.p.now.vars view.var)) c.requires in
    over_vars f (term c.args.e.now) (Ok tt)
    (each_held f (may_read p site.thread held) (λ x h. ap (λ b. cond b None (Some (f x).refusal)) h) (term c.args.e.now)
    (sym (c.may_read_each.ensures p site.thread held modes below) ∙ c.if-may_read_each.true))

pub returns : goal.returns
returns c held modes =
    let p = plain (view.program c.args.p.now) in
    let site = c.args.site in
    over_vars (of_var p site.thread site.place V1 (may_read p site.thread held)) (term c.args.e.now) c.check_each_read.result (c.check_each_read.ensures held modes)
