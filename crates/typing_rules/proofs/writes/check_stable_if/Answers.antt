use Rattle.std.proofs.Common.{map, [], sym, subst, if◌then◌else◌}
use Rattle.cov_expr.specs.Trees.{vars}
use Rattle.cov_expr.specs.View.{term}
use Rattle.cov_ast.specs.Obligations.{Decides}
use Rattle.cov_ast.specs.Plain.{plain}
use Rattle.cov_ast.specs.View as view
use Rattle.cov_ast.specs.declared.refusal.Rule.TheVariants.{V5}
use Rattle.mode_state.specs.Sets.{is_stable}
use Rattle.typing_law.specs.ThreadObligations.{of_var}
use Rattle.typing_rules.proofs.GuardLaws.{over_vars}
use Rattle.typing_rules.proofs.writes.check_stable_if.Goals as goal

pub returns-then-control : goal.returns-then-control
returns-then-control c held modes =
    let p = plain (view.program c.args.p.now) in
    let site = c.args.site in
    let f = of_var p site.thread site.place V5 (is_stable p site.thread held) in
    let e = term c.args.e.now in
    let r = c.check_each_stable.result in
    subst (λ b. Decides (if b then map f (vars e) else []) r) (sym c.if-control.true) (over_vars f e r (c.check_each_stable.ensures held modes))
