use Rattle.std.proofs.Common.{◌∙◌, refl, not, nat_le, subst, sym}
use Rattle.std.specs.List.{count_by}
use Rattle.std.proofs.lemmas.List.{length-map}
use Rattle.cov_expr.specs.Trees.{occurrences}
use Rattle.cov_expr.specs.View.{term}
use Rattle.cov_expr.specs.Words.{HasVarsBelow}
use Rattle.cov_ast.specs.Plain.{plain}
use Rattle.cov_ast.specs.View as view
use Rattle.cov_ast.specs.declared.refusal.Detail.TheVariants.{Nothing}
use Rattle.cov_ast.specs.declared.refusal.Rule.TheVariants.{V3}
use Rattle.mode_state.specs.Sets.{is_stable}
use Rattle.typing_rules.proofs.GuardLaws.{few_tells, same_test}
use Rattle.typing_rules.proofs.evaluation.check_one_unstable.Goals as goal

pub returns : goal.returns
returns c held modes =
    let p = plain (view.program c.args.p.now) in
    let site = c.args.site in
    let unstable = count_by (λ x. not (is_stable p site.thread held x)) (occurrences (term c.args.e.now)) in
    same_test site.thread site.place V3 Nothing Nothing c.is_some-few.result (nat_le unstable 1) c.require_at.result refl
    (c.is_some-few.ensures ∙ few_tells c.unstable_left.result unstable 1 (c.unstable_left.ensures p site.thread held modes
    (subst (HasVarsBelow (term c.args.e.now)) (sym (length-map c.args.p.now.vars view.var)) c.requires))) c.require_at.ensures
