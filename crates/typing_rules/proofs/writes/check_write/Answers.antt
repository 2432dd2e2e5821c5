use Rattle.std.proofs.Common.{◌<◌, [], ◌∷◌, length, map, arith, subst}
use Rattle.std.proofs.lemmas.List.{length-map}
use Rattle.cov_ast.specs.Obligations.{Decides}
use Rattle.cov_ast.specs.Plain.{plain}
use Rattle.cov_ast.specs.View as view
use Rattle.cov_ast.specs.declared.refusal.Rule.TheVariants.{V2}
use Rattle.cov_ast.specs.declared.refusal.Detail.TheVariants.{One}
use Rattle.mode_state.specs.Sets.{may_write}
use Rattle.typing_law.specs.ThreadObligations.{thread_obligation}
use Rattle.typing_rules.proofs.writes.check_write.Goals as goal

pub returns : goal.returns
returns c held modes =
    let p = plain (view.program c.args.p.now) in
    let site = c.args.site in
    let x = c.args.x in
    let inside : x < length (map view.var c.args.p.now.vars) = omega (arith, length-map c.args.p.now.vars view.var, c.requires) in
    subst (λ n. Decides (thread_obligation site.thread site.place V2 (One n) (may_write p site.thread held x) ∷ []) c.require_at.result) c.var_name-name.ensures
    (subst (λ b. Decides (thread_obligation site.thread site.place V2 (One c.var_name-name.result) b ∷ []) c.require_at.result)
    (c.may_write.ensures p site.thread held modes inside) c.require_at.ensures)
