use Rattle.std.proofs.Common.{◌≡◌, ◌<◌, ◌&&◌, [], ◌∷◌, ◌++◌, length, map, false, None, ap, ◌∙◌, arith}
use Rattle.std.specs.List.{list_all}
use Rattle.std.proofs.lemmas.List.{length-map}
use Rattle.cov_expr.specs.View.{term}
use Rattle.cov_ast.specs.View as view
use Rattle.cov_ast.specs.declared.refusal.CheckFault.TheVariants.{Refused}
use Rattle.cov_ast.specs.declared.refusal.Rule.TheVariants.{V16}
use Rattle.cov_ast.specs.declared.refusal.Detail.TheVariants.{Nothing}
use Rattle.point_law.specs.After.{after_assign}
use Rattle.point_law.specs.Point.{ty, has_small_types}
use Rattle.typing_law.specs.Entailments.{assign_entailments, is_small_entailment}
use Rattle.typing_law.specs.ThreadObligations.{obligation, few_preds, small_terms, thread_obligation}
use Rattle.typing_rules.specs.Inside.Walking.{plain_of, value_parts}
use Rattle.typing_rules.proofs.LargeTypes.{large_type, large_value}
use Rattle.typing_rules.proofs.Parts.{part_refused, parts_refused}
use Rattle.typing_law.proofs.VerdictLaws.{obligation_refused}
use Rattle.typing_rules.proofs.walk.Walk.refuse_large.Goals as goal

pub returns-in-Ok : goal.returns-in-Ok
returns-in-Ok c a k many =
    let w = c.args.self.now in
    let p = plain_of w in
    let t = w.thread in
    let at = c.args.at in
    let x = c.args.x in
    let e = term c.args.e.now in
    let retypes = map view.retype c.args.retypes.now in
    let after = after_assign p t a x e (ty p t a e) retypes in
    let gs = assign_entailments p t a x e None retypes in
    let inside : x < length p.vars = omega (arith, length-map w.program.now.vars view.var, c.requires.range.0) in
    let small = list_all is_small_entailment gs && list_all has_small_types (after ∷ []) in
    let large : small ≡ false = large_value p t a x e retypes k.point inside (large_type p t a e many) in
    part_refused (value_parts p t at a x e (ty p t a e) retypes ++ few_preds p t at (after ∷ []) ∷ []) (small_terms p t at gs (after ∷ []))
    [] c.refused_at.result
    (c.in-Ok.ensures a k)
    (obligation_refused (obligation p t at V16 Nothing small) c.refused_at.result large
    (c.refused_at.ensures ∙ ap (λ s. Refused (thread_obligation s.thread s.place V16 Nothing false).refusal) c.site.ensures))

pub returns-in-Err : goal.returns-in-Err
returns-in-Err c a k many =
    let w = c.args.self.now in
    let p = plain_of w in
    let t = w.thread in
    let at = c.args.at in
    let x = c.args.x in
    let e = term c.args.e.now in
    let retypes = map view.retype c.args.retypes.now in
    let after = after_assign p t a x e (ty p t a e) retypes in
    let gs = assign_entailments p t a x e None retypes in
    parts_refused (value_parts p t at a x e (ty p t a e) retypes ++ few_preds p t at (after ∷ []) ∷ [])
    (small_terms p t at gs (after ∷ []) ∷ []) c.in-Err.fault
    (c.in-Err.ensures a k)
