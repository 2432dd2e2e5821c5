use Rattle.std.proofs.Common.{◌∙◌, ap, map, option_map}
use Rattle.cov_expr.specs.View.{term}
use Rattle.cov_ast.specs.Plain.{plain}
use Rattle.cov_ast.specs.View as view
use Rattle.point_law.specs.After.{retyped, listed_or, forgotten_type}
use Rattle.point_law.proofs.PointLaws.{retyped_twice}
use Rattle.typing_state.proofs.forget.retype.Goals as goal

pub returns : goal.returns
returns c t held modes variables small =
    let p = plain (view.program c.args.p.now) in
    let qs = map (option_map term) c.args.types.now in
    let retypes = map view.retype c.args.retypes.now in
    c.in_ok-put_retypes.ensures ∙ ap (retyped (listed_or retypes)) (c.in_ok-forget.ensures t held modes variables small tt)
    ∙ retyped_twice (listed_or retypes) (forgotten_type p t held c.args.x) qs
