use Rattle.std.proofs.Common.{◌<◌, length}
use Rattle.cov_expr.specs.Words.{HasVarsBelow}
use Rattle.cov_ast.specs.Plain.{plain}
use Rattle.cov_ast.specs.View as view
use Rattle.cov_ast.proofs.WellFormedLaws.{seen_item}
use Rattle.point_law.specs.Point.{is_tracked}
use Rattle.typing_rules.proofs.StateLaws.{type_refused, type_more}
use Rattle.typing_rules.proofs.types.check_types.Goals as goal

pub check_type-requires-clause-variable : goal.check_type-requires-clause-variable
check_type-requires-clause-variable c =
    let n = length c.args.p.now.vars in
    (seen_item view.typed (λ t. (t.0 < n) × HasVarsBelow t.1 n) c.args.types.now c.loop-i.i c.index-types-i.result c.requires c.loop-i-test.true c.index-types-i.is).0

pub check_type-requires-clause-range : goal.check_type-requires-clause-range
check_type-requires-clause-range c =
    let n = length c.args.p.now.vars in
    (seen_item view.typed (λ t. (t.0 < n) × HasVarsBelow t.1 n) c.args.types.now c.loop-i.i c.index-types-i.result c.requires c.loop-i-test.true c.index-types-i.is).1

pub returns-in-Err : goal.returns-in-Err
returns-in-Err c a kept =
    let p = plain (view.program c.args.p.now) in
    let site = c.args.site in
    let r = c.index-types-i.result in
    type_refused view.typed c.args.types.now c.loop-i.i r c.loop-i-test.true c.index-types-i.is p site.thread site.place (is_tracked p site.thread a.held) a.held
    c.has_type-named.result c.has_type-named.ensures (c.loop-i.invariant a kept) c.in-Err.fault (c.in-Err.ensures a kept)

pub loop-i-preserved : goal.loop-i-preserved
loop-i-preserved c a kept =
    let p = plain (view.program c.args.p.now) in
    let site = c.args.site in
    let r = c.index-types-i.result in
    type_more view.typed c.args.types.now c.loop-i.i r c.loop-i-test.true c.index-types-i.is p site.thread site.place (is_tracked p site.thread a.held) a.held
    c.has_type-named.result c.has_type-named.ensures (c.loop-i.invariant a kept) (c.in_default.ensures a kept)
