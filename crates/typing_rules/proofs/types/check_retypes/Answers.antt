use Rattle.std.proofs.Common.{◌≡◌, ◌<◌, ◌&&◌, Bool, Err, None, arith, length, not, subst}
use Rattle.std.proofs.lemmas.List.{length-map}
use Rattle.cov_expr.specs.Words.{HasVarsBelow}
use Rattle.cov_ast.specs.Declarations.{is_control}
use Rattle.cov_ast.specs.Obligations.{Decides, first_false}
use Rattle.cov_ast.specs.Plain.{plain}
use Rattle.cov_ast.specs.View as view
use Rattle.cov_ast.proofs.WellFormedLaws.{seen_item}
use Rattle.point_law.specs.Point.{is_tracked}
use Rattle.typing_rules.proofs.StateLaws.{one_type, type_refused, type_more}
use Rattle.typing_rules.proofs.types.check_retypes.Goals as goal

pub check_type-requires-clause-variable : goal.check_type-requires-clause-variable
check_type-requires-clause-variable c =
    let n = length c.args.p.now.vars in
    (seen_item view.retype (λ t. (t.0 < n) × HasVarsBelow t.1 n) c.args.retypes.now c.loop-i.i c.index-retypes-i.result c.requires.range c.loop-i-test.true c.index-retypes-i.is).0

pub check_type-requires-clause-range : goal.check_type-requires-clause-range
check_type-requires-clause-range c =
    let n = length c.args.p.now.vars in
    (seen_item view.retype (λ t. (t.0 < n) × HasVarsBelow t.1 n) c.args.retypes.now c.loop-i.i c.index-retypes-i.result c.requires.range c.loop-i-test.true c.index-retypes-i.is).1

pub returns-in-Err : goal.returns-in-Err
returns-in-Err c a kept =
    let p = plain (view.program c.args.p.now) in
    let site = c.args.site in
    let r = c.index-retypes-i.result in
    let inside : c.args.x < length p.vars = omega (arith, length-map c.args.p.now.vars view.var, c.requires.variable) in
    let control = c.is_control-control.ensures p site.thread a kept inside in
    let fit = λ (b : Bool). (b && is_tracked p site.thread a.held r.var) && not c.has_retype-named.result in
    type_refused view.retype c.args.retypes.now c.loop-i.i r c.loop-i-test.true c.index-retypes-i.is p site.thread site.place (λ z. is_control p c.args.x && is_tracked p site.thread a.held z) a.held
    c.has_retype-named.result c.has_retype-named.ensures (c.loop-i.invariant a kept) c.in-Err.fault
    (subst (λ b. Decides (one_type p site.thread site.place a.held (fit b) (view.retype r)) (Err c.in-Err.fault)) control (c.in-Err.ensures a kept))

pub loop-i-preserved : goal.loop-i-preserved
loop-i-preserved c a kept =
    let p = plain (view.program c.args.p.now) in
    let site = c.args.site in
    let r = c.index-retypes-i.result in
    let inside : c.args.x < length p.vars = omega (arith, length-map c.args.p.now.vars view.var, c.requires.variable) in
    let control = c.is_control-control.ensures p site.thread a kept inside in
    let fit = λ (b : Bool). (b && is_tracked p site.thread a.held r.var) && not c.has_retype-named.result in
    type_more view.retype c.args.retypes.now c.loop-i.i r c.loop-i-test.true c.index-retypes-i.is p site.thread site.place (λ z. is_control p c.args.x && is_tracked p site.thread a.held z) a.held
    c.has_retype-named.result c.has_retype-named.ensures (c.loop-i.invariant a kept)
    (subst (λ b. first_false (one_type p site.thread site.place a.held (fit b) (view.retype r)) ≡ None) control (c.in_default.ensures a kept))
