use Rattle.std.proofs.Common.{◌<◌, ◌≤◌, ◌∙◌, ℕ, Bool, not, sym, ap, map, option_map, get_or, set, length, None, [], arith}
use Rattle.std.proofs.lemmas.List.{length-map}
use Rattle.cov_expr.specs.View.{term}
use Rattle.cov_ast.specs.Plain.{plain}
use Rattle.cov_ast.specs.Tables.{has}
use Rattle.cov_ast.specs.View as view
use Rattle.point_law.specs.After.{locked_type}
use Rattle.point_law.proofs.Steps.{upto_none, upto_more}
use Rattle.typing_state.proofs.VariableLaws.{lists_long, unlisted_keeps}
use Rattle.typing_state.proofs.WalkLaws.{walked_to, walked_all}
use Rattle.typing_state.proofs.locks.lock_types.Goals as goal

pub loop-z-init : goal.loop-z-init
loop-z-init c t held modes variables = sym (upto_none (locked_type (plain (view.program c.args.p.now)) c.args.l) (map (option_map term) c.args.types.now))

pub loop-z-preserved : goal.loop-z-preserved
loop-z-preserved c t held modes variables =
    let p = plain (view.program c.args.p.now) in
    let l = c.args.l in
    let s = c.args.modes.now in
    let f = locked_type p l in
    let qs = map (option_map term) c.args.types.now in
    let now = map (option_map term) c.loop-z.types in
    let z = c.in-Some.z in
    let next = c.in-Some.ensures.next in
    let lock : l < length (map view.lock c.args.p.now.locks) = omega (arith, c.requires.lock, length-map c.args.p.now.locks view.lock) in
    let long = lists_long p t held s l modes lock in
    let declared : z < length c.args.p.now.vars = (let lt = next.0 in omega (arith, long, length-map c.args.p.now.vars view.var)) in
    let done : ℕ → Bool = λ k. not (has (get_or s.listed l []) k) in
    let kept =
    walked_to f qs now done c.loop-z.from (length (get_or s.listed l [])) (c.loop-z.invariant t held modes variables)
    (λ k lt same d. unlisted_keeps p t held s l k (get_or qs k None) modes lock (omega (arith, long)) d)
    z (next.0, next.1, λ k low high. ap not (next.3 k low high)) in
    c.in_ok-lock_type.ensures t held modes variables declared ∙ (λ i. set (kept i) z (f z (get_or (kept i) z None))) ∙ upto_more f qs z

pub returns : goal.returns
returns c t held modes variables small =
    let p = plain (view.program c.args.p.now) in
    let l = c.args.l in
    let s = c.args.modes.now in
    let qs = map (option_map term) c.args.types.now in
    let now = map (option_map term) c.loop-z.types in
    let none = c.in_default.ensures.next in
    let lock : l < length (map view.lock c.args.p.now.locks) = omega (arith, c.requires.lock, length-map c.args.p.now.locks view.lock) in
    let long = lists_long p t held s l modes lock in
    let done : ℕ → Bool = λ k. not (has (get_or s.listed l []) k) in
    let few : length qs ≤ length (get_or s.listed l []) =
    omega (arith, small, long, length-map c.args.types.now (option_map term), length-map c.args.p.now.vars view.var) in
    walked_all (locked_type p l) qs now done c.loop-z.from (length (get_or s.listed l [])) (c.loop-z.invariant t held modes variables)
    (λ k lt same d. unlisted_keeps p t held s l k (get_or qs k None) modes lock (omega (arith, long)) d) few (λ k low high. ap not (none k low high))
