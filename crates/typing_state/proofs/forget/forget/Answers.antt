use Rattle.std.proofs.Common.{◌≤◌, ◌∙◌, ℕ, Bool, subst, sym, map, option_map, get_or, set, length, None, arith}
use Rattle.std.proofs.lemmas.List.{length-map}
use Rattle.cov_expr.specs.View.{term}
use Rattle.cov_ast.specs.Plain.{plain}
use Rattle.cov_ast.specs.View as view
use Rattle.point_law.proofs.Steps.{upto_none, upto_more}
use Rattle.typing_state.specs.Inside.Forgotten.{IsInRange, is_passed, left}
use Rattle.typing_state.proofs.ForgetLaws.{left_passed}
use Rattle.typing_state.proofs.WalkLaws.{walked_to, walked_all}
use Rattle.typing_state.proofs.forget.forget.Goals as goal

pub loop-z-init : goal.loop-z-init
loop-z-init c t held modes variables fit = sym (upto_none (left (plain (view.program c.args.p.now)) t held c.args.which) (map (option_map term) c.args.types.now))

pub loop-z-preserved : goal.loop-z-preserved
loop-z-preserved c t held modes variables fit =
    let p = plain (view.program c.args.p.now) in
    let f = left p t held c.args.which in
    let qs = map (option_map term) c.args.types.now in
    let now = map (option_map term) c.loop-z.types in
    let z = c.in-Some.z in
    let range = subst (λ n. IsInRange n c.args.which) (sym (length-map c.args.p.now.locks view.lock)) c.requires.range in
    let done : ℕ → Bool = λ k. is_passed c.args.modes.now c.args.which k (get_or now k None) in
    let kept =
    walked_to f qs now done c.loop-z.from (length c.args.p.now.vars) (c.loop-z.invariant t held modes variables fit)
    (λ k lt same d. left_passed p t held c.args.modes.now c.args.which k qs now modes range (omega (arith, lt, length-map c.args.p.now.vars view.var)) fit same d)
    z c.in-Some.ensures in
    c.in_ok-forget_type.ensures t held modes variables ∙ (λ i. set (kept i) z (f z (get_or (kept i) z None))) ∙ upto_more f qs z

pub returns : goal.returns
returns c t held modes variables small fit =
    let p = plain (view.program c.args.p.now) in
    let qs = map (option_map term) c.args.types.now in
    let now = map (option_map term) c.loop-z.types in
    let count = length c.args.p.now.vars in
    let range = subst (λ n. IsInRange n c.args.which) (sym (length-map c.args.p.now.locks view.lock)) c.requires.range in
    let done : ℕ → Bool = λ k. is_passed c.args.modes.now c.args.which k (get_or now k None) in
    let few : length qs ≤ count = omega (arith, small, length-map c.args.types.now (option_map term)) in
    walked_all (left p t held c.args.which) qs now done c.loop-z.from count (c.loop-z.invariant t held modes variables fit)
    (λ k lt same d. left_passed p t held c.args.modes.now c.args.which k qs now modes range (omega (arith, lt, length-map c.args.p.now.vars view.var)) fit same d)
    few c.in_default.ensures
