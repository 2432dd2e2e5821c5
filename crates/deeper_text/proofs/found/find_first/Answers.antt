use Rattle.std.proofs.Common.{◌≡◌, ◌≤◌, IfOk, arith, length, map, subst, sym}
use Rattle.std.proofs.lemmas.List.{length-take-le, take_all}
use Rattle.cov_ast.specs.View as view
use Rattle.deeper_text.specs.DeeperText.{all_found}
use Rattle.deeper_text.specs.Inside.{found}
use Rattle.deeper_text.proofs.found.find_first.Goals as goal

pub slice_bounds-find_each-end : goal.slice_bounds-find_each-end
slice_bounds-find_each-end c = let many : 64 ≤ length c.args.left.now = omega (arith, c.if-left-le-MOST_TRIED.false) in sym (length-take-le 64 c.args.left.now many)

pub returns-then-left-le-MOST_TRIED : goal.returns-then-left-le-MOST_TRIED
returns-then-left-le-MOST_TRIED c =
    subst (λ os. IfOk c.find_each.result (λ made. map found made ≡ all_found (view.program c.args.p.now) os)) (sym (take_all 64 c.args.left.now c.if-left-le-MOST_TRIED.true))
    c.find_each.ensures
