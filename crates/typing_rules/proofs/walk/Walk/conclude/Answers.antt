use Rattle.std.proofs.Common.{◌≡◌, ◌+◌, [], ◌∷◌, ◌++◌, suc, map, sym, ◌∙◌, subst, arith, Ok, Err}
use Rattle.std.proofs.Math.Bool.{and-true}
use Rattle.cov_ast.specs.Obligations.{Decides}
use Rattle.cov_ast.specs.View as view
use Rattle.point_law.specs.Point.{has_small_types}
use Rattle.typing_law.specs.ThreadObligations.{flat, numbers, proved}
use Rattle.typing_rules.specs.Keeping.{looked_at}
use Rattle.typing_rules.specs.Inside.Walking.{last_parts, plain_of}
use Rattle.typing_rules.proofs.Concluding.{all_tried, concludes, cut_back, last_asks, last_silent, last_stops, looked_front}
use Rattle.typing_rules.proofs.walk.Walk.conclude.Goals as goal

pub returns-in-Ok : goal.returns-in-Ok
returns-in-Ok c b k asked gs start count counted others front marked tries sum total =
    let w = c.args.self.now in
    let p = plain_of w in
    let t = w.thread in
    let u = w.purpose in
    let at = c.args.at in
    let n = suc c.args.before in
    let proofs = map view.proof c.args.proofs.now in
    let rest = flat (last_parts p t at proofs n count gs (b ∷ [])) in
    let tail = proved p t at proofs n gs ++ (numbers p t at count proofs ++ []) in
    let last = c.check_last-last.ensures gs (b ∷ []) count start c.args.kept.now tries (c.has_small_types.ensures p t b k ∙ sym (and-true (has_small_types b))) sum in
    let held =
    subst (λ o. Decides o (Ok tt)) (sym (looked_front u asked rest others))
    (subst (λ r. Decides (asked ++ looked_at u rest) r) c.in-Ok.is (c.both.ensures asked (looked_at u rest) front (λ _. last))) in
    let all = all_tried u p t at proofs n gs (b ∷ []) asked tail others start c.args.kept.now c.args.tried tries held in (
      concludes u p t at proofs n gs (b ∷ []) asked tail others start c.args.kept.now c.args.tried tries held (last_asks p t at proofs n gs count),
      k,
      (let e : c.from.result + c.args.inside + c.from-in-Ok.result ≡ counted = omega (arith, all.0, total, c.from.ensures, c.from-in-Ok.ensures) in e),
    )

pub returns-in-Err : goal.returns-in-Err
returns-in-Err c b k asked gs start count counted others front marked tries sum total =
    let w = c.args.self.now in
    let p = plain_of w in
    let t = w.thread in
    let u = w.purpose in
    let at = c.args.at in
    let n = suc c.args.before in
    let proofs = map view.proof c.args.proofs.now in
    let rest = flat (last_parts p t at proofs n count gs (b ∷ [])) in
    let tail = proved p t at proofs n gs ++ (numbers p t at count proofs ++ []) in
    let last = c.check_last-last.ensures gs (b ∷ []) count start c.args.kept.now tries (c.has_small_types.ensures p t b k ∙ sym (and-true (has_small_types b))) sum in
    last_stops u p t at proofs n gs (b ∷ []) asked tail others (last_silent p t at proofs n count gs) start c.cut.new.kept
    (cut_back start c.args.kept.now c.cut.new.kept tries.added c.args.mark marked tries.grown c.cut.ensures) c.in-Err.fault
    (subst (λ o. Decides o (Err c.in-Err.fault)) (sym (looked_front u asked rest others))
    (subst (λ r. Decides (asked ++ looked_at u rest) r) c.in-Err.is (c.both.ensures asked (looked_at u rest) front (λ _. last))))
