use Rattle.std.proofs.Common.{◌≡◌, [], ◌∷◌, ◌++◌, ◌+◌, sym, suc, map, length, refl, arith, append_assoc, subst}
use Rattle.cov_ast.specs.View as view
use Rattle.point_law.specs.After.{meet}
use Rattle.typing_law.specs.Entailments.{state_follows}
use Rattle.typing_law.specs.ThreadEntailments.{placed_from}
use Rattle.typing_law.specs.ThreadObligations.{flat, same_locks, state_obligations}
use Rattle.typing_rules.specs.Inside.Walking.{Tries, Walks, last_parts, plain_of}
use Rattle.typing_rules.proofs.Others.{others_state}
use Rattle.typing_rules.proofs.Reaching.{others-append}
use Rattle.typing_rules.proofs.walk.Walk.join.Goals as goal

pub returns : goal.returns
returns c a k b kb =
    let w = c.args.self.now in
    let p = plain_of w in
    let t = w.thread in
    let at = c.args.at in
    let before = c.args.before in
    let j = view.state c.args.join.now in
    let proofs = map view.proof c.args.proofs.now in
    let gs = state_follows a j ++ state_follows b j in
    let count = before + length gs in
    let n : 1 + before ≡ suc before = omega arith in
    let tries = subst (λ n. Tries w.purpose at proofs n gs c.args.kept.now c.try_both.new.kept c.in_ok-tried.tried) n (c.in_ok-tried.ensures a k b kb) in
    let after = meet p t a j in
    let keeps = c.in_ok-after.ensures t a k in
    let same = same_locks p t at a.held b.held in
    let stated = state_obligations p t at a.held j in
    let counted = before + (c.args.yes.entailments + c.args.no.entailments) + length gs in
    subst (λ es. Walks w.purpose p t es (placed_from at (suc before) gs) after counted c.args.kept.now c.conclude.new.kept c.conclude.result)
    (append_assoc same stated (flat (last_parts p t at proofs (suc before) count gs (after ∷ []))))
    (c.conclude.ensures after keeps (same ++ stated) gs c.args.kept.now count counted (others-append same stated refl (others_state p t at a.held j)) (c.check_ends-met.ensures a k b kb) (sym c.len-mark.ensures) tries refl refl)
