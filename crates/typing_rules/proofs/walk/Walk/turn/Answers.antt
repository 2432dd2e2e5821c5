use Rattle.std.proofs.Common.{◌≡◌, ◌+◌, suc, map, length, refl, sym, arith, subst}
use Rattle.cov_ast.specs.View as view
use Rattle.typing_law.specs.Entailments.{state_follows}
use Rattle.typing_law.specs.ThreadObligations.{same_locks}
use Rattle.typing_rules.specs.Inside.Walking.{Tries, plain_of}
use Rattle.typing_rules.proofs.walk.Walk.turn.Goals as goal

pub returns : goal.returns
returns c a k b kb =
    let w = c.args.self.now in
    let p = plain_of w in
    let t = w.thread in
    let at = c.args.at in
    let before = c.args.before in
    let proofs = map view.proof c.args.proofs.now in
    let gs = state_follows a (view.state c.args.inv.now) in
    let count = before + length gs in
    let n : 1 + before ≡ suc before = omega arith in
    let tries = subst (λ n. Tries w.purpose at proofs n gs c.args.kept.now c.try_state.new.kept c.in_ok-tried.tried) n (c.in_ok-tried.ensures a k) in
    let same = same_locks p t at a.held b.held in
    let same_ok = (rw c.site.ensures at c.check_same_locks-same.ensures) a.held (c.modes.ensures p t a k) b.held (c.modes-2.ensures p t b kb) in
    c.conclude.ensures b kb same gs c.args.kept.now count (before + c.args.end.entailments + length gs) refl same_ok (sym c.len-mark.ensures) tries refl refl
