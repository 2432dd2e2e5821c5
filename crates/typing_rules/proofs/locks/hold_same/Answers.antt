use Rattle.std.proofs.Common.{◌<◌, ◌∙◌, length, map, not, sym, arith}
use Rattle.std.proofs.Math.Bool.{beq}
use Rattle.std.proofs.lemmas.List.{length-map}
use Rattle.cov_ast.specs.Tables.{has}
use Rattle.cov_ast.specs.View as view
use Rattle.mode_state.proofs.HeldLaws.{all_from, not_all_from}
use Rattle.typing_law.specs.ThreadObligations.{agree}
use Rattle.typing_rules.proofs.StateLaws.{other_agree}
use Rattle.typing_rules.proofs.locks.hold_same.Goals as goal

pub returns-then-holds : goal.returns-then-holds
returns-then-holds c =
    let l = c.loop-l.l in
    let held = c.args.modes.now.held in
    let other = c.args.other.now.held in
    let locks = c.args.p.now.locks in
    let inside : l < length (map view.lock locks) = omega (arith, length-map locks view.lock, c.lock_count-l-end.ensures) in
    sym (not_all_from (λ k. agree (has held k) (has other k)) 0 (length (map view.lock locks)) l (omega arith) (omega arith)
    (other_agree (has held l) (has other l) ((λ i. not (beq (sym c.holds.ensures i) (sym c.holds-in-loop-l.ensures i))) ∙ c.if-holds.true)))

pub returns : goal.returns
returns c =
    let held = c.args.modes.now.held in
    let other = c.args.other.now.held in
    let locks = c.args.p.now.locks in
    sym (all_from (λ k. agree (has held k) (has other k)) 0 (length (map view.lock locks))
    (λ k lt. let inside : k < c.loop-l.l = omega (arith, length-map locks view.lock, c.lock_count-l-end.ensures) in c.loop-l.invariant k inside))
