use Rattle.std.proofs.Common.{◌≡◌, ◌<◌, ◌∙◌, ℕ, [], length, get_or, sym, ap, subst, arith, below_more, Err}
use Rattle.std.proofs.lemmas.List.{get_or_read}
use Rattle.cov_ast.specs.Obligations.{Decides}
use Rattle.cov_ast.specs.Syntax.{Program}
use Rattle.cov_ast.specs.declared.refusal.CheckFault.{CheckFault}
use Rattle.cov_ast.specs.declared.refusal.CheckFault.TheVariants as faults
use Rattle.cov_ast.specs.View as view
use Rattle.typing_law.specs.Accepted.{IsAccepted, program_obligations}
use Rattle.typing_law.specs.Verdicts.{counts}
use Rattle.levels.specs.Accepted.{DecidesForAll}
use Rattle.levels.specs.Inside.Alike.{IsShownBefore}
use Rattle.levels.specs.Inside.Refused.{as_refusal}
use Rattle.level_text.specs.Lattice.{Levels}
use Rattle.levels.specs.Order.{seen_by}
use Rattle.levels.specs.Projection.{shown, projected}
use Rattle.level_text.specs.Views as level_view
use Rattle.levels.proofs.CountLaws.{counts_same}
use Rattle.levels.proofs.OrderLaws.{rows_long}
use Rattle.levels.proofs.check.check_each.Goals as goal

pub overflow_cast-observer : goal.overflow_cast-observer
overflow_cast-observer c =
    let l = level_view.levels c.args.l.now in
    let long : length c.args.rows.now ≡ length l.names = ap length c.requires.rows ∙ rows_long _ l c.requires.levels in
    let few = c.requires.levels.few in
    omega (arith, c.loop-observer-test.true)

-- the refusal for an observer, where those before are accepted
refused_of : (l : Levels) (p : Program) (observer : ℕ) (fault : CheckFault) → observer < length l.names → ((other : ℕ) → other < observer → IsAccepted (projected l other p))
    → Decides (program_obligations (projected l observer p)) (Err fault) → DecidesForAll l p (Err (as_refusal observer fault))
refused_of l p observer (faults.Refused refusal) inside earlier h = record { level = inside; earlier = earlier; first = h }
refused_of l p observer faults.NoMemory inside earlier h = tt

pub returns-in-Err : goal.returns-in-Err
returns-in-Err c =
    let l = level_view.levels c.args.l.now in
    let p = view.program c.args.p.now in
    let o = c.loop-observer.observer in
    let long : length c.args.rows.now ≡ length l.names = ap length c.requires.rows ∙ rows_long _ l c.requires.levels in
    let inside : o < length c.args.rows.now = omega (arith, c.loop-observer-test.true) in
    let seen : c.index-rows-observer.result ≡ seen_by l o =
    get_or_read c.args.rows.now o c.index-rows-observer.result inside c.index-rows-observer.is [] ∙ ap (λ rs. get_or rs o []) c.requires.rows in
    subst (λ r. DecidesForAll l p (Err r)) (sym c.refused_for.ensures)
    (refused_of l p o c.in-Err.fault (omega arith) c.loop-observer.invariant.accepted (subst (λ s. Decides (program_obligations (shown s l p)) (Err c.in-Err.fault)) seen c.in-Err.ensures))

pub loop-observer-preserved : goal.loop-observer-preserved
loop-observer-preserved c =
    let l = level_view.levels c.args.l.now in
    let p = view.program c.args.p.now in
    let o = c.loop-observer.observer in
    let inside : o < length c.args.rows.now = omega (arith, c.loop-observer-test.true) in
    let seen : c.index-rows-observer.result ≡ seen_by l o =
    get_or_read c.args.rows.now o c.index-rows-observer.result inside c.index-rows-observer.is [] ∙ ap (λ rs. get_or rs o []) c.requires.rows in
    let accepted : IsAccepted (projected l o p) = subst (λ s. IsAccepted (shown s l p)) seen c.in-Ok.ensures.0 in
    let counted : c.in-Ok.counted ≡ counts (projected l o p) = subst (λ s. c.in-Ok.counted ≡ counts (shown s l p)) seen c.in-Ok.ensures.1 in
    record {
      accepted = below_more (λ (other : ℕ). IsAccepted (projected l other p)) o c.loop-observer.invariant.accepted accepted;
      counted = below_more (λ (other : ℕ). c.in-Ok.counted ≡ counts (projected l other p)) o (λ other lt. counted ∙ counts_same l p o other) counted;
    }

pub returns : goal.returns
returns c =
    let l = level_view.levels c.args.l.now in
    let long : length c.args.rows.now ≡ length l.names = ap length c.requires.rows ∙ rows_long _ l c.requires.levels in (
      λ observer lt. c.loop-observer.invariant.accepted observer (omega (arith, c.loop-observer-test.false)),
      λ observer lt. c.loop-observer.invariant.counted observer (omega (arith, c.loop-observer-test.false)),
    )

-- an observer who is shown what one before was
pub loop-observer-preserved-then-is_shown_before : goal.loop-observer-preserved-then-is_shown_before
loop-observer-preserved-then-is_shown_before c =
    let l = level_view.levels c.args.l.now in
    let p = view.program c.args.p.now in
    let o = c.loop-observer.observer in
    let (before, less, same) = subst (λ rows. IsShownBefore rows l p o) c.requires.rows (c.is_shown_before.ensures c.if-is_shown_before.true) in
    record {
      accepted = below_more (λ (other : ℕ). IsAccepted (projected l other p)) o c.loop-observer.invariant.accepted
          (subst IsAccepted same (c.loop-observer.invariant.accepted before less));
      counted = below_more (λ (other : ℕ). c.loop-observer.count ≡ counts (projected l other p)) o c.loop-observer.invariant.counted
          (c.loop-observer.invariant.counted before less ∙ ap counts same);
    }
