use Rattle.std.proofs.Common.{◌++◌, refl, arith, map}
use Rattle.cov_ast.specs.View as view
use Rattle.typing_rules.specs.Inside.Walking.{asked_from}
use Rattle.typing_rules.specs.Keeping.{kept_for, view_kept}
use Rattle.typing_rules.specs.Listed.{entailments_of}
use Rattle.typing_rules.specs.declared.purpose.Purpose.TheVariants.{Search}
use Rattle.typing_rules.proofs.KeptLaws.{kept_all, kept_more}
use Rattle.typing_rules.proofs.searched.add_searched.Goals as goal

pub loop-entailment-init : goal.loop-entailment-init
loop-entailment-init c = record {
  counted = omega arith;
  kept = λ p t a kept. refl;
}

pub loop-entailment-preserved : goal.loop-entailment-preserved
loop-entailment-preserved c =
    let l = c.loop-entailment in
    let place = c.args.site.place in
    let proofs = map view.proof c.args.proofs.now in
    let xs = c.args.entailments.now in
    let u = Search c.args.depth in
    record {
      counted = omega (arith, l.invariant.counted);
      kept = λ p t a kept.
          kept_more u place proofs a.preds l.kept l.number xs l.entailment-index (map view_kept c.args.kept.now ++ kept_for u (asked_from place proofs c.args.from (entailments_of a.preds xs)))
          (l.invariant.kept p t a kept) c.add_unproved.new.kept c.entailment-item.result c.loop-entailment-test.true c.entailment-item.is
          (c.in_ok-add_unproved.ensures p t a kept);
    }

pub returns : goal.returns
returns c p t a kept =
    let l = c.loop-entailment in
    let place = c.args.site.place in
    let proofs = map view.proof c.args.proofs.now in
    let xs = c.args.entailments.now in
    let u = Search c.args.depth in
    kept_all u place proofs a.preds l.kept l.number xs l.entailment-index (map view_kept c.args.kept.now ++ kept_for u (asked_from place proofs c.args.from (entailments_of a.preds xs)))
    (l.invariant.kept p t a kept) c.loop-entailment-test.false
