use Rattle.std.proofs.Common.{◌∙◌, map, sym, arith}
use Rattle.cov_ast.specs.View as view
use Rattle.typing_rules.specs.Unproved as found
use Rattle.typing_rules.specs.Listed.{entailments_of}
use Rattle.typing_rules.proofs.UnprovedLaws.{unproved_end, unproved_here, unproved_later}
use Rattle.typing_rules.proofs.certificates.first_unproved.Goals as goal

pub returns-then-not-branch : goal.returns-then-not-branch
returns-then-not-branch c p t a kept =
    let proofs = map view.proof c.args.proofs.now in
    let l = c.loop-entailment in
    unproved_here proofs a.preds l.number c.args.entailments.now l.entailment-index c.entailment-item.result
    (found.first_unproved proofs c.args.from (entailments_of a.preds c.args.entailments.now)) c.loop-entailment-test.true c.entailment-item.is (l.invariant.kept p t a kept)
    (sym (c.in_ok-is_proved.ensures p t a kept) ∙ c.if-not-branch.true)

pub loop-entailment-preserved : goal.loop-entailment-preserved
loop-entailment-preserved c =
    let proofs = map view.proof c.args.proofs.now in
    let l = c.loop-entailment in
    record {
      counted = omega arith;
      kept = λ p t a kept.
          unproved_later proofs a.preds l.number c.args.entailments.now l.entailment-index c.entailment-item.result
          (found.first_unproved proofs c.args.from (entailments_of a.preds c.args.entailments.now)) c.loop-entailment-test.true c.entailment-item.is (l.invariant.kept p t a kept)
          (sym (c.in_ok-is_proved.ensures p t a kept) ∙ c.if-not-branch.false);
    }

pub returns : goal.returns
returns c p t a kept =
    let proofs = map view.proof c.args.proofs.now in
    let l = c.loop-entailment in
    unproved_end proofs a.preds l.number c.args.entailments.now l.entailment-index (found.first_unproved proofs c.args.from (entailments_of a.preds c.args.entailments.now))
    c.loop-entailment-test.false (l.invariant.kept p t a kept)
