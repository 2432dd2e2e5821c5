use Rattle.std.proofs.Common.{ap, sym, ◌∙◌, arith, is_some}
use Rattle.explain.specs.HiddenText as spec
use Rattle.explain.proofs.HiddenLaws.{count_none, count_one}
use Rattle.explain.proofs.hidden.count_from.Goals as goal
use Rattle.explain.proofs.hidden.count_from.Goals.{then-is_some, else-is_some}

pub loop-i-preserved : goal.loop-i-preserved
loop-i-preserved c =
    let bs = c.args.bytes.now in
    let i = c.loop-i.i in
    let test = sym (ap is_some (c.at_front.ensures ∙ ap spec.at_front c.rest_from.ensures)) ∙ sym c.is_some.ensures in
    elim c.if-is_some.branch [
      | then-is_some w ↦
          let step = count_one bs i c.loop-i-test.true (test ∙ w.if-is_some.true) in
          (omega (arith, step, w.count-is, c.loop-i.invariant.0), omega (arith, w.count-is, c.loop-i.invariant.1))
      | else-is_some w ↦
          let step = count_none bs i c.loop-i-test.true (test ∙ w.if-is_some.false) in
          (omega (arith, step, w.count-is, c.loop-i.invariant.0), omega (arith, w.count-is, c.loop-i.invariant.1))
    ]
