use Rattle.std.proofs.Common.{map, refl}
use Rattle.annotate.specs.AnnotatedText.{part_of_new}
use Rattle.annotate.specs.Inside.Choosing.{lent_choice}
use Rattle.annotate.proofs.StatementUses.{new_goes_on, parts_end}
use Rattle.annotate.proofs.uses.Uses.add_new.Goals as goal

pub loop-choice-preserved : goal.loop-choice-preserved
loop-choice-preserved c =
    new_goes_on c.args.at c.args.chosen.now c.loop-choice.choice-index c.choice-item.result _ _ _ c.loop-choice-test.true c.choice-item.is c.loop-choice.invariant
    c.in_ok-cert.ensures

pub returns : goal.returns
returns c =
    parts_end (λ cs. map (part_of_new c.args.at) (map lent_choice cs)) c.args.chosen.now c.loop-choice.choice-index _ _ refl c.loop-choice-test.false c.loop-choice.invariant
