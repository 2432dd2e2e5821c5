use Rattle.mode_state.specs.Bits.{in_words}
use Rattle.mode_state.proofs.MaskLaws.{next_inside, next_past, next_none}
use Rattle.mode_state.proofs.mask.Mask.next_from.Goals as goal

pub returns-in-Some-clause-next : goal.returns-in-Some-clause-next
returns-in-Some-clause-next c =
    let s = c.self.inside in next_inside s.bound (in_words s.words) c.args.self.now c.self.view_is c.args.from c.in-Some.x c.in-Some.ensures c.if-x-self.true

pub returns-in_default-clause-next : goal.returns-in_default-clause-next
returns-in_default-clause-next c =
    let s = c.self.inside in next_past s.bound (in_words s.words) c.args.self.now c.self.view_is c.args.from c.in-Some.x c.in-Some.ensures c.if-x-self.false

pub returns-in_default-2-clause-next : goal.returns-in_default-2-clause-next
returns-in_default-2-clause-next c =
    let s = c.self.inside in next_none s.bound (in_words s.words) c.args.self.now c.self.view_is c.args.from c.self.invariant c.in_default.ensures
