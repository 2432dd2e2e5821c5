use Rattle.std.proofs.Common.{◌∙◌, rules}
use Rattle.mode_state.specs.Inside.{meet}
use Rattle.mode_state.proofs.LockSetLaws.{meets_is}
use Rattle.mode_state.proofs.lock_set.LockSet.meets.Goals as goal

pub returns : goal.returns
returns c =
    let a = c.self.inside in
    let b = c.other.inside in
    meets_is a.word b.word a.bound b.bound (search rules) (search rules) c.other.invariant.0 c.self.invariant.1 c.other.invariant.1
    ∙ (λ i. meet (c.self.view_is i) (c.other.view_is i))
