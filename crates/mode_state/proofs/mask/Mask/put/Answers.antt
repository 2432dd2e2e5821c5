use Rattle.std.proofs.Common.{◌∙◌, ap, sym, ◌<◌, ◌≤◌, arith, set}
use Rattle.mode_state.specs.Bits.{in_words}
use Rattle.mode_state.proofs.MaskLaws.{put_past, words_put}
use Rattle.mode_state.proofs.mask.Mask.put.Goals as goal

pub returns-then-x-self : goal.returns-then-x-self
returns-then-x-self c =
    let s = c.self.inside in
    let e = c.with_bit.ensures in
    let small : c.args.x < 256 = (let b : s.bound ≤ 256 = c.self.invariant in let lt : c.args.x < s.bound = c.if-x-self.true in omega arith) in
    words_put s.words c.self.told c.args.x small c.with_bit.result c.args.member e.at e.others s.bound
    ∙ ap (λ v. set v c.args.x c.args.member) c.self.view_is

pub returns-else-x-self : goal.returns-else-x-self
returns-else-x-self c =
    let s = c.self.inside in
    sym c.self.view_is ∙ put_past s.bound (in_words s.words) c.args.x c.args.member c.if-x-self.false ∙ ap (λ v. set v c.args.x c.args.member) c.self.view_is
