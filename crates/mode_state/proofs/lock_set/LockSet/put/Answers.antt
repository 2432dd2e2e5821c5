use Rattle.std.proofs.Common.{◌∙◌, ap, sym, ◌≤◌, arith, set}
use Rattle.mode_state.specs.Bits.{has_bit}
use Rattle.mode_state.proofs.MaskLaws.{table_put, put_past}
use Rattle.mode_state.proofs.lock_set.LockSet.put.Goals as goal

pub returns-then-l-self : goal.returns-then-l-self
returns-then-l-self c =
    let s = c.self.inside in
    let e = c.with_bit-self-inside.ensures in
    table_put s.bound (has_bit s.word) (has_bit c.with_bit-self-inside.result) c.args.l c.args.member (λ lt. e.at)
    (λ k lt ne. e.others k (let small : s.bound ≤ 64 = c.self.invariant.0 in omega arith) ne) ∙ ap (λ v. set v c.args.l c.args.member) c.self.view_is

pub returns-else-l-self : goal.returns-else-l-self
returns-else-l-self c =
    let s = c.self.inside in
    sym c.self.view_is ∙ put_past s.bound (has_bit s.word) c.args.l c.args.member c.if-l-self.false ∙ ap (λ v. set v c.args.l c.args.member) c.self.view_is
