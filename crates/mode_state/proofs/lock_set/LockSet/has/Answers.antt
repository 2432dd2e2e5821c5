use Rattle.std.proofs.Common.{◌∙◌, ap, sym}
use Rattle.cov_ast.specs.Tables.{has}
use Rattle.cov_ast.proofs.TableLaws.{table_at}
use Rattle.mode_state.specs.Bits.{has_bit}
use Rattle.mode_state.proofs.MaskLaws.{lt_past}
use Rattle.mode_state.proofs.lock_set.LockSet.has.Goals as goal

pub returns-then-l-self : goal.returns-then-l-self
returns-then-l-self c =
    let s = c.self.inside in
    c.has_bit.ensures ∙ sym (table_at s.bound (has_bit s.word) c.args.l c.if-l-self.true) ∙ ap (λ v. has v c.args.l) c.self.view_is

pub returns-else-l-self : goal.returns-else-l-self
returns-else-l-self c =
    let s = c.self.inside in lt_past s.bound (has_bit s.word) c.args.l c.if-l-self.false ∙ ap (λ v. has v c.args.l) c.self.view_is
