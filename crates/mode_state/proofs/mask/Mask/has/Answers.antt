use Rattle.std.proofs.Common.{◌∙◌, ap, sym}
use Rattle.cov_ast.specs.Tables.{has}
use Rattle.cov_ast.proofs.TableLaws.{table_at}
use Rattle.mode_state.specs.Bits.{in_words}
use Rattle.mode_state.proofs.MaskLaws.{lt_past}
use Rattle.mode_state.proofs.mask.Mask.has.Goals as goal

pub returns-then-x-self : goal.returns-then-x-self
returns-then-x-self c =
    let s = c.self.inside in
    c.has_bit.ensures ∙ sym (table_at s.bound (in_words s.words) c.args.x c.if-x-self.true) ∙ ap (λ v. has v c.args.x) c.self.view_is

pub returns-else-x-self : goal.returns-else-x-self
returns-else-x-self c =
    let s = c.self.inside in lt_past s.bound (in_words s.words) c.args.x c.if-x-self.false ∙ ap (λ v. has v c.args.x) c.self.view_is
