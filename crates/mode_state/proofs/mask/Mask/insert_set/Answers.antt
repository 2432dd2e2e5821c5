use Rattle.std.proofs.Common.{◌≡◌, ◌∙◌, ap, sym, length}
use Rattle.cov_ast.specs.Tables.{table}
use Rattle.cov_ast.proofs.TableLaws.{table_length}
use Rattle.mode_state.specs.Bits.{in_words}
use Rattle.mode_state.proofs.MaskLaws.{joined_anywhere, tables_joined}
use Rattle.mode_state.proofs.mask.Mask.insert_set.Goals as goal

pub returns-clause-length : goal.returns-clause-length
returns-clause-length c =
    let s = c.self.inside in
    table_length s.bound (in_words c.joined-self-inside.result) ∙ sym (table_length s.bound (in_words s.words)) ∙ ap length c.self.view_is

pub returns-clause-numbers : goal.returns-clause-numbers
returns-clause-numbers c =
    let s = c.self.inside in
    let o = c.other.inside in
    let new = table s.bound (in_words c.joined-self-inside.result) in
    let long : length new ≡ length c.args.self.now =
    table_length s.bound (in_words c.joined-self-inside.result) ∙ sym (table_length s.bound (in_words s.words)) ∙ ap length c.self.view_is in
    joined_anywhere c.args.self.now c.args.other.now new c.requires long
    (tables_joined s.bound o.bound (in_words s.words) (in_words o.words) (in_words c.joined-self-inside.result) c.args.self.now c.args.other.now c.self.invariant
    c.self.view_is c.other.view_is c.joined-self-inside.ensures)
