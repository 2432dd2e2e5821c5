use Rattle.std.proofs.Common.{◌++◌, ◌∙◌, map}
use Rattle.std.proofs.lemmas.Result.{on_ok_weaker}
use Rattle.cov_ast.specs.View as view
use Rattle.mode_compat.specs.Compatible.{numbered}
use Rattle.statement_paths.specs.Paths.{step, way}
use Rattle.text_parts.specs.VariableNames.{variable_names}
use Rattle.typing_points.specs.Traces.{plain_of}
use Rattle.typing_trace.specs.KnownLines.{known_behind}
use Rattle.typing_trace.specs.PointLines.{asked_lines, ends_of, head_lines}
use Rattle.typing_trace.proofs.Pieces.{four_pieces}
use Rattle.typing_trace.proofs.points.add_way.Goals as goal

pub returns : goal.returns
returns c =
    let w = c.args.trace.now in
    let p = view.program w.program.now in
    let bytes = c.args.bytes.now in
    let at = c.args.at in
    let to = way c.args.way.now in
    let names = variable_names p.vars in
    on_ok_weaker c.add_asked.result
    (λ is. four_pieces c.args.text.now c.add_head.new.text c.add_known_behind.new.text c.add_ends.new.text c.add_asked.new.text
    (head_lines bytes (numbered p w.thread).name at) (known_behind (plain_of w) w.thread names bytes to.steps)
    (ends_of (plain_of w) w.thread names bytes to.steps at to.stm) (asked_lines (plain_of w) w.thread to.steps to.stm)
    c.in_ok-add_head.ensures
    (c.in_ok-add_known_behind.ensures
    ∙ (λ i. c.add_head.new.text ++ known_behind (plain_of w) w.thread (c.in_ok-names.ensures i) bytes (map step (c.as_slice-steps.ensures i))))
    (c.in_ok-add_ends.ensures
    ∙ (λ i. c.add_known_behind.new.text ++ ends_of (plain_of w) w.thread (c.in_ok-names.ensures i) bytes (map step (c.as_slice-steps.ensures i)) at to.stm))
    (is ∙ (λ i. c.add_ends.new.text ++ asked_lines (plain_of w) w.thread (map step (c.as_slice-steps.ensures i)) to.stm)))
    c.add_asked.ensures
