use Rattle.std.proofs.Common.{◌++◌, ◌∙◌, ap, map}
use Rattle.std.proofs.lemmas.Result.{on_ok_weaker}
use Rattle.cov_ast.specs.View as view
use Rattle.statement_paths.specs.Paths.{step}
use Rattle.typing_points.specs.Traces.{plain_of}
use Rattle.typing_trace.specs.KnownLines.{held_line, predicate_lines, type_lines}
use Rattle.typing_trace.proofs.Pieces.{three_pieces}
use Rattle.typing_trace.proofs.known.add_known.Goals as goal

pub returns : goal.returns
returns c =
    let w = c.args.trace.now in
    let p = view.program w.program.now in
    let names = c.args.names.now in
    on_ok_weaker c.add_types.result
    (λ h a k.
    three_pieces c.args.text.now c.add_held_line.new.text c.add_predicates.new.text c.add_types.new.text (held_line p.locks a.held)
    (predicate_lines (plain_of w) names c.args.bytes.now (map step c.args.steps.now) a.preds) (type_lines names a.types 0 p.vars)
    (c.in_ok-add_held_line.ensures a k) (c.in_ok-add_predicates.ensures a k)
    (h a k ∙ ap (λ vs. c.add_predicates.new.text ++ type_lines names a.types 0 (map view.var vs)) c.as_slice.ensures))
    c.add_types.ensures
