use Rattle.std.proofs.Common.{◌++◌, ◌∙◌, All, ap, sym, subst, codes, length, map}
use Rattle.std.proofs.lemmas.Result.{on_ok_weaker}
use Rattle.cov_ast.specs.View as view
use Rattle.statement_paths.specs.Paths.{step}
use Rattle.typing_points.specs.Traces.{plain_of}
use Rattle.typing_trace.specs.KnownLines.{known_behind}
use Rattle.typing_trace.specs.PointLines.{end_words, steps_to}
use Rattle.typing_points.specs.PointsBehind.{IsStepInRange}
use Rattle.typing_trace.proofs.Pieces.{four_pieces}
use Rattle.typing_trace.proofs.Ranges.{end_in_range}
use Rattle.typing_trace.proofs.points.add_end.Goals as goal

pub add_known_behind-requires-clause-range : goal.add_known_behind-requires-clause-range
add_known_behind-requires-clause-range c =
    let p = c.args.trace.now.program.now in
    let steps = map step c.args.steps.now in
    let s = view.kind c.args.kind.now in
    subst (All (IsStepInRange (length p.vars) (length p.locks))) (sym (ap (map step) c.as_slice.ensures ∙ c.in_ok-further.ensures))
    (end_in_range (length p.vars) (length p.locks) steps c.args.end c.args.at s c.requires.range c.requires.statement)

pub returns : goal.returns
returns c =
    let w = c.args.trace.now in
    let old = c.args.text.now in
    let steps = map step c.args.steps.now ++ steps_to c.args.end c.args.at (view.kind c.args.kind.now) in
    let known = known_behind (plain_of w) w.thread c.args.names.now c.args.bytes.now steps in
    let same = ap (known_behind (plain_of w) w.thread c.args.names.now c.args.bytes.now) (ap (map step) c.as_slice.ensures ∙ c.in_ok-further.ensures) in
    on_ok_weaker c.add_known_behind.result
    (λ is. four_pieces old c.extend_from_slice.new.self c.extend_from_slice-2.new.self c.extend_from_slice-3.new.self c.add_known_behind.new.text
    (codes "  at the end of ") (end_words c.args.end) (codes ":\n") known
    c.in_ok-extend_from_slice.ensures.ok
    (c.in_ok-extend_from_slice-2.ensures.ok ∙ ap (λ b. c.extend_from_slice.new.self ++ b) (c.as_bytes.ensures.value ∙ c.end_words.ensures))
    c.in_ok-extend_from_slice-3.ensures.ok
    (is ∙ ap (λ k. c.extend_from_slice-3.new.self ++ k) same))
    c.add_known_behind.ensures
