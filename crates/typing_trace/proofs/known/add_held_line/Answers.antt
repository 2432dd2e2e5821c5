use Rattle.std.proofs.Common.{◌≡◌, ◌++◌, ◌∙◌, ap, append_assoc, codes, map}
use Rattle.std.proofs.lemmas.Result.{on_ok_weaker}
use Rattle.cov_ast.specs.View as view
use Rattle.refusal_names.specs.NameLines.{held_text}
use Rattle.typing_points.specs.Traces.{plain_of}
use Rattle.typing_trace.proofs.known.add_held_line.Goals as goal

pub returns : goal.returns
returns c =
    let w = c.args.trace.now in
    let old = c.args.text.now in
    let locks = map view.lock w.program.now.locks in
    let head = codes "  held:         " in
    let end = codes "\n" in
    let held = held_text (map view.lock c.as_slice.result.now) c.modes.result.now.held in
    let line = c.in_ok-add_held.ensures ∙ ap (λ s. s ++ held) c.in_ok-extend_from_slice.ensures.ok ∙ append_assoc old head held in
    on_ok_weaker c.extend_from_slice-2.result
    (λ is a k.
    let same : held ≡ held_text locks a.held
    = ap (λ ls. held_text (map view.lock ls) c.modes.result.now.held) c.as_slice.ensures ∙ ap (λ m. held_text locks m.held) (c.modes.ensures (plain_of w) w.thread a k) in
    is ∙ ap (λ s. s ++ end) (line ∙ ap (λ h. old ++ (head ++ h)) same) ∙ append_assoc old (head ++ held_text locks a.held) end)
    c.extend_from_slice-2.ensures.ok
