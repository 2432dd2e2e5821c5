use Rattle.std.proofs.Common.{◌≡◌, ◌∙◌, length, sym}
use Rattle.std.proofs.lemmas.List.{length-map}
use Rattle.cov_ast.specs.View as view
use Rattle.level_text.specs.Views as level_view
use Rattle.levels.specs.Order.{seen_by}
use Rattle.levels.specs.Projection.{marked_thread, marks_of, projected}
use Rattle.explain.proofs.observers.totals_for.Goals as goal

pub returns : goal.returns
returns c =
    let l = level_view.levels c.args.l.now in
    let p = view.program c.args.program.now in
    let threads = c.args.program.now.threads in
    let as_many : length threads ≡ length (projected l 0 p).threads =
    sym (length-map threads view.thread) ∙ sym (length-map p.threads (marked_thread (marks_of (seen_by l 0) l p.vars))) in
    (λ i. record { threads = (c.len.ensures ∙ as_many) i; statements = (c.requires i).statements; entailments = (c.requires i).entailments })
