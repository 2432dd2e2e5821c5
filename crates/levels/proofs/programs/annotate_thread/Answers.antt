use Rattle.std.proofs.Common.{◌∙◌, ap}
use Rattle.cov_ast.specs.Syntax.{Thread}
use Rattle.cov_ast.specs.View as view
use Rattle.levels.specs.Projection.{marked_block}
use Rattle.levels.proofs.programs.annotate_thread.Goals as goal

pub returns : goal.returns
returns c =
    let marks = c.args.marks.now in
    let g = view.thread c.args.annotated.now in
    let new = c.in_ok-thread.field-0 in
    ap {B = Thread} (λ (s : Thread). record { name = s.name; at = s.at; modes = s.modes; body = view.block new; end = s.end }) c.requires
    ∙ ap {B = Thread} (λ b. record { name = g.name; at = g.at; modes = g.modes; body = b; end = g.end })
    (c.in_ok-thread.ensures ∙ ap (λ b. marked_block marks (view.block b)) c.as_slice.ensures)
