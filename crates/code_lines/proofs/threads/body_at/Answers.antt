use Rattle.std.proofs.Common.{◌<◌, ◌∙◌, ap, get_or, subst}
use Rattle.cov_ast.specs.View as view
use Rattle.code_lines.proofs.BodyLaws.{body_there}
use Rattle.code_lines.proofs.threads.body_at.Goals as goal

pub returns-then-t-len : goal.returns-then-t-len
returns-then-t-len c =
    let d = c.index-as_slice-t.result in
    let t = c.args.t in
    ap view.block (c.as_slice-then-t-len.ensures ∙ ap (λ ts. (get_or ts t d).body) c.as_slice.ensures)
    ∙ body_there c.args.p.now.threads t d (subst (λ n. t < n) c.len.ensures c.if-t-len.true)
