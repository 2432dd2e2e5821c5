use Rattle.std.proofs.Common.{map, refl, ap, ◌∙◌}
use Rattle.cov_ast.specs.Plain.{bare_thread}
use Rattle.cov_ast.specs.View as view
use Rattle.cov_ast.proofs.BareFormed.{bare_formed}
use Rattle.cov_ast.proofs.bare.plain.Goals as goal

pub returns-clause-formed : goal.returns-clause-formed
returns-clause-formed c fine =
    bare_formed (view.program c.args.program.now) c.args.program.now.version (map view.var c.in_ok-vars.vars) (map view.lock c.in_ok-locks.locks) (map view.thread c.in_ok-threads.threads)
    refl
    (c.in_ok-vars.ensures ∙ ap (map view.var) c.as_slice.ensures)
    (c.in_ok-locks.ensures ∙ ap (map view.lock) c.as_slice-2.ensures)
    (c.in_ok-threads.ensures ∙ ap (λ ts. map bare_thread (map view.thread ts)) c.as_slice-3.ensures)
    fine
