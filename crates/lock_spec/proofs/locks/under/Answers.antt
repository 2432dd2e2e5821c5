use Rattle.std.proofs.Common.{◌∙◌, sym, ap, below_more}
use Rattle.std.proofs.lemmas.List.{get_or-map}
use Rattle.cov_ast.specs.View as view
use Rattle.cov_ast.specs.Declarations.{lists, no_lock}
use Rattle.lock_spec.proofs.locks.under.Goals as goal

pub loop-l-preserved : goal.loop-l-preserved
loop-l-preserved c =
    below_more _ _ c.loop-l.invariant
    (ap (λ k. lists k c.args.x)
    (get_or-map view.lock c.args.p.now.locks c.loop-l.l c.lock-item.result no_lock (rw c.as_slice-lock-items.ensures at c.loop-l-test.true)
    ∙ ap view.lock (sym (rw c.as_slice-lock-items.ensures at c.lock-item.is)))
    ∙ sym c.if-lists.ensures)
