use Rattle.std.proofs.Common.{ap, ◌∙◌, subst}
use Rattle.std.proofs.lemmas.List.{map_more}
use Rattle.cov_ast.specs.View as view
use Rattle.source_machine.specs.Inside.Stacks.{Starts}
use Rattle.source_machine.proofs.SourceLaws.{all_start_more}
use Rattle.source_machine.proofs.source.start_threads.Goals as goal

pub loop-decl-preserved : goal.loop-decl-preserved
loop-decl-preserved c =
    let started = subst (λ b. Starts (view.block b) c.in_ok-start.field-0) (c.as_slice.ensures ∙ ap (λ d. d.body) c.decl-item.is) c.in_ok-start.ensures in
    rw (map_more (λ d. view.block d.body) c.args.decls.now c.loop-decl.decl-index c.decl-item.result c.loop-decl-test.true, c.in_ok-push.ensures.items)
    (all_start_more _ _ _ _ c.loop-decl.invariant started)
