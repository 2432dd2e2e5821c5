use Rattle.std.proofs.Common.{◌++◌, false, map, flat_map, ap, ap₂, ◌∙◌}
use Rattle.cov_ast.specs.Plain.{plain}
use Rattle.cov_ast.specs.View as view
use Rattle.explain.specs.Inside.StatementWalks.{block_unreached}
use Rattle.explain.specs.Unused.{of_declarations}
use Rattle.explain.specs.Warnings.{of_count}
use Rattle.explain.proofs.UnreachedLaws.{threads_are}
use Rattle.explain.proofs.merged.of_program.Goals as goal

pub returns : goal.returns
returns c =
    let p = view.program c.args.program.now in
    let q = plain p in
    let first = of_count q.threads in
    let declared = of_declarations q in
    let none = c.in_ok-add_no_thread.ensures ∙ ap (λ ws. ws ++ first) c.new-found.ensures in
    let found = c.in_ok-extend_from_slice.ensures.ok ∙ ap₂ (λ us ws. us ++ ws) none (c.as_slice.ensures ∙ c.in_ok-declared.ensures) in
    c.in_ok-add_threads.ensures
    ∙ ap₂ (λ ws ts. ws ++ flat_map (λ t. block_unreached false t.body) (map view.thread ts)) found c.as_slice-2.ensures
    ∙ ap (λ ws. (first ++ declared) ++ ws) (threads_are p.threads)
