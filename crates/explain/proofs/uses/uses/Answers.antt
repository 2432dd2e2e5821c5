use Rattle.std.proofs.Common.{◌++◌, false, length, map, flat_map, replicate, ap, ap₂, ◌∙◌}
use Rattle.cov_ast.specs.Tables.{with_all}
use Rattle.cov_ast.specs.View as view
use Rattle.explain.specs.Inside.StatementWalks.{block_reads, block_writes}
use Rattle.explain.proofs.UseLaws.{read_table, written_table}
use Rattle.explain.proofs.uses.uses.Goals as goal

pub returns-clause-read : goal.returns-clause-read
returns-clause-read c =
    let p = c.args.program.now in
    c.add_threads.ensures.read
    ∙ ap₂ (λ m ts. with_all m (flat_map (λ t. block_reads t.body) (map view.thread ts)))
    (c.add_headers.ensures.read
    ∙ ap₂ (λ m ts. with_all m (flat_map (λ t. t.modes.assume_hide) (map view.thread ts)))
    (c.in_ok-read.ensures ∙ ap (λ n. replicate n false) c.len.ensures) c.as_slice.ensures) c.as_slice-2.ensures
    ∙ read_table (view.program p) (length p.vars)

pub returns-clause-written : goal.returns-clause-written
returns-clause-written c =
    let p = c.args.program.now in
    c.add_threads.ensures.written
    ∙ ap₂ (λ m ts. with_all m (flat_map (λ t. block_writes t.body) (map view.thread ts)))
    (c.add_headers.ensures.written
    ∙ ap₂ (λ m ts. with_all m (flat_map (λ t. t.modes.assume_nowrite ++ t.modes.assume_hide) (map view.thread ts)))
    (c.in_ok-written.ensures ∙ ap (λ n. replicate n false) c.len-2.ensures) c.as_slice.ensures) c.as_slice-2.ensures
    ∙ written_table (view.program p) (length p.vars)
