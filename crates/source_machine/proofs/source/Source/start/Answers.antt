use Rattle.std.proofs.Common.{replicate, ap, ◌∙◌, None}
use Rattle.source_machine.proofs.SourceLaws.{started, begins, bodies_small}
use Rattle.source_machine.proofs.source.Source.start.Goals as goal

pub start_threads-requires : goal.start_threads-requires
start_threads-requires c = rw c.as_slice.ensures (bodies_small c.args.p.now c.requires.formed)

pub invariant_of-result : goal.invariant_of-result
invariant_of-result c =
    started c.args.p.now _ c.in_ok-threads.threads.items c.requires.formed c.requires.memory
    (c.in_ok-holders.ensures ∙ ap (λ n. replicate n None) c.len.ensures) (rw c.as_slice.ensures at c.in_ok-threads.ensures)

pub returns-clause-run : goal.returns-clause-run
returns-clause-run c =
    begins c.args.p.now record { memory = c.args.memory; holders = c.in_ok-holders.holders; said = c.in_ok-said.said } c.in_ok-threads.threads.items
    (c.in_ok-holders.ensures ∙ ap (λ n. replicate n None) c.len.ensures) c.in_ok-said.ensures.items (rw c.as_slice.ensures at c.in_ok-threads.ensures)
