use Rattle.entail_ring.proofs.Merging.{together_empty}
use Rattle.entail_ring.proofs.multiset.+add_together.Goals as goal

pub returns-in-empty-b : goal.returns-in-empty-b
returns-in-empty-b t c = rw (together_empty c.args.a.now c.args.b.now c.in-empty-b.len_below) c.add_all-in-empty-b.ensures
