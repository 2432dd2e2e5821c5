use Rattle.watch.proofs.Memories.{memory_of}
use Rattle.watch.proofs.watch.Watch.hits.Goals as goal

pub ask-requires : goal.ask-requires
ask-requires g c = c.args.self.now.callable c.args.m (memory_of c.args.m.now c.args.self.now.words c.requires c.type_inv.m)

pub returns : goal.returns
returns g c = c.args.self.now.answers c.args.m c.ask.result (memory_of c.args.m.now c.args.self.now.words c.requires c.type_inv.m) c.ask.ensures
