use Rattle.std.proofs.Common.{sym, ◌∙◌, arith}
use Rattle.source_machine.proofs.SourceLaws.{count, changes}
use Rattle.source_machine.proofs.source.Source.change.Goals as goal

pub index-requires : goal.index-requires
index-requires c =
    let k = count _ _ _ c.self.invariant in
    let h = rw (← c.self.view_is) at c.requires in
    omega arith

pub returns : goal.returns
returns c =
    let k = count _ _ _ c.self.invariant in
    let h = rw (← c.self.view_is) at c.requires in
    rw (← c.self.view_is) (c.change.ensures ∙ sym (changes _ _ _ c.self.invariant c.args.t c.index.result.now (omega arith) c.index.ensures))
