use Rattle.std.proofs.Common.{ap, sym, ◌∙◌, arith, option_map}
use Rattle.source_machine.proofs.SourceLaws.{count, place_is}
use Rattle.source_machine.proofs.source.Source.place.Goals as goal

pub index-requires : goal.index-requires
index-requires c =
    let k = count _ _ _ c.self.invariant in
    let h = rw (← c.self.view_is) at c.requires in
    omega arith

pub returns-in-Some : goal.returns-in-Some
returns-in-Some c =
    let k = count _ _ _ c.self.invariant in
    let h = rw (← c.self.view_is) at c.requires in
    rw (← c.self.view_is) (ap (option_map (λ s. s.0)) c.in-Some.ensures.stm ∙ sym (place_is _ _ _ c.self.invariant c.args.t c.index.result.now (omega arith) c.index.ensures))

pub returns-in-None : goal.returns-in-None
returns-in-None c =
    let k = count _ _ _ c.self.invariant in
    let h = rw (← c.self.view_is) at c.requires in
    rw (← c.self.view_is) (ap (option_map (λ s. s.0)) c.in-None.ensures.stm ∙ sym (place_is _ _ _ c.self.invariant c.args.t c.index.result.now (omega arith) c.index.ensures))
