use Rattle.std.proofs.Common.{◌≡◌, ap, sym, ◌∙◌, subst, arith}
use Rattle.source_machine.specs.Inside.Sound.{IsSound}
use Rattle.source_machine.proofs.SourceLaws.{count, counts, alike_where}
use Rattle.source_machine.proofs.source.Source.same_list.Goals as goal

pub index-requires : goal.index-requires
index-requires c =
    let k = count _ _ _ c.self.invariant in
    let h = rw (← c.self.view_is) at c.requires.thread in
    omega arith

pub index-requires-2 : goal.index-requires-2
index-requires-2 c =
    let e : c.self.inside.program.now ≡ c.other.inside.program.now = ap (λ x. x.program) c.self.view_is ∙ c.requires.program ∙ sym (ap (λ x. x.program) c.other.view_is) in
    let b = subst (λ p. IsSound p c.other.inside.shared c.other.inside.threads.items) (sym e) c.other.invariant in
    let n = count _ _ _ c.self.invariant in
    let h = rw (← c.self.view_is) at c.requires.thread in
    let k = counts _ _ _ c.self.invariant _ _ b in omega arith

pub returns : goal.returns
returns c =
    let e : c.self.inside.program.now ≡ c.other.inside.program.now = ap (λ x. x.program) c.self.view_is ∙ c.requires.program ∙ sym (ap (λ x. x.program) c.other.view_is) in
    let b = subst (λ p. IsSound p c.other.inside.shared c.other.inside.threads.items) (sym e) c.other.invariant in
    let n = count _ _ _ c.self.invariant in
    let h = rw (← c.self.view_is) at c.requires.thread in
    rw (← c.self.view_is, ← c.other.view_is)
    (alike_where _ _ _ c.self.invariant _ _ b c.args.t c.index.result.now c.index-2.result.now (omega arith) c.index.ensures c.index-2.ensures _ c.stands_like.ensures)
