use Rattle.std.proofs.Common.{ap, sym, ◌∙◌, arith, option_map}
use Rattle.cov_ast.specs.View as view
use Rattle.source_machine.proofs.SourceLaws.{count, place_is, done_is}
use Rattle.source_machine.proofs.source.Source.done.Goals as goal

pub index-requires : goal.index-requires
index-requires c =
    let k = count _ _ _ c.self.invariant in
    let h = rw (← c.self.view_is) at c.requires in
    omega arith

pub returns : goal.returns
returns c =
    let k = count _ _ _ c.self.invariant in
    let h = rw (← c.self.view_is) at c.requires in
    let e = place_is _ _ _ c.self.invariant c.args.t c.index.result.now (omega arith) c.index.ensures in
    rw (← c.self.view_is)
    (done_is (λ q. (q.0.now.at, view.kind q.0.now.kind)) c.first.result c.is_none.result _ c.is_none.ensures (e ∙ ap (option_map (λ s. s.0)) (sym c.first.ensures.stm)))
