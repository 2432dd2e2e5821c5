use Rattle.std.proofs.Common.{◌<◌, sym, ◌∙◌, subst}
use Rattle.std.proofs.lemmas.Option.{get_or_from_slice_get}
use Rattle.regalloc.specs.Plan.{frees}
use Rattle.risc_compile.proofs.PlanLaws.{free_below}
use Rattle.risc_compile.proofs.emitter.Emitter.fetch_variable.Goals as goal

pub keep-requires : goal.keep-requires
keep-requires c =
    let rs = frees c.args.self.now.plan in
    subst (λ r. r < 8) (get_or_from_slice_get rs c.args.parts c.in-Some.register 0 (sym c.part.ensures.part ∙ c.in-Some.is)) (free_below c.args.self.now.plan c.args.parts)
