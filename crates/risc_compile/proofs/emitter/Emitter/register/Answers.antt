use Rattle.std.proofs.Common.{◌≡◌, ◌<◌, ap, sym, ◌∙◌, subst}
use Rattle.std.specs.Option.{unwrap_or}
use Rattle.std.proofs.lemmas.Option.{unwrap_or-slice_get}
use Rattle.regalloc.specs.Plan.{frees}
use Rattle.compiled_code.specs.Compiled.{part_register}
use Rattle.risc_compile.proofs.PlanLaws.{free_below}
use Rattle.risc_compile.proofs.emitter.Emitter.register.Goals as goal

pub returns-clause-part : goal.returns-clause-part
returns-clause-part c =
    c.unwrap_or.ensures ∙ ap (λ o. unwrap_or o 0) c.part.ensures.part ∙ unwrap_or-slice_get (frees c.args.self.now.plan) c.args.depth 0

pub returns-clause-small : goal.returns-clause-small
returns-clause-small c =
    let is : c.unwrap_or.result ≡ part_register c.args.self.now.plan c.args.depth =
    c.unwrap_or.ensures ∙ ap (λ o. unwrap_or o 0) c.part.ensures.part ∙ unwrap_or-slice_get (frees c.args.self.now.plan) c.args.depth 0 in
    subst (λ r. r < 8) (sym is) (free_below c.args.self.now.plan c.args.depth)
