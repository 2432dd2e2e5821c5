use Rattle.std.proofs.Common.{◌≡◌, ◌∙◌, ap, arith, rules, count_by, is_none, length, take}
use Rattle.regalloc.specs.Plan.{frees}
use Rattle.regalloc.proofs.PlanLaws.{frees_count}
use Rattle.regalloc.proofs.plan.Plan.free_count.Goals as goal

pub returns : goal.returns
returns c =
    let chain : c.count.result ≡ count_by is_none (take 7 c.self.inside.kept) = search rules in
    chain ∙ frees_count c.self.inside.kept (omega (arith, c.self.invariant)) ∙ ap (λ plan. length (frees plan)) c.self.view_is
