use Rattle.std.proofs.Common.{ap, map, sym, subst, None, ◌≡◌}
use Rattle.cov_ast.specs.Obligations.{Decides, first_false}
use Rattle.cov_ast.specs.View as view
use Rattle.typing_law.specs.ThreadObligations.{numbers}
use Rattle.typing_rules.specs.Keeping.{looked_at}
use Rattle.typing_rules.specs.Inside.Walking.{plain_of}
use Rattle.typing_rules.proofs.Concluding.{numbers_silent}
use Rattle.typing_rules.proofs.walk.Walk.check_given.Goals as goal

pub returns-in-Judge : goal.returns-in-Judge
returns-in-Judge c =
    let w = c.args.self.now in
    let given = numbers (plain_of w) c.args.site.thread c.args.site.place c.args.count (map view.proof c.args.proofs.now) in
    subst (λ u. Decides (looked_at u given) c.check_numbers.result) (sym c.in-Judge.is) c.check_numbers.ensures

pub returns-in-Collect : goal.returns-in-Collect
returns-in-Collect c =
    let w = c.args.self.now in
    let proofs = map view.proof c.args.proofs.now in
    let given = numbers (plain_of w) c.args.site.thread c.args.site.place c.args.count proofs in
    subst (λ u. first_false (looked_at u given) ≡ None) (sym c.in-Collect.is)
    (ap first_false (numbers_silent (plain_of w) c.args.site.thread c.args.site.place proofs c.args.count))

pub returns-in-Search : goal.returns-in-Search
returns-in-Search c =
    let w = c.args.self.now in
    let proofs = map view.proof c.args.proofs.now in
    let given = numbers (plain_of w) c.args.site.thread c.args.site.place c.args.count proofs in
    subst (λ u. first_false (looked_at u given) ≡ None) (sym c.in-Search.is)
    (ap first_false (numbers_silent (plain_of w) c.args.site.thread c.args.site.place proofs c.args.count))
