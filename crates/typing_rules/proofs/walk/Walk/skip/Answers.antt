use Rattle.std.proofs.Common.{[], ◌++◌, map, refl, sym, subst}
use Rattle.std.proofs.lemmas.List.{append-nil}
use Rattle.cov_ast.specs.Obligations.{Decides}
use Rattle.cov_ast.specs.Syntax.{skip}
use Rattle.cov_ast.specs.View as view
use Rattle.typing_law.specs.ThreadObligations.{numbers}
use Rattle.typing_law.proofs.Counting.{count_own}
use Rattle.typing_rules.specs.Keeping.{looked_at}
use Rattle.typing_rules.specs.Inside.Walking.{Walks, plain_of}
use Rattle.typing_rules.proofs.walk.Walk.skip.Goals as goal

pub returns : goal.returns
returns c kept a k =
    let w = c.args.self.now in
    let p = plain_of w in
    let proofs = map view.proof c.args.proofs.now in
    let obligations = numbers p w.thread c.args.at 0 proofs in
    subst (λ n. Walks w.purpose p w.thread (obligations ++ []) [] a n kept kept c.finish.result) (sym (count_own p w.thread c.args.at proofs a skip [] refl))
    (c.finish.ensures w.purpose p w.thread (obligations ++ []) a kept k
    (subst (λ o. Decides (looked_at w.purpose o) c.check_given.result) (sym (append-nil obligations)) (rw c.site.ensures at c.check_given.ensures)))
