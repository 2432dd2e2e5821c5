use Rattle.std.proofs.Common.{◌≡◌, ◌++◌, ◌∷◌, [], ◌∙◌, ap, map}
use Rattle.std.proofs.lemmas.List.{map-append}
use Rattle.std.proofs.lemmas.List.Elements.{All-push, All-same}
use Rattle.cov_ast.specs.View as view
use Rattle.thread_swap.specs.Replacements.{IsReplacement}
use Rattle.covern_cases.proofs.replaced.thousand.Goals as goal

pub loop-preserved : goal.loop-preserved
loop-preserved c =
    let p = view.program c.args.program.now in
    let made = c.loop.threads in
    let d = c.in_ok-thread.thread in
    let pushed : map view.thread c.push.new.self ≡ map view.thread made ++ view.thread d ∷ [] =
    ap (map view.thread) c.in_ok-push.ensures.ok ∙ map-append view.thread made (d ∷ []) in
    All-same (IsReplacement p) (map view.thread c.push.new.self) (map view.thread made ++ view.thread d ∷ []) pushed
    (All-push (IsReplacement p) (map view.thread made) (view.thread d) c.loop.invariant c.in_ok-thread.ensures)
