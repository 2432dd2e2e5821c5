use Rattle.std.proofs.Common.{◌++◌, ◌∙◌, ap, codes}
use Rattle.std.proofs.lemmas.Result.{on_ok_weaker}
use Rattle.call_reports.specs.Reports.{counted}
use Rattle.explain.proofs.LevelLaws.{parts_of_five}
use Rattle.explain.proofs.observers.add_levels_line.Goals as goal

pub returns : goal.returns
returns c =
    let old = c.args.text.now in
    let totals = c.args.totals.now in
    let head = codes "levels: " in
    let observers = counted c.args.observers (codes " observers, ") in
    let threads = counted totals.threads (codes " threads, ") in
    let statements = counted totals.statements (codes " statements, ") in
    let entailments = counted totals.entailments (codes " entailments\n") in
    on_ok_weaker c.add_counted-4.result
    (λ is. is
    ∙ ap (λ t. t ++ entailments) (c.in_ok-add_counted-3.ensures
    ∙ ap (λ t. t ++ statements) (c.in_ok-add_counted-2.ensures
    ∙ ap (λ t. t ++ threads) (c.in_ok-add_counted.ensures ∙ ap (λ t. t ++ observers) c.in_ok-extend_from_slice.ensures.ok)))
    ∙ parts_of_five old head observers threads statements entailments)
    c.add_counted-4.ensures
