use Rattle.std.proofs.Common.{◌∙◌, sym, ap, map}
use Rattle.cov_grammar.specs.PlacedTrees.{stms}
use Rattle.cov_text.specs.Limits.{places, places_of}
use Rattle.cov_parse.specs.Inside.Measures.{counted}
use Rattle.cov_read.specs.StmtViews.{stmt}
use Rattle.cov_read.specs.DeclViews as views
use Rattle.cov_parse.proofs.LimitLaws.{lists_go, lists_past}
use Rattle.cov_parse.proofs.counts.count_threads.Goals as goal

pub returns-in-Past : goal.returns-in-Past
returns-in-Past c =
    lists_past (λ h. places_of h.body) views.thread c.args.threads.now c.loop-thread.thread-index c.thread-item.result _ c.loop-thread-test.true c.thread-item.is c.loop-thread.left c.in-Past.at
    (sym c.in-Past.is ∙ c.count_stmts.ensures ∙ ap (λ ss. counted c.loop-thread.left (places (stms (map stmt ss)))) c.as_slice.ensures)
    ∙ c.loop-thread.invariant

pub loop-thread-preserved : goal.loop-thread-preserved
loop-thread-preserved c =
    lists_go (λ h. places_of h.body) views.thread c.args.threads.now c.loop-thread.thread-index c.thread-item.result _ c.loop-thread-test.true c.thread-item.is c.loop-thread.left c.in-Left.n
    (sym c.in-Left.is ∙ c.count_stmts.ensures ∙ ap (λ ss. counted c.loop-thread.left (places (stms (map stmt ss)))) c.as_slice.ensures)
    ∙ c.loop-thread.invariant
