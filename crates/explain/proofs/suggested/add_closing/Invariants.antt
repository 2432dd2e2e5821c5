use Rattle.std.proofs.Common.{◌≡◌, ◌++◌, drop, map}
use Rattle.cov_ast.specs.View as view
use Rattle.explain.specs.SuggestedTexts.{closing_comments, open_comments}
use Rattle.explain.proofs.suggested.add_closing.Given as goal

-- the comments so far, and those of what is left, are all of them
abbrev pub invariant-loop-entailment : goal.invariant-loop-entailment
invariant-loop-entailment l =
    l.text ++ open_comments (map view.thread l.threads) (drop l.entailment-index l.unproved)
    ≡ l.fn.text ++ closing_comments (map view.thread l.threads) l.refusal l.unproved
