use Rattle.std.proofs.Common.{◌≡◌, drop, map}
use Rattle.cov_ast.specs.View as view
use Rattle.refusal_names.specs.MissingGuarantees.{thread_named}
use Rattle.refusal_names.proofs.guarantees.thread_named.Given as goal

-- the first of what is left is the first of all
abbrev pub invariant-loop-t : goal.invariant-loop-t
invariant-loop-t l = thread_named l.wanted (map view.thread (drop l.t-index l.threads)) ≡ thread_named l.wanted (map view.thread l.threads)
