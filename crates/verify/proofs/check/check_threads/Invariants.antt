use Rattle.std.proofs.Common.{◌≡◌, ◌*◌, ◌^◌, ◌≤◌, drop, take, sum_by}
use Rattle.std.specs.List.{flat_map}
use Rattle.cov_ast.specs.Obligations.{first_false}
use Rattle.cov_ast.specs.View as view
use Rattle.mode_compat.specs.Compatible.{threads_of}
use Rattle.typing_law.specs.Counts as thread
use Rattle.typing_law.specs.ThreadObligations.{thread_obligations}
use Rattle.verify.proofs.check.check_threads.Given as goal

-- what is left decides, and what is counted is that of the threads before, of which each has less than a bound
abbrev pub invariant-loop-t : goal.invariant-loop-t
invariant-loop-t l = record {
  decides : first_false (flat_map (thread_obligations (view.program l.p)) (drop l.t (threads_of (view.program l.p))))
      ≡ first_false (flat_map (thread_obligations (view.program l.p)) (threads_of (view.program l.p)));
  statements : l.count.statements ≡ sum_by (λ t. (thread.counts (view.program l.p) t).statements) (take l.t (threads_of (view.program l.p)));
  entailments : l.count.entailments ≡ sum_by (λ t. (thread.counts (view.program l.p) t).entailments) (take l.t (threads_of (view.program l.p)));
  few_statements : l.count.statements ≤ l.t * 2 ^ 21;
  few_entailments : l.count.entailments ≤ l.t * 2 ^ 31;
}
