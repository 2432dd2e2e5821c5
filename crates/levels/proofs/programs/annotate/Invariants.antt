use Rattle.std.proofs.Common.{◌≡◌, ◌++◌, drop, map, take}
use Rattle.cov_ast.specs.Plain.{bare_thread}
use Rattle.cov_ast.specs.View as view
use Rattle.levels.specs.Projection.{marked_thread}
use Rattle.levels.proofs.programs.annotate.Given as goal

abbrev pub invariant-loop-t : goal.invariant-loop-t
invariant-loop-t l = record {
  made :
      take l.t (map view.thread l.threads) ++ map (marked_thread l.marks) (drop l.t (map view.thread l.annotated)) ≡ map (marked_thread l.marks) (map view.thread l.annotated);
  left : drop l.t (map view.thread l.threads) ≡ map bare_thread (drop l.t (map view.thread l.annotated));
}
