use Rattle.std.proofs.Common.{◌≡◌, drop}
use Rattle.cov_ast.specs.View as view
use Rattle.cov_ast.specs.Tables.{with_all}
use Rattle.cov_ast.specs.Obligations.{first_false}
use Rattle.lock_spec.specs.Inside.{marked_obligations}
use Rattle.lock_spec.proofs.locks.check_list.Given as goal

abbrev pub invariant-loop-x : goal.invariant-loop-x
invariant-loop-x l = record {
  first : first_false (marked_obligations (view.program l.p) (view.lock l.lock) l.seen (drop l.x-index l.list))
      ≡ first_false (marked_obligations (view.program l.p) (view.lock l.lock) l.fn.seen l.list);
  seen : with_all l.seen (drop l.x-index l.list) ≡ with_all l.fn.seen l.list;
}
