use Rattle.std.proofs.Common.{◌≡◌, ◌++◌, drop, map, flat_map}
use Rattle.cov_ast.specs.Tables.{with_all}
use Rattle.cov_ast.specs.View as view
use Rattle.explain.proofs.uses.add_headers.Given as goal

-- what is added, with the rest, is all of it
abbrev pub invariant-loop-thread : goal.invariant-loop-thread
invariant-loop-thread l = record {
  read : with_all l.read (flat_map (λ t. t.modes.assume_hide) (map view.thread (drop l.thread-index l.threads))) ≡ with_all l.fn.read (flat_map (λ t. t.modes.assume_hide) (map view.thread l.threads));
  written : with_all l.written (flat_map (λ t. t.modes.assume_nowrite ++ t.modes.assume_hide) (map view.thread (drop l.thread-index l.threads)))
      ≡ with_all l.fn.written (flat_map (λ t. t.modes.assume_nowrite ++ t.modes.assume_hide) (map view.thread l.threads));
}
