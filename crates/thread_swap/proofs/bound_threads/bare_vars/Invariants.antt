use Rattle.std.proofs.Common.{◌≡◌, map, take}
use Rattle.cov_ast.specs.View as view
use Rattle.thread_swap.specs.Inside.Over.{bare_var}
use Rattle.thread_swap.proofs.bound_threads.bare_vars.Given as goal

abbrev pub invariant-loop-var : goal.invariant-loop-var
invariant-loop-var l = map view.var l.made ≡ map bare_var (map view.var (take l.var-index l.vars))
