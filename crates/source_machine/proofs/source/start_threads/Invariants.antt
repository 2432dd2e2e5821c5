use Rattle.std.proofs.Common.{map, take}
use Rattle.cov_ast.specs.View as view
use Rattle.source_machine.specs.Inside.Stacks.{AllStart}
use Rattle.source_machine.proofs.source.start_threads.Given as goal

-- each thread so far stands in front of its body
abbrev pub invariant-loop-decl : goal.invariant-loop-decl
invariant-loop-decl l = AllStart (map (λ d. view.block d.body) (take l.decl-index l.decls)) l.threads.items
