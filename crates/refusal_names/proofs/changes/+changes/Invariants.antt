use Rattle.std.proofs.Common.{◌≡◌, drop}
use Rattle.std.specs.Option.{option_or}
use Rattle.cov_ast.specs.View as view
use Rattle.refusal_names.specs.LockChanges as spec
use Rattle.refusal_names.proofs.changes.+changes.Given as goal

-- what is found so far counts where none of the statements that are left changes the lock
abbrev pub invariant-last_change-loop-stmt : goal.invariant-last_change-loop-stmt
invariant-last_change-loop-stmt l =
    option_or (spec.last_change l.wanted (view.block (drop l.stmt-index l.body))) l.last ≡ spec.last_change l.wanted (view.block l.body)
