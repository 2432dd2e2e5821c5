use Rattle.std.proofs.Common.{◌≡◌, drop}
use Rattle.cov_ast.specs.View as view
use Rattle.statement_paths.specs.LocksHeld as spec
use Rattle.statement_paths.proofs.walk.+blocks.Given as goal

-- the locks behind the statements that are left are those behind all
abbrev pub invariant-pass_block-loop-stmt : goal.invariant-pass_block-loop-stmt
invariant-pass_block-loop-stmt l =
    record l.modes { held = spec.held_at_end (view.block (drop l.stmt-index l.body)) l.modes.held }
    ≡ record l.fn.modes { held = spec.held_at_end (view.block l.body) l.fn.modes.held }
