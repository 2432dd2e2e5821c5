use Rattle.std.proofs.Common.{◌≡◌, ◌<◌, ℕ, false}
use Rattle.cov_ast.specs.View as view
use Rattle.cov_ast.specs.Plain.{plain}
use Rattle.cov_ast.specs.Declarations.{under}
use Rattle.lock_spec.proofs.locks.under.Given as goal

abbrev pub invariant-loop-l : goal.invariant-loop-l
invariant-loop-l l = (k : ℕ) → k < l.l → under (plain (view.program l.p)) k l.x ≡ false
