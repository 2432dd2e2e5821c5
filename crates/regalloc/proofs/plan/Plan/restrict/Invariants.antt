use Rattle.std.proofs.Common.{◌≡◌, ℕ, ◌++◌, List, Bool, length, take, drop}
use Rattle.cov_ast.specs.Plain.{Plain}
use Rattle.mode_state.specs.Sets.{modes_at, is_stable}
use Rattle.regalloc.specs.Plan.{restrict}
use Rattle.regalloc.specs.Stable.{KeepsBelow}
use Rattle.regalloc.proofs.plan.Plan.restrict.Given as goal

abbrev pub invariant-loop-r : goal.invariant-loop-r
invariant-loop-r l = record {
  long : length l.self-inside.kept ≡ 8;
  walked : (p : Plain) (t : ℕ) (held : List Bool) → l.m ≡ modes_at p t held → KeepsBelow (length p.vars) l.initial.self-inside.kept
      → l.self-inside.kept ≡ restrict (is_stable p t held) (take l.r l.initial.self-inside.kept) ++ drop l.r l.initial.self-inside.kept;
}
