-- When the record of registers that a plan is holds of registers and memory. (After the register record of Sison and Murray.)
use Rattle.std.specs.Prelude.{◌≡◌, ℕ, List, get_or, Some, None}
use Rattle.regalloc.specs.Plan.{Plan}

-- Each variable that a register is kept for is stable, and the register has its word.
abbrev pub IsTrueRecord : (IsStable : ℕ → Type 0) → Plan → (registers memory : List ℕ) → Type 0
IsTrueRecord IsStable plan registers memory =
    (r x : ℕ) → get_or plan r None ≡ Some x → IsStable x × (get_or registers r 0 ≡ get_or memory x 0)
