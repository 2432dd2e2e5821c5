-- When an expression holds, and when expressions entail one.
use Rattle.std.specs.Prelude.{◌≢◌, ℕ, List, [], ◌∷◌}
use Rattle.cov_expr.specs.Term.{Term, value}
use Rattle.cov_expr.specs.Words.{AreWords}

-- The expression holds in the memory: its value isn't 0.
abbrev pub Holds : Term → List ℕ → Type 0
Holds e m = value e m ≢ 0

abbrev pub AllHold : List Term → List ℕ → Type 0
AllHold [] m = Unit {0}
AllHold (e ∷ es) m = Holds e m × AllHold es m

-- In every memory in which the hypotheses hold, the goal holds.
abbrev pub Entails : List Term → Term → Type 0
Entails hypotheses goal = (m : List ℕ) → AreWords m → AllHold hypotheses m → Holds goal m
