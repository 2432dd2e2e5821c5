-- The secure program: two runs that can't be told apart by who sees, after each step, the variables that are low then and
-- that no thread holds unreadable then, and all that was put out.
--
-- (A two-run property after Mantel, Sands and Sudbrock and COVERN. It is timing-sensitive in steps: the runs are compared
-- step for step under one schedule.)
use Rattle.std.specs.Prelude.{ℕ, List, length}
use Rattle.cov_expr.specs.Words.{IsMemory, IsSchedule}
use Rattle.cov_ast.specs.Plain.{Plain}
use Rattle.flow_model.specs.Source.{after}
use Rattle.flow_model.specs.Agreement.{AreFitStarts, StatesAgree}

-- From any two fit starts, with all locks free, under every schedule, the two runs agree. Each prefix of a schedule is a
-- schedule, so they agree after each step.
abbrev pub IsSecure : Plain → Type 0
IsSecure p =
    (m1 m2 : List ℕ) → IsMemory (length p.vars) m1 → IsMemory (length p.vars) m2 → AreFitStarts p m1 m2
    → (schedule : List ℕ) → IsSchedule (length p.threads) schedule
    → StatesAgree p (after p m1 schedule) (after p m2 schedule)
