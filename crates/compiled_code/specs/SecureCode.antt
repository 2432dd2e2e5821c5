-- The secure code: two runs of it from fit starts agree after each step, as those of a secure program do, and their threads
-- stand at the same positions.
use Rattle.std.specs.Prelude.{ℕ, List, length}
use Rattle.cov_expr.specs.Words.{IsMemory, IsSchedule}
use Rattle.cov_ast.specs.Plain.{Plain}
use Rattle.flow_model.specs.Agreement.{AreFitStarts}
use Rattle.compiled_code.specs.Matches.{AreRegisters}
use Rattle.risc_machine.specs.CodeAgreement.{CodeStatesAgree}
use Rattle.risc_machine.specs.Machine.{code_after}
use Rattle.risc_machine.specs.declared.parts.Parts.{Parts}

-- From any two fit starts, with any registers, under every schedule, the two runs agree. Each prefix of a schedule is a
-- schedule, so they agree after each step.
abbrev pub IsSecureCode : Plain → Parts → Type 0
IsSecureCode p c =
    (m1 m2 : List ℕ) → IsMemory (length p.vars) m1 → IsMemory (length p.vars) m2 → AreFitStarts p m1 m2
    → (rows1 rows2 : List (List ℕ)) → AreRegisters (length p.threads) rows1 → AreRegisters (length p.threads) rows2
    → (schedule : List ℕ) → IsSchedule (length p.threads) schedule
    → CodeStatesAgree p (code_after c m1 rows1 schedule) (code_after c m2 rows2 schedule)
