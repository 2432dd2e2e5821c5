-- Records of registers along a run of code: what is kept for a thread stays true while others run.
use Rattle.std.specs.Prelude.{◌≢◌, ℕ, List, ◌++◌, length, All}
use Rattle.cov_expr.specs.Words.{IsMemory, IsSchedule}
use Rattle.cov_ast.specs.Plain.{Plain}
use Rattle.flow_model.specs.Holdings.{IsStableNow}
use Rattle.regalloc.specs.Plan.{Plan}
use Rattle.regalloc.specs.TrueRecord.{IsTrueRecord}
use Rattle.compiled_code.specs.Matches.{AreRegisters}
use Rattle.risc_machine.specs.Machine.{CodeState, code_after, row_of}
use Rattle.risc_machine.specs.declared.parts.Parts.{Parts}

-- The record of a plan is true for a thread at a state: what the plan keeps is stable for the thread under the holders of the
-- locks, and the thread's registers have the words of the memory.
abbrev pub IsTrueAt : Plain → CodeState → (t : ℕ) → Plan → Type 0
IsTrueAt p s t plan = IsTrueRecord (IsStableNow p s.holders t) plan (row_of s t) s.memory

-- Whatever state a run reaches, and whichever plan is true for a thread there: it is true after any further steps of other
-- threads.
abbrev pub KeepsRecords : Plain → Parts → Type 0
KeepsRecords p c =
    (m : List ℕ) (rows : List (List ℕ)) (schedule further : List ℕ) → IsMemory (length p.vars) m → AreRegisters (length p.threads) rows
    → IsSchedule (length p.threads) schedule → IsSchedule (length p.threads) further
    → (t : ℕ) → All (λ u. u ≢ t) further
    → (plan : Plan) → IsTrueAt p (code_after c m rows schedule) t plan → IsTrueAt p (code_after c m rows (schedule ++ further)) t plan
