-- The RISC machine: states, steps, and runs under a schedule.
--
-- One schedule entry is one instruction of one thread. Memory and holders are shared; each thread has eight registers and a
-- position. (After the RISC machine of Sison and Murray.)
use Rattle.std.specs.Prelude.{ℕ, ◌+◌, List, [], ◌∷◌, ◌++◌, length, get_or, set, slice_get, map, replicate, Bool, false, is_some, not, if◌then◌else◌}
use Rattle.std.specs.Prelude.{Option, Some, None}
use Rattle.cov_expr.specs.Term.{apply, is_set}
use Rattle.flow_model.specs.Runs as runs
use Rattle.flow_model.specs.Source.{Holders, Outputs, holder, is_held_by}
use Rattle.flow_model.specs.declared.machine.Stepped.{Stepped}
use Rattle.flow_model.specs.declared.machine.Stepped.TheVariants as stepped
use Rattle.risc_machine.specs.declared.parts.Instr.{Instr}
use Rattle.risc_machine.specs.declared.parts.Instr.TheVariants.{Load, Store, Jump, Jz, Nop, MovC, MovR, Bin, Acquire, Release, Out}
use Rattle.risc_machine.specs.declared.parts.Line.{Line}
use Rattle.risc_machine.specs.declared.parts.Parts.{Parts}

-- a state: the memory, the holders, the outputs so far, and for each thread its registers and its position
pub record CodeState : Type 0 where
  pub memory : List ℕ
  pub holders : Holders
  pub outputs : Outputs
  pub registers : List (List ℕ)
  pub positions : List ℕ

abbrev pub row_of : CodeState → ℕ → List ℕ
row_of s t = get_or s.registers t []

-- the word of register `r` of thread `t`
abbrev pub register : CodeState → (t r : ℕ) → ℕ
register s t r = get_or (row_of s t) r 0

abbrev pub position : CodeState → ℕ → ℕ
position s t = get_or s.positions t 0

-- Steps --------------------------------------------------------------------------------------------------------

-- with a word in register `r` of thread `t`
abbrev pub with_register : CodeState → (t r word : ℕ) → CodeState
with_register s t r word = record s { registers = set s.registers t (set (row_of s t) r word) }

-- what an instruction of thread `t` does, but for its position
abbrev pub effect : CodeState → (t : ℕ) → Instr → CodeState
effect s t (Load r x) = with_register s t r (get_or s.memory x 0)
effect s t (Store x r) = record s { memory = set s.memory x (register s t r) }
effect s t (Jump i) = s
effect s t (Jz r i) = s
effect s t Nop = s
effect s t (MovC r k) = with_register s t r k
effect s t (MovR r q) = with_register s t r (register s t q)
effect s t (Bin op r q) = with_register s t r (apply op (register s t r) (register s t q))
effect s t (Acquire l) = record s { holders = set s.holders l (Some t) }
effect s t (Release l) = record s { holders = set s.holders l None }
effect s t (Out r) = record s { outputs = s.outputs ++ register s t r ∷ [] }

-- where thread `t` goes on
abbrev pub next_position : CodeState → (t : ℕ) → Instr → ℕ
next_position s t (Load r x) = position s t + 1
next_position s t (Store x r) = position s t + 1
next_position s t (Jump i) = i
next_position s t (Jz r i) = if is_set (register s t r) then position s t + 1 else i
next_position s t Nop = position s t + 1
next_position s t (MovC r k) = position s t + 1
next_position s t (MovR r q) = position s t + 1
next_position s t (Bin op r q) = position s t + 1
next_position s t (Acquire l) = position s t + 1
next_position s t (Release l) = position s t + 1
next_position s t (Out r) = position s t + 1

abbrev pub at_position : CodeState → (t i : ℕ) → CodeState
at_position s t i = record s { positions = set s.positions t i }

-- whether an instruction of thread `t` stays where it is: at a lock that is held by anybody, the thread too, or at the
-- release of a lock that the thread doesn't hold
abbrev pub code_stays : ℕ → Holders → Instr → Bool
code_stays t h (Load r x) = false
code_stays t h (Store x r) = false
code_stays t h (Jump i) = false
code_stays t h (Jz r i) = false
code_stays t h Nop = false
code_stays t h (MovC r k) = false
code_stays t h (MovR r q) = false
code_stays t h (Bin op r q) = false
code_stays t h (Acquire l) = is_some (holder h l)
code_stays t h (Release l) = not (is_held_by (holder h l) t)
code_stays t h (Out r) = false

abbrev pub after_instr : CodeState → (t : ℕ) → Instr → CodeState
after_instr s t i = if code_stays t s.holders i then s else at_position (effect s t i) t (next_position s t i)

abbrev pub lines_of : Parts → ℕ → List Line
lines_of p t = get_or (map (λ thread. thread.lines) p.threads) t []

-- the line that thread `t` runs next; none where its position is past the last, so that it is finished
abbrev pub line_of : Parts → CodeState → ℕ → Option Line
line_of p s t = slice_get (lines_of p t) (position s t)

abbrev pub after_line : CodeState → (t : ℕ) → Option Line → CodeState
after_line s t None = s
after_line s t (Some l) = after_instr s t l.instr

-- one step of thread t
abbrev pub code_step : Parts → CodeState → ℕ → CodeState
code_step p s t = after_line s t (line_of p s t)

abbrev pub instr_says : CodeState → (t : ℕ) → Instr → Stepped
instr_says s t i = if code_stays t s.holders i then stepped.Stayed else stepped.Moved

-- What a step says: a finished thread is idle, and a line stays where the definition says so.
abbrev pub line_says : CodeState → (t : ℕ) → Option Line → Stepped
line_says s t None = stepped.Idle
line_says s t (Some l) = instr_says s t l.instr

abbrev pub code_says : Parts → CodeState → ℕ → Stepped
code_says p s t = line_says s t (line_of p s t)

-- Runs ---------------------------------------------------------------------------------------------------------

-- the start from a memory and registers: all locks free, no outputs, and each thread in front of its first line
abbrev pub code_begin : Parts → List ℕ → List (List ℕ) → CodeState
code_begin p m rows = record {
  memory = m;
  holders = replicate (length p.locks) None;
  outputs = [];
  registers = rows;
  positions = replicate (length p.threads) 0;
}

-- the state after the steps of a schedule, in order
abbrev pub code_from : Parts → CodeState → List ℕ → CodeState
code_from p s schedule = runs.run_from (code_step p) s schedule

-- how many of them stay
abbrev pub code_stayed_from : Parts → CodeState → List ℕ → ℕ
code_stayed_from p s schedule = runs.stayed_from (code_step p) (code_says p) s schedule

-- the state after a schedule, from a memory and registers
abbrev pub code_after : Parts → List ℕ → List (List ℕ) → List ℕ → CodeState
code_after p m rows schedule = code_from p (code_begin p m rows) schedule

-- how many source steps a line stands for
abbrev pub weight_of : Option Line → ℕ
weight_of None = 0
weight_of (Some l) = l.weight

-- each entry as often as the weight of the line that it runs
abbrev pub lifted_from : Parts → CodeState → List ℕ → List ℕ
lifted_from p s [] = []
lifted_from p s (t ∷ ts) = replicate (weight_of (line_of p s t)) t ++ lifted_from p (code_step p s t) ts

-- the schedule of the source for which a schedule of the code stands
abbrev pub lifted : Parts → List ℕ → List (List ℕ) → List ℕ → List ℕ
lifted p m rows schedule = lifted_from p (code_begin p m rows) schedule
