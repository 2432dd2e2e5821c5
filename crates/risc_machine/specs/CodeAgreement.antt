-- When two states of code agree.
use Rattle.std.specs.Prelude.{◌≡◌, ℕ}
use Rattle.cov_ast.specs.Plain.{Plain}
use Rattle.flow_model.specs.Agreement.{Agree, Shared}
use Rattle.risc_machine.specs.Machine.{CodeState, position}

abbrev pub shared_of_code : CodeState → Shared
shared_of_code s = record { memory = s.memory; holders = s.holders; outputs = s.outputs }

-- The thread stands at the same position in two states.
abbrev pub HasSamePosition : (s1 s2 : CodeState) → ℕ → Type 0
HasSamePosition s1 s2 t = position s1 t ≡ position s2 t

-- The memories agree, the outputs are the same, and every thread stands at the same position. Registers aren't compared.
abbrev pub CodeStatesAgree : Plain → (s1 s2 : CodeState) → Type 0
CodeStatesAgree p s1 s2 = Agree shared_of_code HasSamePosition p s1 s2
