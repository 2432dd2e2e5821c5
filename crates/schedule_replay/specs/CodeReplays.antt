-- What replays of code leave and answer: what is said of every machine, at the RISC machine.
use Rattle.std.specs.Prelude.{ℕ, List}
use Rattle.cov_ast.specs.Plain.{Plain, plain}
use Rattle.cov_ast.specs.View as view
use Rattle.cov_ast.specs.declared.decl.Program.{Program}
use Rattle.flow_model.specs.FirstDifference as first
use Rattle.flow_model.specs.Runs as runs
use Rattle.flow_model.specs.declared.agreement.Differ.{Differ}
use Rattle.risc_machine.specs.CodeAgreement.{CodeStatesAgree, HasSamePosition, shared_of_code}
use Rattle.risc_machine.specs.Machine.{CodeState, code_step}
use Rattle.risc_machine.specs.declared.parts.Parts.{Parts}
use Rattle.schedule_replay.specs.Machines.{AreDeclaredBy, code_semantics}
use Rattle.schedule_replay.specs.declared.replays.Found.{Found}

-- The code has as many variables, locks and threads as the program.
abbrev pub DeclaresAsMany : Parts → Program → Type 0
DeclaresAsMany c p = AreDeclaredBy (code_semantics.declared c) p

-- Two runs of code agree after each step of the schedule. The start isn't looked at.
abbrev pub CodeAgreesThroughout : Plain → Parts → (s1 s2 : CodeState) → List ℕ → Type 0
CodeAgreesThroughout p c s1 s2 schedule = runs.AgreeThroughout (code_step c) (CodeStatesAgree p) s1 s2 schedule

-- On what two states differ: the first lock, else the first variable, else the outputs, else the first thread.
abbrev pub CodeDiffersIn : Plain → (s1 s2 : CodeState) → Differ → Type 0
CodeDiffersIn p s1 s2 d = first.DiffersIn shared_of_code HasSamePosition p s1 s2 d

-- It is the first step after which they don't agree, and what they differ in there.
abbrev pub IsFirstCodeStepApart : Program → Parts → (s1 s2 : CodeState) → List ℕ → Found → Type 0
IsFirstCodeStepApart p c s1 s2 schedule f =
    runs.IsFirstStepApart (code_step c) (CodeStatesAgree (plain (view.program p))) (CodeDiffersIn (plain (view.program p))) s1 s2 schedule f.step f.differ
