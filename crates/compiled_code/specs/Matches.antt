-- Code that matches a program: step for step, each run of the code is a run of the source.
--
-- (After the coupling of Sison and Murray, with the schedule of the source run made explicit: each entry stands for as many
-- steps of the source as the line that it runs has weight.)
use Rattle.std.specs.Prelude.{◌≡◌, ℕ, ◌==◌, ◌≤◌, List, [], ◌∷◌, ◌++◌, length, map, None, All}
use Rattle.std.specs.List.{count_by}
use Rattle.cov_expr.specs.Words.{AreWords, IsMemory, IsSchedule}
use Rattle.cov_ast.specs.Plain.{Plain, plain}
use Rattle.cov_ast.specs.Syntax.{Program}
use Rattle.flow_model.specs.Source.{items_of, after}
use Rattle.risc_machine.specs.Faults.{thread_names}
use Rattle.risc_machine.specs.Machine.{CodeState, code_after, line_of, lines_of, lifted, lifted_from}
use Rattle.risc_machine.specs.declared.parts.Parts.{Parts}

-- eight words for each of so many threads
pub record AreRegisters (threads : ℕ) (rows : List (List ℕ)) : Type 0 where
  pub complete : length rows ≡ threads
  pub eight : All (λ row. (length row ≡ 8) × AreWords row) rows

-- how many entries of a schedule are of a thread
abbrev pub entries_of : (t : ℕ) → List ℕ → ℕ
entries_of t schedule = count_by (λ u. u == t) schedule

-- The thread is finished: it has no next line.
abbrev pub IsFinished : Parts → CodeState → (t : ℕ) → Type 0
IsFinished c s t = line_of c s t ≡ None

-- The version and the names are those of the program, in order.
pub record HasNamesOf (p : Program) (c : Parts) : Type 0 where
  pub version : c.version ≡ p.version
  pub vars : c.vars ≡ map (λ v. v.name) p.vars
  pub locks : c.locks ≡ map (λ l. l.name) p.locks
  pub threads : thread_names c.threads ≡ map (λ t. t.name) p.threads

-- A run of the code, and the run of the source under the lifted schedule:
--
-- - memory, holders and outputs are the same;
-- - a thread that is finished in the code has no item left;
-- - code doesn't spin: where a thread with n lines has n further entries and isn't finished after them, one of these or one
--   more stands for a step of the source;
-- - code ends: a thread that has no item left is finished after n further entries.
pub record MatchesAfter (p : Plain) (c : Parts) (m : List ℕ) (rows : List (List ℕ)) (schedule : List ℕ) : Type 0 where
  pub memory : (code_after c m rows schedule).memory ≡ (after p m (lifted c m rows schedule)).memory
  pub holders : (code_after c m rows schedule).holders ≡ (after p m (lifted c m rows schedule)).holders
  pub outputs : (code_after c m rows schedule).outputs ≡ (after p m (lifted c m rows schedule)).outputs
  pub ended : (t : ℕ) → IsFinished c (code_after c m rows schedule) t → items_of (after p m (lifted c m rows schedule)) t ≡ []
  pub progress : (t : ℕ) (further : List ℕ) → IsSchedule (length p.threads) further → entries_of t further ≡ length (lines_of c t)
      → ¬ IsFinished c (code_after c m rows (schedule ++ further)) t
      → 1 ≤ entries_of t (lifted_from c (code_after c m rows schedule) (further ++ t ∷ []))
  pub ends : (t : ℕ) (further : List ℕ) → IsSchedule (length p.threads) further → items_of (after p m (lifted c m rows schedule)) t ≡ []
      → length (lines_of c t) ≤ entries_of t further → IsFinished c (code_after c m rows (schedule ++ further)) t

-- The code matches the program: the names are the same, and each run matches, from every memory, whatever the registers have
-- at the start, and under every schedule.
pub record Matches (p : Program) (c : Parts) : Type 0 where
  pub names : HasNamesOf p c
  pub runs : (m : List ℕ) (rows : List (List ℕ)) (schedule : List ℕ) → IsMemory (length p.vars) m → AreRegisters (length p.threads) rows
      → IsSchedule (length p.threads) schedule → MatchesAfter (plain p) c m rows schedule
