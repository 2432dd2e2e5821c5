-- How often code may load a variable: once for each time that it becomes stable, and once for each statement that reads it
-- where others may write it.
use Rattle.std.specs.Prelude.{ℕ, ◌+◌, ◌≤◌, ◌<◌, ◌==◌, not, ◌&&◌, ◌||◌, List, [], ◌∷◌, length, map, Bool, false, IsTrue, is_some, is_none, option_to_list}
use Rattle.std.specs.Option.{option_map_or, option_zip}
use Rattle.std.specs.List.{AllByRecursion, count_by, filter, flat_map}
use Rattle.cov_expr.specs.Term.{Term}
use Rattle.cov_expr.specs.Trees.{add_new, mentions, occurrences, width}
use Rattle.cov_ast.specs.Declarations.{assumes, thread_at, under}
use Rattle.cov_ast.specs.LocksAlong.{Located, located, no_locks}
use Rattle.cov_ast.specs.Plain.{Cmd, Cmds, Plain}
use Rattle.cov_ast.specs.Tables.{has}
use Rattle.mode_state.specs.Sets.{is_stable}
use Rattle.risc_machine.specs.Machine.{lines_of}
use Rattle.risc_machine.specs.declared.parts.Instr.{Instr}
use Rattle.risc_machine.specs.declared.parts.Instr.TheVariants.{Load, Store, Jump, Jz, Nop, MovC, MovR, Bin, Acquire, Release, Out}
use Rattle.risc_machine.specs.declared.parts.Line.{Line}
use Rattle.risc_machine.specs.declared.parts.Parts.{Parts}
use Rattle.statement_parts.specs.PlainParts.{parts}

abbrev pub is_load_of : (x : ℕ) → Instr → Bool
is_load_of x (Load r y) = y == x
is_load_of x (Store y r) = false
is_load_of x (Jump i) = false
is_load_of x (Jz r i) = false
is_load_of x Nop = false
is_load_of x (MovC r k) = false
is_load_of x (MovR r q) = false
is_load_of x (Bin op r q) = false
is_load_of x (Acquire l) = false
is_load_of x (Release l) = false
is_load_of x (Out r) = false

-- how many lines load a variable
abbrev pub loads_of : (x : ℕ) → List Line → ℕ
loads_of x lines = count_by (λ l. is_load_of x l.instr) lines

-- Statements -----------------------------------------------------------------------------------------------------

-- whether nothing is evaluated but what is assigned: it is no branch, no loop and no output
abbrev pub is_straight : Cmd → Bool
is_straight c = is_some (parts c).assigned || is_none (parts c).evaluated

-- whether it takes this lock
abbrev pub is_lock_of : (l : ℕ) → Cmd → Bool
is_lock_of l c = option_map_or (λ j. j == l) (parts c).taken false

-- an assignment, with the locks that are held before it
pub record Assignment : Type 0 where
  pub held : List Bool
  pub variable : ℕ
  pub value : Term

-- the assignment that a statement is, if it is one
abbrev pub assigned : (held : List Bool) → Cmd → List Assignment
assigned held c = map (λ a. record { held = held; variable = a.0; value = a.1 }) (option_to_list (option_zip (parts c).assigned (parts c).evaluated))

-- Bodies ---------------------------------------------------------------------------------------------------------

module _ (p : Plain) (body : Cmds) where
  -- the statements of a body, each with the locks that are held before it
  abbrev pub statements : List Located
  statements = located body (no_locks p)

  -- its assignments
  abbrev pub assignments : List Assignment
  assignments = flat_map (λ s. assigned s.held s.cmd) statements

  -- how often a lock is taken
  abbrev pub times_taken : (l : ℕ) → ℕ
  times_taken l = count_by (λ s. is_lock_of l s.cmd) statements

  -- how many assignments read a variable where a lock isn't held
  abbrev pub reads_without : (l x : ℕ) → ℕ
  reads_without l x = count_by (λ a. mentions a.value x && not (has a.held l)) assignments

module _ (p : Plain) (t : ℕ) (body : Cmds) where
  -- what assignments read or write where it is stable
  abbrev pub stable_uses : List ℕ
  stable_uses = flat_map (λ a. filter (is_stable p t a.held) (a.variable ∷ occurrences a.value)) (assignments p body)

  -- The bodies that the bound speaks of: straight, with narrow expressions, and with at most four distinct variables that are
  -- read or written where they are stable.
  pub record IsSmall : Type 0 where
    pub straight : AllByRecursion (λ s. IsTrue (is_straight s.cmd)) (statements p body)
    pub narrow : AllByRecursion (λ a. width a.value ≤ 3) (assignments p body)
    pub four : length (add_new [] stable_uses) ≤ 4

  -- A variable that the thread assumes is loaded once at most. One under a lock is loaded at most once for each time that the
  -- lock is taken, and for each assignment that reads it where the lock isn't held.
  pub record HasFewLoads (lines : List Line) : Type 0 where
    pub assumed : (x : ℕ) → IsTrue (assumes p t x) → loads_of x lines ≤ 1
    pub locked : (l x : ℕ) → IsTrue (under p l x) → loads_of x lines ≤ times_taken p body l + reads_without p body l x

-- The code of each thread with a small body has few loads.
abbrev pub MeetsLoadBound : Plain → Parts → Type 0
MeetsLoadBound p c = (t : ℕ) → t < length p.threads → IsSmall p t (thread_at p t).body → HasFewLoads p t (thread_at p t).body (lines_of c t)
