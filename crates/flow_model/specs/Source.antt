-- The source machine: states, steps, and runs under a schedule.
--
-- One schedule entry is one step of one thread. An assignment takes two steps, one that evaluates and one that stores,
-- and so does a guard, one that evaluates and one that branches, and an output, one that evaluates and one that puts out.
-- (After the While machine of Sison and Murray.)
use Rattle.std.specs.Prelude.{ℕ, ◌==◌, List, [], ◌∷◌, ◌++◌, length, get_or, set, map, replicate, Bool, true, false, is_some, not, if◌then◌else◌}
use Rattle.std.specs.Prelude.{Option, Some, None}
use Rattle.cov_expr.specs.Term.{value, is_set}
use Rattle.cov_ast.specs.Plain.{Cmd, skip, assign, lock, unlock, branch, loop, output, Cmds, none, next, ◌then_all◌, Plain}
use Rattle.flow_model.specs.Runs as runs
use Rattle.flow_model.specs.declared.machine.Stepped.{Stepped}
use Rattle.flow_model.specs.declared.machine.Stepped.TheVariants as stepped

-- What remains of a thread is a list of items: a statement, a store that is pending with its word, a test that is pending
-- with its word and the two ways on, or an output that is pending with its word. Each carries the place of its statement.
pub data Item : Type 0 where
  run : (at : ℕ) → Cmd → Item
  put : (at : ℕ) → (x : ℕ) → (word : ℕ) → Item
  test : (at : ℕ) → (word : ℕ) → (yes_block no_block : Cmds) → Item
  emit : (at : ℕ) → (word : ℕ) → Item

-- the holder of each lock, if it has one
abbrev pub Holders : Type 0
Holders = List (Option ℕ)

-- a lock that isn't declared has no holder
abbrev pub holder : Holders → ℕ → Option ℕ
holder h l = get_or h l None

abbrev pub is_held_by : Option ℕ → ℕ → Bool
is_held_by None t = false
is_held_by (Some u) t = u == t

-- the words that were put out, which every observer reads, the first in front
abbrev pub Outputs : Type 0
Outputs = List ℕ

-- the local configuration of a thread: the memory, the holders, the outputs, and its own items
pub record Local : Type 0 where
  pub memory : List ℕ
  pub holders : Holders
  pub outputs : Outputs
  pub items : List Item

abbrev pub local : List ℕ → Holders → Outputs → List Item → Local
local m h o items = record { memory = m; holders = h; outputs = o; items = items }

-- the global configuration, a state of the machine: the memory, the holders, the outputs, and the items of each thread
pub record Run : Type 0 where
  pub memory : List ℕ
  pub holders : Holders
  pub outputs : Outputs
  pub items : List (List Item)

-- Steps --------------------------------------------------------------------------------------------------------

-- statements as items, in front of others
abbrev pub items_then : Cmds → List Item → List Item
items_then none rest = rest
items_then (next at c cs) rest = run at c ∷ items_then cs rest

-- a free lock is taken; else the thread stays in front of the statement
abbrev pub after_lock : ℕ → List ℕ → Holders → Outputs → (at l : ℕ) → List Item → Option ℕ → Local
after_lock t m h o at l rest None = local m (set h l (Some t)) o rest
after_lock t m h o at l rest (Some u) = local m h o (run at (lock l) ∷ rest)

-- a lock that the thread holds is freed; else the thread stays
abbrev pub after_unlock : List ℕ → Holders → Outputs → (at l : ℕ) → List Item → Bool → Local
after_unlock m h o at l rest true = local m (set h l None) o rest
after_unlock m h o at l rest false = local m h o (run at (unlock l) ∷ rest)

abbrev pub after_cmd : ℕ → List ℕ → Holders → Outputs → (at : ℕ) → Cmd → List Item → Local
after_cmd t m h o at skip rest = local m h o rest
after_cmd t m h o at (assign x e) rest = local m h o (put at x (value e m) ∷ rest)
after_cmd t m h o at (lock l) rest = after_lock t m h o at l rest (holder h l)
after_cmd t m h o at (unlock l) rest = after_unlock m h o at l rest (is_held_by (holder h l) t)
after_cmd t m h o at (branch e a b) rest = local m h o (test at (value e m) a b ∷ rest)
after_cmd t m h o at (loop e b) rest = local m h o (test at (value e m) (◌then_all◌ b (next at (loop e b) none)) none ∷ rest)
after_cmd t m h o at (output e) rest = local m h o (emit at (value e m) ∷ rest)

abbrev pub after_item : ℕ → List ℕ → Holders → Outputs → Item → List Item → Local
after_item t m h o (run at c) rest = after_cmd t m h o at c rest
after_item t m h o (put at x word) rest = local (set m x word) h o rest
after_item t m h o (test at word yes_block no_block) rest = local m h o (items_then (if is_set word then yes_block else no_block) rest)
after_item t m h o (emit at word) rest = local m h (o ++ word ∷ []) rest

-- one step of thread t on what it sees; a finished thread changes nothing
abbrev pub turn : ℕ → List ℕ → Holders → Outputs → List Item → Local
turn t m h o [] = local m h o []
turn t m h o (i ∷ rest) = after_item t m h o i rest

abbrev pub items_of : Run → ℕ → List Item
items_of s t = get_or s.items t []

-- the place at which a thread stands, if anything remains of it
abbrev pub place_of : Item → ℕ
place_of (run at c) = at
place_of (put at x word) = at
place_of (test at word yes_block no_block) = at
place_of (emit at word) = at

abbrev pub first_place : List Item → Option ℕ
first_place [] = None
first_place (i ∷ is) = Some (place_of i)

abbrev pub put_back : Run → ℕ → Local → Run
put_back s t r = record { memory = r.memory; holders = r.holders; outputs = r.outputs; items = set s.items t r.items }

-- one step of thread t
abbrev pub step : Run → ℕ → Run
step s t = put_back s t (turn t s.memory s.holders s.outputs (items_of s t))

-- whether the next step of thread t stays where it is: at a lock that is held by anybody, the thread too, or at an
-- unlock of a lock that the thread doesn't hold
abbrev pub stays_at : ℕ → Holders → List Item → Bool
stays_at t h [] = false
stays_at t h (run at skip ∷ rest) = false
stays_at t h (run at (assign x e) ∷ rest) = false
stays_at t h (run at (lock l) ∷ rest) = is_some (holder h l)
stays_at t h (run at (unlock l) ∷ rest) = not (is_held_by (holder h l) t)
stays_at t h (run at (branch e a b) ∷ rest) = false
stays_at t h (run at (loop e b) ∷ rest) = false
stays_at t h (run at (output e) ∷ rest) = false
stays_at t h (put at x word ∷ rest) = false
stays_at t h (test at word a b ∷ rest) = false
stays_at t h (emit at word ∷ rest) = false

-- What a step says, by the items before it: a finished thread is idle, and one stays where the definition says so.
abbrev pub step_says : ℕ → Holders → List Item → Stepped
step_says t h [] = stepped.Idle
step_says t h (i ∷ is) = if stays_at t h (i ∷ is) then stepped.Stayed else stepped.Moved

abbrev pub says : Run → ℕ → Stepped
says s t = step_says t s.holders (items_of s t)

-- Runs ---------------------------------------------------------------------------------------------------------

-- the start: all locks free, nothing put out, and the whole body of each thread
abbrev pub begin : Plain → List ℕ → Run
begin p m = record { memory = m; holders = replicate (length p.locks) None; outputs = []; items = map (λ t. items_then t.body []) p.threads }

-- the state after the steps of a schedule, in order
abbrev pub run_from : Run → List ℕ → Run
run_from s schedule = runs.run_from step s schedule

-- how many of them stay
abbrev pub stayed_from : Run → List ℕ → ℕ
stayed_from s schedule = runs.stayed_from step says s schedule

-- the state after a schedule, from a memory
abbrev pub after : Plain → List ℕ → List ℕ → Run
after p m schedule = run_from (begin p m) schedule

abbrev pub stayed : Plain → List ℕ → List ℕ → ℕ
stayed p m schedule = stayed_from (begin p m) schedule
