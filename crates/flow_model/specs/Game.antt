-- The secure thread: a game that two copies of one thread play against all that other threads may do between its steps.
--
-- (The two-run bisimulation of one thread of Mantel, Sands and Sudbrock, put as a game over lists of moves. What others may
-- do and what the thread owes them are assumption and guarantee.)
use Rattle.std.specs.Prelude.{◌≡◌, ◌⊎◌, ◌↔◌, ℕ, List, [], ◌∷◌, ◌++◌, length, replicate}
use Rattle.std.specs.Prelude.{Some, None}
use Rattle.cov_expr.specs.Entailment.{Holds}
use Rattle.cov_expr.specs.Words.{IsMemory, IsWord, AreWords}
use Rattle.cov_ast.specs.Declarations.{invariant_of, thread_at}
use Rattle.cov_ast.specs.Plain.{Plain}
use Rattle.flow_model.specs.Source.{Holders, holder, Outputs, Local, local, items_then, turn}
use Rattle.flow_model.specs.Holdings.{IsStableNow, IsWritableNow}
use Rattle.flow_model.specs.Agreement.{AreFitStarts, MemoriesAgree, AreAlike, SameAt}

-- two copies of a thread, each with a memory, holders, outputs and items of its own
pub record Copies : Type 0 where
  pub left : Local
  pub right : Local

-- An own move is a step of the thread in both copies. An outside move puts a new memory, new holders and new outputs into
-- each copy.
pub data Move : Type 0 where
  own : Move
  outside : (m1 : List ℕ) → (h1 : Holders) → (o1 : Outputs) → (m2 : List ℕ) → (h2 : Holders) → (o2 : Outputs) → Move

abbrev pub turn_of : (t : ℕ) → Local → Local
turn_of t c = turn t c.memory c.holders c.outputs c.items

abbrev pub after_move : (t : ℕ) → Move → Copies → Copies
after_move t own q = record { left = turn_of t q.left; right = turn_of t q.right }
after_move t (outside m1 h1 o1 m2 h2 o2) q = record { left = local m1 h1 o1 q.left.items; right = local m2 h2 o2 q.right.items }

-- after a list of moves, in which the last move stands first
abbrev pub after_moves : (t : ℕ) → List Move → Copies → Copies
after_moves t [] q = q
after_moves t (v ∷ vs) q = after_move t v (after_moves t vs q)

-- the start: all locks free, nothing put out, and the whole body of the thread
abbrev pub opening_of : Plain → (t : ℕ) → List ℕ → Local
opening_of p t m = local m (replicate (length p.locks) None) [] (items_then (thread_at p t).body [])

abbrev pub opening : Plain → (t : ℕ) → (m1 m2 : List ℕ) → Copies
opening p t m1 m2 = record { left = opening_of p t m1; right = opening_of p t m2 }

-- The invariant of each lock that is free holds.
abbrev pub FreeInvariantsHold : Plain → List ℕ → Holders → Type 0
FreeInvariantsHold p m h = (l : ℕ) → holder h l ≡ None → Holds (invariant_of p l) m

-- Outside moves ------------------------------------------------------------------------------------------------

-- What the thread assumes of others in one copy: they leave a memory and holders of the program, and words as outputs; the
-- thread holds each lock exactly where it held it before, and each variable that is stable for the thread keeps its word.
pub record MeetsAssumptions (p : Plain) (t : ℕ) (before : Local) (m : List ℕ) (h : Holders) (o : Outputs) : Type 0 where
  pub memory : IsMemory (length p.vars) m
  pub holders : length h ≡ length p.locks
  pub outputs : AreWords o
  pub held : (l : ℕ) → (holder h l ≡ Some t) ↔ (holder before.holders l ≡ Some t)
  pub stable : (x : ℕ) → IsStableNow p before.holders t x → SameAt m before.memory x

pub record IsLawfulOutside (p : Plain) (t : ℕ) (q : Copies) (m1 : List ℕ) (h1 : Holders) (o1 : Outputs) (m2 : List ℕ) (h2 : Holders) (o2 : Outputs) : Type 0 where
  pub left : MeetsAssumptions p t q.left m1 h1 o1
  pub right : MeetsAssumptions p t q.right m2 h2 o2
  pub memories : MemoriesAgree p m1 h1 m2 h2
  pub outputs : o1 ≡ o2
  pub free_left : FreeInvariantsHold p m1 h1
  pub free_right : FreeInvariantsHold p m2 h2

-- The move is lawful where the copies stand: each own move is.
abbrev pub IsLawful : Plain → (t : ℕ) → Copies → Move → Type 0
IsLawful p t q own = Unit {0}
IsLawful p t q (outside m1 h1 o1 m2 h2 o2) = IsLawfulOutside p t q m1 h1 o1 m2 h2 o2

-- each move of the list is lawful after those before it
abbrev pub AreLawful : Plain → (t : ℕ) → List Move → Copies → Type 0
AreLawful p t [] q = Unit {0}
AreLawful p t (v ∷ vs) q = AreLawful p t vs q × IsLawful p t (after_moves t vs q) v

-- Own moves ----------------------------------------------------------------------------------------------------

-- What the thread guarantees to others in one copy: a step of it keeps each word that isn't writable for it, changes a
-- holder from none to the thread or from the thread to none alone, and adds one word at most to the outputs, at the end.
pub record MeetsGuarantees (p : Plain) (t : ℕ) (before after : Local) : Type 0 where
  pub kept : (x : ℕ) → ¬ IsWritableNow p before.holders t x → SameAt after.memory before.memory x
  pub held : (l : ℕ)
      → (holder after.holders l ≡ holder before.holders l)
      ⊎ ((holder before.holders l ≡ None) × (holder after.holders l ≡ Some t))
      ⊎ ((holder before.holders l ≡ Some t) × (holder after.holders l ≡ None))
  pub said : (after.outputs ≡ before.outputs) ⊎ ((word : ℕ) × IsWord word × (after.outputs ≡ before.outputs ++ word ∷ []))

-- What an own move owes: the copies stand at the same items, their memories agree, their outputs are the same, the invariants
-- of free locks hold, and the guarantees are met.
pub record IsSecureMove (p : Plain) (t : ℕ) (before after : Copies) : Type 0 where
  pub items : AreAlike after.left.items after.right.items
  pub memories : MemoriesAgree p after.left.memory after.left.holders after.right.memory after.right.holders
  pub outputs : after.left.outputs ≡ after.right.outputs
  pub free_left : FreeInvariantsHold p after.left.memory after.left.holders
  pub free_right : FreeInvariantsHold p after.right.memory after.right.holders
  pub left : MeetsGuarantees p t before.left after.left
  pub right : MeetsGuarantees p t before.right after.right

-- From any two fit starts, after every list of lawful moves, an own move does what it owes.
abbrev pub IsSecureThread : Plain → (t : ℕ) → Type 0
IsSecureThread p t =
    (m1 m2 : List ℕ) → IsMemory (length p.vars) m1 → IsMemory (length p.vars) m2 → AreFitStarts p m1 m2
    → (moves : List Move) → AreLawful p t moves (opening p t m1 m2)
    → IsSecureMove p t (after_moves t moves (opening p t m1 m2)) (after_moves t (own ∷ moves) (opening p t m1 m2))
