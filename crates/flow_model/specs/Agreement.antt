-- When two memories, two states and two starts agree: low-equivalence, modulo what no thread may read.
--
-- (After the value-dependent classification of COVERN: what is low is said by the words of controls.)
use Rattle.std.specs.Prelude.{◌≡◌, ℕ, ◌<◌, List, get_or, map, IsTrue}
use Rattle.cov_expr.specs.Entailment.{Holds}
use Rattle.cov_ast.specs.Declarations.{class_of, invariant_of, is_control}
use Rattle.cov_ast.specs.Plain.{Plain}
use Rattle.flow_model.specs.Source.{Item, run, put, test, emit, Holders, Outputs, Run, items_of}
use Rattle.flow_model.specs.Holdings.{IsHiddenNow}

-- The variable is low in the memory: its class holds there.
abbrev pub IsLow : Plain → List ℕ → ℕ → Type 0
IsLow p m x = Holds (class_of p x) m

abbrev pub SameAt : (m1 m2 : List ℕ) → ℕ → Type 0
SameAt m1 m2 x = get_or m1 x 0 ≡ get_or m2 x 0

-- The holders are the same, every control is equal, also while it is hidden, and so is every variable that is low in the
-- first memory and that no thread holds unreadable.
pub record MemoriesAgree (p : Plain) (m1 : List ℕ) (h1 : Holders) (m2 : List ℕ) (h2 : Holders) : Type 0 where
  pub holders : h1 ≡ h2
  pub controls : (c : ℕ) → IsTrue (is_control p c) → SameAt m1 m2 c
  pub visible : (x : ℕ) → IsLow p m1 x → ¬ IsHiddenNow p h1 x → SameAt m1 m2 x

-- what the threads of a machine share: the memory, the holders and the outputs
pub record Shared : Type 0 where
  pub memory : List ℕ
  pub holders : Holders
  pub outputs : Outputs

-- Two states of a machine, by what its threads share in a state and by when a thread stands alike in two.
module _ {State : Type 0} (shared : State → Shared) (IsAlike : State → State → ℕ → Type 0) where
  -- The memories agree, the outputs are the same, and every thread stands alike.
  pub record Agree (p : Plain) (s1 s2 : State) : Type 0 where
    pub memories : MemoriesAgree p (shared s1).memory (shared s1).holders (shared s2).memory (shared s2).holders
    pub outputs : (shared s1).outputs ≡ (shared s2).outputs
    pub threads : (t : ℕ) → IsAlike s1 s2 t

-- Of so many threads it is the first that doesn't stand alike.
pub record IsFirstApart {State : Type 0} (IsAlike : State → State → ℕ → Type 0) (s1 s2 : State) (count t : ℕ) : Type 0 where
  pub inside : t < count
  pub apart : ¬ IsAlike s1 s2 t
  pub before : (u : ℕ) → u < t → IsAlike s1 s2 u

-- an item without the word that a pending store or a pending output carries; the word of a pending test stays
abbrev pub shape : Item → Item
shape (run at c) = run at c
shape (put at x word) = put at x 0
shape (test at word yes_block no_block) = test at word yes_block no_block
shape (emit at word) = emit at 0

-- the same but for the words of pending stores and pending outputs
abbrev pub AreAlike : List Item → List Item → Type 0
AreAlike is js = map shape is ≡ map shape js

abbrev pub shared_of : Run → Shared
shared_of s = record { memory = s.memory; holders = s.holders; outputs = s.outputs }

-- What remains of the thread is the same in two states, but for the words of pending stores and pending outputs.
abbrev pub IsAlikeAt : (s1 s2 : Run) → ℕ → Type 0
IsAlikeAt s1 s2 t = AreAlike (items_of s1 t) (items_of s2 t)

-- The memories agree, the outputs are the same, and every thread stands at the same items.
abbrev pub StatesAgree : Plain → (s1 s2 : Run) → Type 0
StatesAgree p s1 s2 = Agree shared_of IsAlikeAt p s1 s2

-- Two memories to start from: what is low in the first, hidden or not, is equal, and each lock's invariant holds in both.
pub record AreFitStarts (p : Plain) (m1 m2 : List ℕ) : Type 0 where
  pub low : (x : ℕ) → IsLow p m1 x → SameAt m1 m2 x
  pub left : (l : ℕ) → Holds (invariant_of p l) m1
  pub right : (l : ℕ) → Holds (invariant_of p l) m2
