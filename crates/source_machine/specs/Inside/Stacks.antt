-- The threads of the code, which has the innermost frame last, and what they share.
use Rattle.std.specs.Prelude.{◌≡◌, ℕ, List, [], ◌∷◌, map, reverse, None}
use Rattle.std.specs.Borrow.{Bor}
use Rattle.std.specs.Vec.{vec_capacity}
use Rattle.cov_ast.specs.Syntax.{Block}
use Rattle.cov_ast.specs.View as view
use Rattle.cov_ast.specs.declared.stmt.Stmt.{Stmt}
use Rattle.flow_model.specs.FirstDifference.{holders_of}
use Rattle.flow_model.specs.declared.machine.Stepped.{Stepped}
use Rattle.source_machine.specs.Inside.Entries.{entered, height}
use Rattle.source_machine.specs.Inside.Turns.{Turned, turned}
use Rattle.source_machine.specs.declared.shared.Shared.{Shared}
use Rattle.source_machine.specs.declared.thread.Thread.{Thread}

abbrev pub stack_of : List (Bor (List Stmt)) → List Block
stack_of frames = reverse (map (λ f. view.block f.now) frames)

abbrev pub frames_of : Thread → List Block
frames_of thread = stack_of thread.frames.items

-- what a step left, and what it answered
abbrev pub turned_to : Shared → Thread → Stepped → Turned
turned_to s thread answer =
    record { memory = s.memory; holders = holders_of s.holders; outputs = s.said.items; frames = frames_of thread; word = thread.word; answer = answer }

-- a step of thread t
abbrev pub turned_from : ℕ → Shared → Thread → Turned
turned_from t s thread = turned t s.memory (holders_of s.holders) s.said.items (frames_of thread) thread.word

-- the room for outputs, and that for frames
abbrev pub rooms : Shared → Thread → ℕ × ℕ
rooms s thread = (vec_capacity s.said, vec_capacity thread.frames)

-- A thread in front of its body, with room for all its frames.
pub record Starts (body : Block) (thread : Thread) : Type 0 where
  pub frames : frames_of thread ≡ entered body []
  pub word : thread.word ≡ None
  pub room : vec_capacity thread.frames ≡ height body

-- each of these threads, in front of its body
abbrev pub AllStart : List Block → List Thread → Type 0
AllStart [] [] = Unit {0}
AllStart (b ∷ bs) (thread ∷ threads) = Starts b thread × AllStart bs threads
AllStart _ _ = ⊥
