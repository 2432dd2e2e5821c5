-- What is true of each machine.
use Rattle.std.specs.Prelude.{◌≡◌, ℕ, List, [], ◌∷◌, length, map}
use Rattle.std.specs.Vec.{vec_capacity}
use Rattle.cov_ast.specs.Syntax.{Block}
use Rattle.cov_ast.specs.Syntax as s
use Rattle.cov_ast.specs.View as view
use Rattle.cov_ast.specs.WellFormed.{IsWellFormed}
use Rattle.cov_ast.specs.declared.decl.Program.{Program}
use Rattle.source_machine.specs.Frames.{items}
use Rattle.source_machine.specs.SourceMachine.{Standing}
use Rattle.source_machine.specs.Inside.Entries.{AreFrames}
use Rattle.source_machine.specs.Inside.Standing.{Stands}
use Rattle.source_machine.specs.Inside.Stacks.{frames_of}
use Rattle.source_machine.specs.declared.shared.Shared.{Shared}
use Rattle.source_machine.specs.declared.thread.Thread.{Thread}

-- a thread as contracts see it
abbrev pub standing : Thread → Standing
standing thread = record { frames = map (λ f. f.now) thread.frames.items; word = thread.word }

module _ (vars locks : ℕ) where
  -- A thread can run, and it stands in its body.
  pub record IsThread (body : Block) (thread : Thread) : Type 0 where
    pub frames : AreFrames vars locks (vec_capacity thread.frames) (frames_of thread)
    pub stands : Stands body (items (frames_of thread))

  abbrev pub AreThreads : List s.Thread → List Thread → Type 0
  AreThreads [] [] = Unit {0}
  AreThreads (d ∷ ds) (thread ∷ threads) = IsThread d.body thread × AreThreads ds threads
  AreThreads _ _ = ⊥

pub record IsSound (p : Program) (shared : Shared) (threads : List Thread) : Type 0 where
  pub formed : IsWellFormed (view.program p)
  pub memory : length shared.memory ≡ length p.vars
  pub holders : length shared.holders ≡ length p.locks
  pub each : AreThreads (length shared.memory) (length shared.holders) (map view.thread p.threads) threads
