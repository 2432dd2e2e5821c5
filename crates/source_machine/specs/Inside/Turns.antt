-- A step of a thread, on its frames.
use Rattle.std.specs.Prelude.{ℕ, List, [], ◌∷◌, ◌++◌, set, Bool, true, false, if◌then◌else◌, Option, Some, None}
use Rattle.cov_expr.specs.Term.{Term, value, is_set}
use Rattle.cov_ast.specs.Syntax.{Stm, Block, done, more}
use Rattle.cov_ast.specs.Syntax as s
use Rattle.flow_model.specs.Source.{Holders, Outputs, holder, is_held_by}
use Rattle.flow_model.specs.declared.machine.Stepped.{Stepped}
use Rattle.flow_model.specs.declared.machine.Stepped.TheVariants as stepped
use Rattle.source_machine.specs.Inside.Entries.{entered, outer}

-- what threads share and the thread after a step, and what the step answers
pub record Turned : Type 0 where
  pub memory : List ℕ
  pub holders : Holders
  pub outputs : Outputs
  pub frames : List Block
  pub word : Option ℕ
  pub answer : Stepped

-- the thread went on
abbrev pub moved : List ℕ → Holders → Outputs → List Block → Turned
moved m h o bs = record { memory = m; holders = h; outputs = o; frames = bs; word = None; answer = stepped.Moved }

-- it evaluated the expression of its first statement
abbrev pub after_evaluation : List ℕ → Holders → Outputs → List Block → ℕ → Turned
after_evaluation m h o bs word = record { memory = m; holders = h; outputs = o; frames = bs; word = Some word; answer = stepped.Moved }

-- nothing changed
abbrev pub unchanged : List ℕ → Holders → Outputs → List Block → Option ℕ → Stepped → Turned
unchanged m h o bs word answer = record { memory = m; holders = h; outputs = o; frames = bs; word = word; answer = answer }

-- the frames past the first statement, behind which the rest stands in its block
abbrev pub past : Block → List Block → List Block
past rest bs = entered rest (outer bs)

module _ (m : List ℕ) (h : Holders) (o : Outputs) (bs : List Block) (rest : Block) where
  abbrev pub locked : ℕ → (word : Option ℕ) → ℕ → Option ℕ → Turned
  locked t word l None = moved m (set h l (Some t)) o (past rest bs)
  locked t word l (Some u) = unchanged m h o bs word stepped.Stayed

  abbrev pub unlocked : (word : Option ℕ) → ℕ → Bool → Turned
  unlocked word l true = moved m (set h l None) o (past rest bs)
  unlocked word l false = unchanged m h o bs word stepped.Stayed

  abbrev pub assigned : ℕ → Term → (word : Option ℕ) → Turned
  assigned x e None = after_evaluation m h o bs (value e m)
  assigned x e (Some word) = moved (set m x word) h o (past rest bs)

  abbrev pub branched : Term → (one other : Block) → (word : Option ℕ) → Turned
  branched e one other None = after_evaluation m h o bs (value e m)
  branched e one other (Some word) = moved m h o (entered (if is_set word then one else other) (past rest bs))

  abbrev pub looped : Term → (body : Block) → (word : Option ℕ) → Turned
  looped e body None = after_evaluation m h o bs (value e m)
  looped e body (Some word) = moved m h o (if is_set word then entered body bs else past rest bs)

  abbrev pub put_out : Term → (word : Option ℕ) → Turned
  put_out e None = after_evaluation m h o bs (value e m)
  put_out e (Some word) = moved m h (o ++ word ∷ []) (past rest bs)

  -- at a first statement
  abbrev pub turned_at : ℕ → (word : Option ℕ) → Stm → Turned
  turned_at t word s.skip = moved m h o (past rest bs)
  turned_at t word (s.assign x e q retypes) = assigned x e word
  turned_at t word (s.lock l) = locked t word l (holder h l)
  turned_at t word (s.unlock l) = unlocked word l (is_held_by (holder h l) t)
  turned_at t word (s.branch e one other join) = branched e one other word
  turned_at t word (s.loop e inv body) = looped e body word
  turned_at t word (s.note j) = moved m h o (past rest bs)
  turned_at t word (s.output e) = put_out e word

-- one step of thread t
abbrev pub turned : ℕ → List ℕ → Holders → Outputs → List Block → Option ℕ → Turned
turned t m h o [] word = unchanged m h o [] word stepped.Idle
turned t m h o (done ∷ bs) word = unchanged m h o (done ∷ bs) word stepped.Idle
turned t m h o (more at c proofs rest ∷ bs) word = turned_at m h o (more at c proofs rest ∷ bs) rest t word c
