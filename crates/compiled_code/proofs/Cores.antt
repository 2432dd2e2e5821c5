-- What one thread sees of the code machine, its steps on that, and straight code.
use Rattle.std.proofs.Common.{◌≡◌, ℕ, suc, ◌+◌, List, [], ◌∷◌, ◌++◌, length, get_or, set, replicate, Bool, true, false, if◌then◌else◌, Option, Some, None, refl, sym, ◌∙◌, ap, ap₂, arith, is_some, not, length-set}
use Rattle.std.proofs.lemmas.List.{set-get_or}
use Rattle.cov_expr.specs.Term.{apply, is_set}
use Rattle.flow_model.specs.Source.{Holders, Outputs, holder, is_held_by}
use Rattle.risc_machine.specs.Machine.{CodeState, row_of, register, position, effect, next_position, at_position, after_instr, after_line, line_of, code_from, weight_of, lifted_from}
use Rattle.risc_machine.specs.declared.parts.Instr.{Instr}
use Rattle.risc_machine.specs.declared.parts.Instr.TheVariants.{Load, Store, Jump, Jz, Nop, MovC, MovR, Bin, Acquire, Release, Out}
use Rattle.risc_machine.specs.declared.parts.Line.{Line}
use Rattle.risc_machine.specs.declared.parts.Parts.{Parts}

-- the memory, the holders and the outputs, and the thread's own registers and position
pub record Core : Type 0 where
  pub memory : List ℕ
  pub holders : Holders
  pub outputs : Outputs
  pub registers : List ℕ
  pub position : ℕ

abbrev pub core : List ℕ → Holders → Outputs → List ℕ → ℕ → Core
core m h o r i = record { memory = m; holders = h; outputs = o; registers = r; position = i }

abbrev pub core_instr : ℕ → Core → Instr → Core
core_instr t c (Load r x) = core c.memory c.holders c.outputs (set c.registers r (get_or c.memory x 0)) (suc c.position)
core_instr t c (Store x r) = core (set c.memory x (get_or c.registers r 0)) c.holders c.outputs c.registers (suc c.position)
core_instr t c (Jump i) = core c.memory c.holders c.outputs c.registers i
core_instr t c (Jz r i) = core c.memory c.holders c.outputs c.registers (if is_set (get_or c.registers r 0) then suc c.position else i)
core_instr t c Nop = core c.memory c.holders c.outputs c.registers (suc c.position)
core_instr t c (MovC r k) = core c.memory c.holders c.outputs (set c.registers r k) (suc c.position)
core_instr t c (MovR r q) = core c.memory c.holders c.outputs (set c.registers r (get_or c.registers q 0)) (suc c.position)
core_instr t c (Bin op r q) = core c.memory c.holders c.outputs (set c.registers r (apply op (get_or c.registers r 0) (get_or c.registers q 0))) (suc c.position)
core_instr t c (Acquire l) = if is_some (holder c.holders l) then c else core c.memory (set c.holders l (Some t)) c.outputs c.registers (suc c.position)
core_instr t c (Release l) = if not (is_held_by (holder c.holders l) t) then c else core c.memory (set c.holders l None) c.outputs c.registers (suc c.position)
core_instr t c (Out r) = core c.memory c.holders (c.outputs ++ get_or c.registers r 0 ∷ []) c.registers (suc c.position)

abbrev pub core_line : ℕ → Core → Option Line → Core
core_line t c None = c
core_line t c (Some l) = core_instr t c l.instr

abbrev pub core_of : CodeState → ℕ → Core
core_of s t = core s.memory s.holders s.outputs (row_of s t) (position s t)

abbrev pub with_core : CodeState → ℕ → Core → CodeState
with_core s t c = record {
  memory = c.memory;
  holders = c.holders;
  outputs = c.outputs;
  registers = set s.registers t c.registers;
  positions = set s.positions t c.position;
}

abbrev pub core_step : Parts → CodeState → ℕ → CodeState
core_step c s t = with_core s t (core_line t (core_of s t) (line_of c s t))

abbrev pub core_from : Parts → CodeState → List ℕ → CodeState
core_from c s [] = s
core_from c s (t ∷ ts) = core_from c (core_step c s t) ts

abbrev pub core_lifted : Parts → CodeState → List ℕ → List ℕ
core_lifted c s [] = []
core_lifted c s (t ∷ ts) = replicate (weight_of (line_of c s t)) t ++ core_lifted c (core_step c s t) ts

-- The same steps and runs ----------------------------------------------------------------------------------------

next_is : (n : ℕ) → n + 1 ≡ suc n
next_is n = omega arith

module _ (s : CodeState) (t : ℕ) where
  same_state : (m : List ℕ) (h : Holders) (o : Outputs) (rows qs : List (List ℕ)) (is js : List ℕ) → rows ≡ qs → is ≡ js
      → ◌≡◌ {A = CodeState} (record { memory = m; holders = h; outputs = o; registers = rows; positions = is }) (record { memory = m; holders = h; outputs = o; registers = qs; positions = js })
  same_state m h o rows qs is js a b = ap₂ (λ (x : List (List ℕ)) (y : List ℕ). let r : CodeState = record { memory = m; holders = h; outputs = o; registers = x; positions = y } in r) a b

  -- the registers stay
  rows_same : s.registers ≡ set s.registers t (row_of s t)
  rows_same = sym (set-get_or s.registers t [])

  on : set s.positions t (position s t + 1) ≡ set s.positions t (suc (position s t))
  on = ap (set s.positions t) (next_is (position s t))

  stays_same : s ≡ with_core s t (core_of s t)
  stays_same = same_state s.memory s.holders s.outputs s.registers _ s.positions _ rows_same (sym (set-get_or s.positions t 0))

  instr_same : (i : Instr) → after_instr s t i ≡ with_core s t (core_instr t (core_of s t) i)
  instr_same (Load r x) = same_state s.memory s.holders s.outputs _ _ _ _ refl on
  instr_same (Store x r) = same_state _ s.holders s.outputs _ _ _ _ rows_same on
  instr_same (Jump i) = same_state s.memory s.holders s.outputs _ _ _ _ rows_same refl
  instr_same (Jz r i) =
      same_state s.memory s.holders s.outputs _ _ _ _ rows_same (ap (λ n. set s.positions t (if is_set (register s t r) then n else i)) (next_is (position s t)))
  instr_same Nop = same_state s.memory s.holders s.outputs _ _ _ _ rows_same on
  instr_same (MovC r k) = same_state s.memory s.holders s.outputs _ _ _ _ refl on
  instr_same (MovR r q) = same_state s.memory s.holders s.outputs _ _ _ _ refl on
  instr_same (Bin op r q) = same_state s.memory s.holders s.outputs _ _ _ _ refl on
  instr_same (Acquire l) = go (is_some (holder s.holders l))
    where
      go : (b : Bool) → (if b then s else at_position (effect s t (Acquire l)) t (next_position s t (Acquire l)))
          ≡ with_core s t (if b then core_of s t else core s.memory (set s.holders l (Some t)) s.outputs (row_of s t) (suc (position s t)))
      go true = stays_same
      go false = same_state s.memory _ s.outputs _ _ _ _ rows_same on
  instr_same (Release l) = go (not (is_held_by (holder s.holders l) t))
    where
      go : (b : Bool) → (if b then s else at_position (effect s t (Release l)) t (next_position s t (Release l)))
          ≡ with_core s t (if b then core_of s t else core s.memory (set s.holders l None) s.outputs (row_of s t) (suc (position s t)))
      go true = stays_same
      go false = same_state s.memory _ s.outputs _ _ _ _ rows_same on
  instr_same (Out r) = same_state s.memory s.holders _ _ _ _ _ rows_same on

  pub line_same : (o : Option Line) → after_line s t o ≡ with_core s t (core_line t (core_of s t) o)
  line_same None = stays_same
  line_same (Some l) = instr_same l.instr

pub same_from : (c : Parts) (ts : List ℕ) (s : CodeState) → code_from c s ts ≡ core_from c s ts
same_from c [] s = refl
same_from c (t ∷ ts) s = ap (λ r. code_from c r ts) (line_same s t (line_of c s t)) ∙ same_from c ts (core_step c s t)

pub same_lifted : (c : Parts) (ts : List ℕ) (s : CodeState) → lifted_from c s ts ≡ core_lifted c s ts
same_lifted c [] s = refl
same_lifted c (t ∷ ts) s =
    ap (λ us. replicate (weight_of (line_of c s t)) t ++ us)
    (ap (λ r. lifted_from c r ts) (line_same s t (line_of c s t)) ∙ same_lifted c ts (core_step c s t))

-- Straight code --------------------------------------------------------------------------------------------------

abbrev pub exec_one : List ℕ → List ℕ → Instr → List ℕ
exec_one r m (Load d x) = set r d (get_or m x 0)
exec_one r m (MovC d k) = set r d k
exec_one r m (MovR d q) = set r d (get_or r q 0)
exec_one r m (Bin op d q) = set r d (apply op (get_or r d 0) (get_or r q 0))
exec_one r m _ = r

-- the registers after these instructions
abbrev pub exec : List ℕ → List ℕ → List Instr → List ℕ
exec r m [] = r
exec r m (c ∷ cs) = exec (exec_one r m c) m cs

abbrev pub IsStraight : Instr → Type 0
IsStraight (Load d x) = Unit {0}
IsStraight (MovC d k) = Unit {0}
IsStraight (MovR d q) = Unit {0}
IsStraight (Bin op d q) = Unit {0}
IsStraight _ = ⊥

-- what a straight instruction loads passes the test
abbrev pub LoadsOf : (ℕ → Type 0) → Instr → Type 0
LoadsOf P (Load d x) = P x
LoadsOf P _ = Unit {0}

abbrev pub Straight : (ℕ → Type 0) → List Instr → Type 0
Straight P [] = Unit {0}
Straight P (c ∷ cs) = IsStraight c × LoadsOf P c × Straight P cs

pub exec_append : (r m : List ℕ) (a b : List Instr) → exec r m (a ++ b) ≡ exec (exec r m a) m b
exec_append r m [] b = refl
exec_append r m (c ∷ a) b = exec_append (exec_one r m c) m a b

pub straight_append : (P : ℕ → Type 0) (a b : List Instr) → Straight P a → Straight P b → Straight P (a ++ b)
straight_append P [] b s k = k
straight_append P (c ∷ a) b s k = (s.0, s.1, straight_append P a b s.2 k)

pub straight_map : (P Q : ℕ → Type 0) → ((x : ℕ) → P x → Q x) → (cs : List Instr) → Straight P cs → Straight Q cs
straight_map P Q f [] s = tt
straight_map P Q f (Load d x ∷ cs) s = (s.0, f x s.1, straight_map P Q f cs s.2)
straight_map P Q f (MovC d k ∷ cs) s = (s.0, tt, straight_map P Q f cs s.2)
straight_map P Q f (MovR d k ∷ cs) s = (s.0, tt, straight_map P Q f cs s.2)
straight_map P Q f (Bin op d k ∷ cs) s = (s.0, tt, straight_map P Q f cs s.2)
straight_map P Q f (_ ∷ cs) s = absurd s.0

pub exec_same : (P : ℕ → Type 0) (r m n : List ℕ) → ((x : ℕ) → P x → get_or m x 0 ≡ get_or n x 0) → (cs : List Instr) → Straight P cs → exec r m cs ≡ exec r n cs
exec_same P r m n k [] s = refl
exec_same P r m n k (Load g x ∷ cs) s = ap (λ v. exec (set r g v) m cs) (k x s.1) ∙ exec_same P (set r g (get_or n x 0)) m n k cs s.2
exec_same P r m n k (MovC g x ∷ cs) s = exec_same P (set r g x) m n k cs s.2
exec_same P r m n k (MovR g x ∷ cs) s = exec_same P (set r g (get_or r x 0)) m n k cs s.2
exec_same P r m n k (Bin op g x ∷ cs) s = exec_same P (set r g (apply op (get_or r g 0) (get_or r x 0))) m n k cs s.2
exec_same P r m n k (_ ∷ cs) s = absurd s.0

pub exec_long : (r m : List ℕ) (c : Instr) → length r ≡ 8 → length (exec_one r m c) ≡ 8
exec_long r m (Load d x) e = length-set r d _ ∙ e
exec_long r m (MovC d k) e = length-set r d _ ∙ e
exec_long r m (MovR d q) e = length-set r d _ ∙ e
exec_long r m (Bin op d q) e = length-set r d _ ∙ e
exec_long r m (Store x q) e = e
exec_long r m (Jump k) e = e
exec_long r m (Jz q k) e = e
exec_long r m Nop e = e
exec_long r m (Acquire l) e = e
exec_long r m (Release l) e = e
exec_long r m (Out q) e = e

pub straight_step : (t : ℕ) (c : Core) (i : Instr) → IsStraight i → core_instr t c i ≡ core c.memory c.holders c.outputs (exec_one c.registers c.memory i) (suc c.position)
straight_step t c (Load d x) s = refl
straight_step t c (MovC d k) s = refl
straight_step t c (MovR d k) s = refl
straight_step t c (Bin op d k) s = refl
straight_step t c (Store x d) s = absurd s
straight_step t c (Jump k) s = absurd s
straight_step t c (Jz d k) s = absurd s
straight_step t c Nop s = absurd s
straight_step t c (Acquire l) s = absurd s
straight_step t c (Release l) s = absurd s
straight_step t c (Out d) s = absurd s
