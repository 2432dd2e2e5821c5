-- Which parts are code, and what the first fault of others is.
use Rattle.std.specs.Prelude.{◌≡◌, ℕ, ◌+◌, nat_lt, nat_le, ◌==◌, ◌||◌, ◌&&◌, List, [], ◌∷◌, ◌++◌, length, map, Bool, true, if◌then◌else◌, Option, Some, None, All}
use Rattle.std.specs.Option.{option_or}
use Rattle.std.specs.List.{list_any}
use Rattle.std.specs.Str.{bytes_eq}
use Rattle.cov_expr.specs.Words.{IsWord}
use Rattle.risc_machine.specs.declared.parts.CodeBad.{CodeBad}
use Rattle.risc_machine.specs.declared.parts.CodeBad.TheVariants as bad
use Rattle.risc_machine.specs.declared.parts.Instr.{Instr}
use Rattle.risc_machine.specs.declared.parts.Instr.TheVariants.{Load, Store, Jump, Jz, Nop, MovC, MovR, Bin, Acquire, Release, Out}
use Rattle.risc_machine.specs.declared.parts.Line.{Line}
use Rattle.risc_machine.specs.declared.parts.Parts.{Parts}
use Rattle.risc_machine.specs.declared.parts.ThreadCode.{ThreadCode}

-- the first of what is found at the items of a list, the first of which has the number `i`
abbrev pub first_in : {A B : Type 0} → (ℕ → A → Option B) → ℕ → List A → Option B
first_in found i [] = None
first_in found i (x ∷ xs) = option_or (found i x) (first_in found (i + 1) xs)

-- Names --------------------------------------------------------------------------------------------------------

abbrev pub thread_names : List ThreadCode → List (List ℕ)
thread_names threads = map (λ t. t.name) threads

-- all names, in order
abbrev pub names_of : Parts → List (List ℕ)
names_of p = (p.vars ++ p.locks) ++ thread_names p.threads

-- the first of these names that is one of those before it
abbrev pub repeated : (before names : List (List ℕ)) → Option (List ℕ)
repeated before [] = None
repeated before (n ∷ ns) = if list_any (bytes_eq n) before then Some n else repeated (before ++ n ∷ []) ns

-- Lines --------------------------------------------------------------------------------------------------------

abbrev pub is_register : ℕ → Bool
is_register r = nat_lt r 8

-- whether each register of an instruction is one
abbrev pub has_registers : Instr → Bool
has_registers (Load r x) = is_register r
has_registers (Store x r) = is_register r
has_registers (Jump i) = true
has_registers (Jz r i) = is_register r
has_registers Nop = true
has_registers (MovC r k) = is_register r
has_registers (MovR r s) = is_register r && is_register s
has_registers (Bin op r s) = is_register r && is_register s
has_registers (Acquire l) = true
has_registers (Release l) = true
has_registers (Out r) = is_register r

-- whether its variable is one of so many
abbrev pub has_variable : ℕ → Instr → Bool
has_variable vars (Load r x) = nat_lt x vars
has_variable vars (Store x r) = nat_lt x vars
has_variable vars (Jump i) = true
has_variable vars (Jz r i) = true
has_variable vars Nop = true
has_variable vars (MovC r k) = true
has_variable vars (MovR r s) = true
has_variable vars (Bin op r s) = true
has_variable vars (Acquire l) = true
has_variable vars (Release l) = true
has_variable vars (Out r) = true

-- whether its lock is one of so many
abbrev pub has_lock : ℕ → Instr → Bool
has_lock locks (Load r x) = true
has_lock locks (Store x r) = true
has_lock locks (Jump i) = true
has_lock locks (Jz r i) = true
has_lock locks Nop = true
has_lock locks (MovC r k) = true
has_lock locks (MovR r s) = true
has_lock locks (Bin op r s) = true
has_lock locks (Acquire l) = nat_lt l locks
has_lock locks (Release l) = nat_lt l locks
has_lock locks (Out r) = true

-- whether its target is one of so many lines, or their end
abbrev pub has_target : ℕ → Instr → Bool
has_target lines (Load r x) = true
has_target lines (Store x r) = true
has_target lines (Jump i) = nat_le i lines
has_target lines (Jz r i) = nat_le i lines
has_target lines Nop = true
has_target lines (MovC r k) = true
has_target lines (MovR r s) = true
has_target lines (Bin op r s) = true
has_target lines (Acquire l) = true
has_target lines (Release l) = true
has_target lines (Out r) = true

-- whether it stands in code of this version
abbrev pub has_version : ℕ → Instr → Bool
has_version version (Load r x) = true
has_version version (Store x r) = true
has_version version (Jump i) = true
has_version version (Jz r i) = true
has_version version Nop = true
has_version version (MovC r k) = true
has_version version (MovR r s) = true
has_version version (Bin op r s) = true
has_version version (Acquire l) = true
has_version version (Release l) = true
has_version version (Out r) = nat_le 2 version

-- the first fault of the line at position `i` of thread `t`, which has so many lines
abbrev pub line_fault : Parts → (t lines i : ℕ) → Line → Option CodeBad
line_fault p t lines i l =
    option_or (if nat_le l.weight 2 then None else Some (bad.BadWeight t i))
    (option_or (if has_registers l.instr then None else Some (bad.BadRegister t i))
    (option_or (if has_variable (length p.vars) l.instr then None else Some (bad.BadVariable t i))
    (option_or (if has_lock (length p.locks) l.instr then None else Some (bad.BadLock t i))
    (option_or (if has_target lines l.instr then None else Some (bad.BadTarget t i))
    (if has_version p.version l.instr then None else Some (bad.BadOut t i))))))

-- the first fault of the lines of thread `t`
abbrev pub thread_fault : Parts → (t : ℕ) → ThreadCode → Option CodeBad
thread_fault p t thread = first_in (line_fault p t (length thread.lines)) 0 thread.lines

-- Parts --------------------------------------------------------------------------------------------------------

abbrev pub name_fault : Option (List ℕ) → Option CodeBad
name_fault None = None
name_fault (Some name) = Some (bad.SameName name)

-- The first fault: the version, or else a name that equals an earlier one, or else that of the first faulty line, by thread
-- and by position.
abbrev pub fault_of : Parts → Option CodeBad
fault_of p =
    option_or (if p.version == 1 || p.version == 2 then None else Some (bad.BadVersion p.version))
    (option_or (name_fault (repeated [] (names_of p))) (first_in (thread_fault p) 0 p.threads))

-- The length of each list is a word, and so is each number of an item.
pub record AreCounted (p : Parts) : Type 0 where
  pub vars : IsWord (length p.vars)
  pub locks : IsWord (length p.locks)
  pub threads : IsWord (length p.threads)
  pub lines : All (λ t. IsWord (length t.lines)) p.threads

-- Parts that are code.
pub record AreGood (p : Parts) : Type 0 where
  pub counted : AreCounted p
  pub faultless : fault_of p ≡ None
