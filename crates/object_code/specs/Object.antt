-- The object of a code: its parts as bytes.
--
-- A number has four bytes, the lowest first, but for what is said to be one byte. A count stands before what it counts.
use Rattle.std.specs.Prelude.{◌≡◌, ℕ, ◌+◌, ◌*◌, ◌≤◌, List, [], ◌∷◌, ◌++◌, length, flat_map, codes, IsTrue, All, ◌⊎◌}
use Rattle.std.specs.Int.{w32, to_le_bytes}
use Rattle.cov_expr.specs.Names.{IsName}
use Rattle.cov_expr.specs.Words.{IsWord}
use Rattle.cov_expr.specs.declared.expr.Op.{Op}
use Rattle.cov_expr.specs.declared.expr.Op.TheVariants.{Add, Sub, Mul, And, Or, Xor, Eq, Ne, Lt, Le, Both, Either}
use Rattle.code_text.specs.Listing.{HasWords}
use Rattle.risc_machine.specs.Faults.{has_registers, has_variable, has_lock, has_version}
use Rattle.risc_machine.specs.declared.parts.Instr.{Instr}
use Rattle.risc_machine.specs.declared.parts.Instr.TheVariants.{Load, Store, Jump, Jz, Nop, MovC, MovR, Bin, Acquire, Release, Out}
use Rattle.risc_machine.specs.declared.parts.Line.{Line}
use Rattle.risc_machine.specs.declared.parts.Parts.{Parts}
use Rattle.risc_machine.specs.declared.parts.ThreadCode.{ThreadCode}

-- the four bytes of a number
abbrev pub four : ℕ → List ℕ
four n = to_le_bytes w32 n

-- a name: one byte with its length, and its bytes
abbrev pub name : List ℕ → List ℕ
name n = length n ∷ n

-- how many names there are, and each of them
abbrev pub names : List (List ℕ) → List ℕ
names ns = four (length ns) ++ flat_map name ns

-- Lines --------------------------------------------------------------------------------------------------------

-- the place of an operator among all of them, counted from 0
abbrev pub place : Op → ℕ
place Add = 0
place Sub = 1
place Mul = 2
place And = 3
place Or = 4
place Xor = 5
place Eq = 6
place Ne = 7
place Lt = 8
place Le = 9
place Both = 10
place Either = 11

-- the number of a kind of instruction
abbrev pub opcode : Instr → ℕ
opcode (Load r x) = 0
opcode (Store x r) = 1
opcode (Jump i) = 2
opcode (Jz r i) = 3
opcode Nop = 4
opcode (MovC r k) = 5
opcode (MovR r q) = 6
opcode (Bin op r q) = 7
opcode (Acquire l) = 8
opcode (Release l) = 9
opcode (Out r) = 10

-- what an instruction works on: a register is one byte and so is the place of an operator, all else is four
abbrev pub operands : Instr → List ℕ
operands (Load r x) = r ∷ four x
operands (Store x r) = r ∷ four x
operands (Jump i) = four i
operands (Jz r i) = r ∷ four i
operands Nop = []
operands (MovC r k) = r ∷ four k
operands (MovR r q) = r ∷ q ∷ []
operands (Bin op r q) = place op ∷ r ∷ q ∷ []
operands (Acquire l) = four l
operands (Release l) = four l
operands (Out r) = r ∷ []

-- one byte with the weight above the number of the kind, and the operands
abbrev pub line : Line → List ℕ
line l = (16 * l.weight + opcode l.instr) ∷ operands l.instr

-- Parts --------------------------------------------------------------------------------------------------------

abbrev pub thread : ThreadCode → List ℕ
thread t = name t.name ++ four (length t.lines) ++ flat_map line t.lines

abbrev pub threads : List ThreadCode → List ℕ
threads ts = four (length ts) ++ flat_map thread ts

-- the bytes with which every object begins
abbrev pub magic : List ℕ
magic = codes "COVO"

-- all bytes of parts
abbrev pub object : Parts → List ℕ
object p = magic ++ p.version ∷ [] ++ names p.vars ++ names p.locks ++ threads p.threads

-- Parts that have an object --------------------------------------------------------------------------------------

-- of code of a version, with so many variables and so many locks
module _ (version vars locks : ℕ) where
  -- An instruction has registers, a variable and a lock that are there, and is no output in code of version 1. Its target may
  -- be any word.
  pub record IsInstrInRange (i : Instr) : Type 0 where
    pub registers : IsTrue (has_registers i)
    pub variable : IsTrue (has_variable vars i)
    pub lock : IsTrue (has_lock locks i)
    pub output : IsTrue (has_version version i)
    pub words : HasWords i

  pub record IsLineInRange (l : Line) : Type 0 where
    pub weight : l.weight ≤ 2
    pub instr : IsInstrInRange l.instr

  pub record IsThreadInRange (t : ThreadCode) : Type 0 where
    pub name : IsName t.name
    pub count : IsWord (length t.lines)
    pub lines : All IsLineInRange t.lines

-- The parts have an object: four bytes are enough for each count, and all else is in range. So of the faults of code they have at
-- most two, a name that equals an earlier one and a target past the end.
pub record HasObject (p : Parts) : Type 0 where
  pub version : (p.version ≡ 1) ⊎ (p.version ≡ 2)
  pub var_count : IsWord (length p.vars)
  pub lock_count : IsWord (length p.locks)
  pub thread_count : IsWord (length p.threads)
  pub vars : All IsName p.vars
  pub locks : All IsName p.locks
  pub threads : All (IsThreadInRange p.version (length p.vars) (length p.locks)) p.threads

-- The bytes are the object of these parts.
pub record IsObjectOf (p : Parts) (bytes : List ℕ) : Type 0 where
  pub whole : HasObject p
  pub spelling : bytes ≡ object p

-- Some object begins with these bytes.
abbrev pub BeginsObject : List ℕ → Type 0
BeginsObject bytes = (p : Parts) × HasObject p × (rest : List ℕ) × (object p ≡ bytes ++ rest)
