-- The listing of a code: rows of fields.
--
-- The fields of a row stand with one blank between, and each row ends with a line feed. Numbers have no leading zeros.
use Rattle.std.specs.Prelude.{◌≡◌, ℕ, ◌+◌, ◌≤◌, ◌==◌, List, [], ◌∷◌, ◌++◌, length, map, flat_map, get_or, codes, decimal, IsTrue, All, ◌⊎◌, if◌then◌else◌}
use Rattle.cov_expr.specs.Names.{IsName}
use Rattle.cov_expr.specs.Words.{IsWord}
use Rattle.risc_machine.specs.Faults.{has_registers, has_variable, has_lock, has_version}
use Rattle.cov_expr.specs.declared.expr.Op.{Op}
use Rattle.cov_expr.specs.declared.expr.Op.TheVariants.{Add, Sub, Mul, And, Or, Xor, Eq, Ne, Lt, Le, Both, Either}
use Rattle.risc_machine.specs.declared.parts.Instr.{Instr}
use Rattle.risc_machine.specs.declared.parts.Instr.TheVariants.{Load, Store, Jump, Jz, Nop, MovC, MovR, Bin, Acquire, Release, Out}
use Rattle.risc_machine.specs.declared.parts.Line.{Line}
use Rattle.risc_machine.specs.declared.parts.Parts.{Parts}
use Rattle.risc_machine.specs.declared.parts.ThreadCode.{ThreadCode}

-- Fields -------------------------------------------------------------------------------------------------------

abbrev pub register : ℕ → List ℕ
register r = 114 ∷ (48 + r) ∷ []

abbrev pub name : List (List ℕ) → ℕ → List ℕ
name names x = get_or names x []

abbrev pub sign : Op → List ℕ
sign Add = codes "+"
sign Sub = codes "-"
sign Mul = codes "*"
sign And = codes "&"
sign Or = codes "|"
sign Xor = codes "^"
sign Eq = codes "=="
sign Ne = codes "!="
sign Lt = codes "<"
sign Le = codes "<="
sign Both = codes "&&"
sign Either = codes "||"

-- Rows ---------------------------------------------------------------------------------------------------------

-- an instruction, by the names of variables and of locks
abbrev pub instr : (vars locks : List (List ℕ)) → Instr → List (List ℕ)
instr vars locks (Load r x) = codes "load" ∷ register r ∷ name vars x ∷ []
instr vars locks (Store x r) = codes "store" ∷ name vars x ∷ register r ∷ []
instr vars locks (Jump i) = codes "jump" ∷ decimal i ∷ []
instr vars locks (Jz r i) = codes "jz" ∷ register r ∷ decimal i ∷ []
instr vars locks Nop = codes "nop" ∷ []
instr vars locks (MovC r k) = codes "movc" ∷ register r ∷ decimal k ∷ []
instr vars locks (MovR r q) = codes "movr" ∷ register r ∷ register q ∷ []
instr vars locks (Bin op r q) = codes "op" ∷ sign op ∷ register r ∷ register q ∷ []
instr vars locks (Acquire l) = codes "acquire" ∷ name locks l ∷ []
instr vars locks (Release l) = codes "release" ∷ name locks l ∷ []
instr vars locks (Out r) = codes "out" ∷ register r ∷ []

abbrev pub line : (vars locks : List (List ℕ)) → Line → List (List ℕ)
line vars locks l = decimal l.weight ∷ instr vars locks l.instr

abbrev pub declared : List ℕ → List ℕ → List (List ℕ)
declared word n = word ∷ n ∷ []

abbrev pub thread_head : List ℕ → ℕ → List (List ℕ)
thread_head n count = codes "thread" ∷ n ∷ decimal count ∷ []

abbrev pub thread_rows : (vars locks : List (List ℕ)) → ThreadCode → List (List (List ℕ))
thread_rows vars locks t = thread_head t.name (length t.lines) ∷ map (line vars locks) t.lines

abbrev pub head : ℕ → List (List ℕ)
head version = codes "code" ∷ decimal version ∷ []

-- all rows of a code
abbrev pub rows : Parts → List (List (List ℕ))
rows p = head p.version ∷ ((map (declared (codes "var")) p.vars ++ map (declared (codes "lock")) p.locks) ++ flat_map (thread_rows p.vars p.locks) p.threads)

-- Texts --------------------------------------------------------------------------------------------------------

-- the end of a row behind a field
abbrev pub row_end : List (List ℕ) → List ℕ
row_end [] = codes "\n"
row_end (f ∷ fs) = 32 ∷ (f ++ row_end fs)

abbrev pub spelled : List (List ℕ) → List ℕ
spelled [] = codes "\n"
spelled (f ∷ fs) = f ++ row_end fs

abbrev pub listing : Parts → List ℕ
listing p = flat_map spelled (rows p)

-- A line has registers, and names of its variable and its lock.
pub record IsSpelled (vars locks : List (List ℕ)) (l : Line) : Type 0 where
  pub registers : IsTrue (has_registers l.instr)
  pub variable : IsTrue (has_variable (length vars) l.instr)
  pub lock : IsTrue (has_lock (length locks) l.instr)

-- Parts that have a listing -------------------------------------------------------------------------------------

-- the numbers of an instruction that are no ids of names are words
abbrev pub HasWords : Instr → Type 0
HasWords (Load r x) = Unit {0}
HasWords (Store x r) = Unit {0}
HasWords (Jump i) = IsWord i
HasWords (Jz r i) = IsWord i
HasWords Nop = Unit {0}
HasWords (MovC r k) = IsWord k
HasWords (MovR r q) = Unit {0}
HasWords (Bin op r q) = Unit {0}
HasWords (Acquire l) = Unit {0}
HasWords (Release l) = Unit {0}
HasWords (Out r) = Unit {0}

-- of code of a version, with so many variables and so many locks
module _ (version vars locks : ℕ) where
  -- An instruction has registers, a variable and a lock that are there, and is no output in code of version 1. Its target may
  -- be any word.
  pub record IsListedInstr (i : Instr) : Type 0 where
    pub registers : IsTrue (has_registers i)
    pub variable : IsTrue (has_variable vars i)
    pub lock : IsTrue (has_lock locks i)
    pub output : IsTrue (has_version version i)
    pub words : HasWords i

  pub record IsListedLine (l : Line) : Type 0 where
    pub weight : l.weight ≤ 2
    pub instr : IsListedInstr l.instr

  pub record IsListedThread (t : ThreadCode) : Type 0 where
    pub name : IsName t.name
    pub count : IsWord (length t.lines)
    pub lines : All IsListedLine t.lines

-- The parts have a listing: of the faults of code they have at most two, a name that equals an earlier one and a target past
-- the end.
pub record IsListed (p : Parts) : Type 0 where
  pub version : (p.version ≡ 1) ⊎ (p.version ≡ 2)
  pub vars : All IsName p.vars
  pub locks : All IsName p.locks
  pub threads : All (IsListedThread p.version (length p.vars) (length p.locks)) p.threads

-- The text is the listing of these parts.
pub record IsListingOf (p : Parts) (text : List ℕ) : Type 0 where
  pub listed : IsListed p
  pub spelling : text ≡ listing p

-- Lines ---------------------------------------------------------------------------------------------------------

abbrev pub onto : ℕ → List (List ℕ) → List (List ℕ)
onto b [] = (b ∷ []) ∷ []
onto b (l ∷ ls) = (b ∷ l) ∷ ls

-- the lines of a text, each with its line feed, and what stands behind the last line feed
abbrev pub lines_of : List ℕ → List (List ℕ)
lines_of [] = [] ∷ []
lines_of (b ∷ bs) = if b == 10 then (b ∷ []) ∷ lines_of bs else onto b (lines_of bs)

-- Some listing begins with these lines.
abbrev pub BeginsListing : List (List ℕ) → Type 0
BeginsListing ls = (p : Parts) × IsListed p × (rest : List (List ℕ)) × (map spelled (rows p) ≡ ls ++ rest)
