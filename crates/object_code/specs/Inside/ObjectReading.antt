-- Reading an object: field by field, from left to right.
--
-- A reader gives what it read and the bytes behind that, or how many bytes are left where it stops: the first of these is the one
-- with which nothing that it reads goes on.
use Rattle.std.specs.Prelude.{ℕ, zero, suc, ◌+◌, ◌*◌, ◌/◌, ◌%◌, ◌==◌, nat_lt, nat_le, List, [], ◌∷◌, ◌++◌, length, Bool, true, not, ◌&&◌, ◌||◌, if◌then◌else◌, Option, Some, None, Result, Ok, Err}
use Rattle.cov_expr.specs.Bytes.{is_lower, is_word}
use Rattle.cov_expr.specs.Spellings.{is_keyword}
use Rattle.cov_expr.specs.declared.expr.Op.{Op}
use Rattle.cov_expr.specs.declared.expr.Op.TheVariants as op
use Rattle.cov_expr.specs.declared.limits.TheConstants.{MOST_NAME_BYTES}
use Rattle.risc_machine.specs.declared.parts.Instr.{Instr}
use Rattle.risc_machine.specs.declared.parts.Instr.TheVariants.{Load, Store, Jump, Jz, Nop, MovC, MovR, Bin, Acquire, Release, Out}
use Rattle.risc_machine.specs.declared.parts.Line.{Line}
use Rattle.risc_machine.specs.declared.parts.Parts.{Parts}
use Rattle.risc_machine.specs.declared.parts.ThreadCode.{ThreadCode}
use Rattle.object_code.specs.Object.{magic}
use Rattle.object_code.specs.declared.opcode.Declared.{Declared}
use Rattle.object_code.specs.declared.opcode.Head.{Head}
use Rattle.object_code.specs.declared.opcode.Opcode.{Opcode}
use Rattle.object_code.specs.declared.opcode.Opcode.TheVariants as kind

abbrev pub Reader : Type 0 → Type 0
Reader A = List ℕ → Result (A × List ℕ) ℕ

infixl 10 ◌>>=◌
abbrev pub ◌>>=◌ : {A B : Type 0} → Result A ℕ → (A → Result B ℕ) → Result B ℕ
(Ok x) >>= f = f x
(Err n) >>= f = Err n

-- one behind the other, of which something is made
abbrev pub then_at : {A B C : Type 0} → Reader A → (A → Reader B) → (A → B → C) → Reader C
then_at first second made bs = first bs >>= λ a. second a.0 a.1 >>= λ b. Ok (made a.0 b.0, b.1)

abbrev pub map_at : {A C : Type 0} → (A → C) → Reader A → Reader C
map_at made read bs = read bs >>= λ a. Ok (made a.0, a.1)

-- so many, one behind the other
abbrev pub many_at : {A : Type 0} → Reader A → ℕ → Reader (List A)
many_at read zero bs = Ok ([], bs)
many_at read (suc n) bs = then_at read (λ _. many_at read n) (λ a others. a ∷ others) bs

-- Bytes --------------------------------------------------------------------------------------------------------

-- a byte that stands for something
abbrev pub found : {A : Type 0} → Option A → List ℕ → ℕ → Result (A × List ℕ) ℕ
found None bs left = Err left
found (Some a) bs left = Ok (a, bs)

abbrev pub value_at : {A : Type 0} → (ℕ → Option A) → Reader A
value_at meaning [] = Err 0
value_at meaning (b ∷ bs) = found (meaning b) bs (length (b ∷ bs))

-- a byte that passes a test
abbrev pub byte_at : (ℕ → Bool) → Reader ℕ
byte_at test [] = Err 0
byte_at test (b ∷ bs) = if test b then Ok (b, bs) else Err (length (b ∷ bs))

unfoldable pub within_at : (low high : ℕ) → Reader ℕ
within_at low high = byte_at (λ b. nat_le low b && nat_le b high)

-- so many bytes, each of which may stand behind those before it
abbrev pub scan : {S : Type 0} → (goes : ℕ → S → ℕ → Bool) → (next : S → ℕ → S) → ℕ → S → Reader (List ℕ)
scan goes next zero s bs = Ok ([], bs)
scan goes next (suc left) s bs = then_at (byte_at (goes left s)) (λ b. scan goes next left (next s b)) (λ b text. b ∷ text) bs

-- Numbers ------------------------------------------------------------------------------------------------------

-- A byte of a number, which is worth `unit`, behind bytes that are worth `base`: what they are worth together. The least
-- number with these bytes has zeros behind them, so it is to be below the bound.
unfoldable pub digit_at : (below base unit : ℕ) → Reader ℕ
digit_at below base unit [] = Err 0
digit_at below base unit (b ∷ bs) = if nat_lt b 256 && nat_lt (base + b * unit) below then Ok (base + b * unit, bs) else Err (length (b ∷ bs))

-- a number below a bound
unfoldable pub number_at : (below : ℕ) → Reader ℕ
number_at below bs = do
  a ← digit_at below 0 1 bs
  b ← digit_at below a.0 256 a.1
  c ← digit_at below b.0 65536 b.1
  digit_at below c.0 16777216 c.1

-- how many numbers have four bytes
abbrev pub words : ℕ
words = 4294967296

-- Names --------------------------------------------------------------------------------------------------------

-- a byte may stand in a name behind those before it
abbrev pub stands : (before : List ℕ) → ℕ → Bool
stands [] b = is_lower b
stands (c ∷ before) b = is_word b

-- A name goes on with a byte, behind which so many are to come: the last byte makes no keyword. Before that the name can still be
-- another one.
abbrev pub goes_on : (left : ℕ) → (before : List ℕ) → ℕ → Bool
goes_on left before b = stands before b && (nat_lt 0 left || not (is_keyword (before ++ b ∷ [])))

abbrev pub with_byte : List ℕ → ℕ → List ℕ
with_byte before b = before ++ b ∷ []

-- the bytes of a name that has so many
unfoldable pub text_at : (len : ℕ) → Reader (List ℕ)
text_at len = scan goes_on with_byte len []

unfoldable pub name_at : Reader (List ℕ)
name_at bs = within_at 1 MOST_NAME_BYTES bs >>= λ len. text_at len.0 len.1

unfoldable pub names_at : Reader (List (List ℕ))
names_at = then_at (number_at words) (many_at name_at) (λ count names. names)

-- Lines --------------------------------------------------------------------------------------------------------

abbrev pub op_of : ℕ → Option Op
op_of b =
    if b == 0 then Some op.Add
    else (if b == 1 then Some op.Sub
    else (if b == 2 then Some op.Mul
    else (if b == 3 then Some op.And
    else (if b == 4 then Some op.Or
    else (if b == 5 then Some op.Xor
    else (if b == 6 then Some op.Eq
    else (if b == 7 then Some op.Ne
    else (if b == 8 then Some op.Lt
    else (if b == 9 then Some op.Le
    else (if b == 10 then Some op.Both
    else (if b == 11 then Some op.Either else None)))))))))))

abbrev pub opcode_of : ℕ → Option Opcode
opcode_of b =
    if b == 0 then Some kind.Load
    else (if b == 1 then Some kind.Store
    else (if b == 2 then Some kind.Jump
    else (if b == 3 then Some kind.Jz
    else (if b == 4 then Some kind.Nop
    else (if b == 5 then Some kind.MovC
    else (if b == 6 then Some kind.MovR
    else (if b == 7 then Some kind.Bin
    else (if b == 8 then Some kind.Acquire
    else (if b == 9 then Some kind.Release
    else (if b == 10 then Some kind.Out else None))))))))))

-- an instruction of the kind can stand in code that declares so much
abbrev pub is_allowed : Declared → Opcode → Bool
is_allowed d kind.Load = nat_lt 0 d.vars
is_allowed d kind.Store = nat_lt 0 d.vars
is_allowed d kind.Jump = true
is_allowed d kind.Jz = true
is_allowed d kind.Nop = true
is_allowed d kind.MovC = true
is_allowed d kind.MovR = true
is_allowed d kind.Bin = true
is_allowed d kind.Acquire = nat_lt 0 d.locks
is_allowed d kind.Release = nat_lt 0 d.locks
is_allowed d kind.Out = nat_le 2 d.version

abbrev pub headed : Declared → (weight : ℕ) → Option Opcode → Option Head
headed d weight None = None
headed d weight (Some k) = if is_allowed d k then Some (record { weight = weight; opcode = k }) else None

-- the weight and the kind for which the first byte of a line stands
unfoldable pub head_of : Declared → ℕ → Option Head
head_of d b = if nat_lt b 48 then headed d (b / 16) (opcode_of (b % 16)) else None

unfoldable pub head_at : Declared → Reader Head
head_at d = value_at (head_of d)

unfoldable pub register_at : Reader ℕ
register_at = within_at 0 7

unfoldable pub operator_at : Reader Op
operator_at = value_at op_of

unfoldable pub register_number_at : (below : ℕ) → Reader (ℕ × ℕ)
register_number_at below = then_at register_at (λ _. number_at below) (λ r n. (r, n))

unfoldable pub registers_at : Reader (ℕ × ℕ)
registers_at = then_at register_at (λ _. register_at) (λ r q. (r, q))

unfoldable pub operands_at : Declared → Opcode → Reader Instr
operands_at d kind.Load = map_at (λ a. Load a.0 a.1) (register_number_at d.vars)
operands_at d kind.Store = map_at (λ a. Store a.1 a.0) (register_number_at d.vars)
operands_at d kind.Jump = map_at Jump (number_at words)
operands_at d kind.Jz = map_at (λ a. Jz a.0 a.1) (register_number_at words)
operands_at d kind.Nop = λ bs. Ok (Nop, bs)
operands_at d kind.MovC = map_at (λ a. MovC a.0 a.1) (register_number_at words)
operands_at d kind.MovR = map_at (λ a. MovR a.0 a.1) registers_at
operands_at d kind.Bin = then_at operator_at (λ _. registers_at) (λ o a. Bin o a.0 a.1)
operands_at d kind.Acquire = map_at Acquire (number_at d.locks)
operands_at d kind.Release = map_at Release (number_at d.locks)
operands_at d kind.Out = map_at Out register_at

unfoldable pub line_at : Declared → Reader Line
line_at d = then_at (head_at d) (λ h. operands_at d h.opcode) (λ h i. record { weight = h.weight; instr = i })

-- Parts --------------------------------------------------------------------------------------------------------

-- a thread's name, and how many lines it has
unfoldable pub thread_head_at : Reader (List ℕ × ℕ)
thread_head_at = then_at name_at (λ _. number_at words) (λ n count. (n, count))

unfoldable pub thread_at : Declared → Reader ThreadCode
thread_at d = then_at thread_head_at (λ h. many_at (line_at d) h.1) (λ h ls. record { name = h.0; lines = ls })

unfoldable pub threads_at : Declared → Reader (List ThreadCode)
threads_at d = then_at (number_at words) (many_at (thread_at d)) (λ count ts. ts)

-- bytes that are given
abbrev pub fixed : List ℕ → Reader (Unit {0})
fixed [] bs = Ok (tt, bs)
fixed (m ∷ ms) bs = then_at (within_at m m) (λ _. fixed ms) (λ _ u. u) bs

unfoldable pub magic_at : Reader (Unit {0})
magic_at = fixed magic

unfoldable pub version_at : Reader ℕ
version_at = then_at magic_at (λ _. within_at 1 2) (λ _ version. version)

-- the version, the variables and the locks
unfoldable pub front_at : Reader ((ℕ × List (List ℕ)) × List (List ℕ))
front_at = then_at (then_at version_at (λ _. names_at) (λ version vars. (version, vars))) (λ _. names_at) (λ front locks. (front, locks))

unfoldable pub parts_at : Reader Parts
parts_at = then_at front_at (λ f. threads_at (record { version = f.0.0; vars = length f.0.1; locks = length f.1 }))
    (λ f ts. record { version = f.0.0; vars = f.0.1; locks = f.1; threads = ts })

-- all of the bytes
abbrev pub all_of : Parts × List ℕ → Result Parts ℕ
all_of (p, []) = Ok p
all_of (p, b ∷ bs) = Err (length (b ∷ bs))

abbrev pub read_all : List ℕ → Result Parts ℕ
read_all bs = parts_at bs >>= all_of
