-- The levels of binary operators, the tightest first, and reading by them: an operand, and then, level by level, operators
-- with what stands behind them.
use Rattle.std.specs.Prelude.{◌≡◌, ℕ, ◌+◌, ◌<◌, List, [], ◌∷◌, length, drop, get_or, Bool, true, false, if◌then◌else◌, Option, Some, None}
use Rattle.cov_expr.specs.Term.{Term}
use Rattle.cov_expr.specs.declared.expr.Op.{Op}
use Rattle.cov_expr.specs.declared.expr.Op.TheVariants as ops
use Rattle.cov_expr.specs.declared.kind.Kind.{Kind}
use Rattle.cov_expr.specs.declared.kind.Kind.TheVariants as k
use Rattle.cov_grammar.specs.declared.token.Token.{Token}
use Rattle.cov_grammar.specs.Shapes.{Shape, seq, opt, many, head}
use Rattle.cov_grammar.specs.LookAhead.{starts, firsts}
use Rattle.cov_grammar.specs.FirstKinds.{first_kinds}
use Rattle.cov_grammar.specs.Reading.{Reader, ◌>>=◌, reading, got}
use Rattle.cov_grammar.specs.Grammar.{signs, grouped, compared, atom, template_atom, unary, prod, sum, band, bxor, bor, cmp, both, either}
use Rattle.cov_read.specs.declared.level.Level.{Level}
use Rattle.cov_read.specs.declared.level.Level.TheVariants.{Prod, Sum, Band, Bxor, Bor, Compare, Both, Either}

-- Levels of the grammar ----------------------------------------------------------------------------------------

abbrev pub first_sign : Level → Kind × Op
first_sign Prod = (k.Star, ops.Mul)
first_sign Sum = (k.Plus, ops.Add)
first_sign Band = (k.Ampersand, ops.And)
first_sign Bxor = (k.Caret, ops.Xor)
first_sign Bor = (k.Bar, ops.Or)
first_sign Compare = (k.Equal, ops.Eq)
first_sign Both = (k.Both, ops.Both)
first_sign Either = (k.Either, ops.Either)

abbrev pub other_signs : Level → List (Kind × Op)
other_signs Prod = []
other_signs Sum = (k.Minus, ops.Sub) ∷ []
other_signs Band = []
other_signs Bxor = []
other_signs Bor = []
other_signs Compare = (k.Differs, ops.Ne) ∷ (k.Less, ops.Lt) ∷ (k.AtMost, ops.Le) ∷ []
other_signs Both = []
other_signs Either = []

abbrev pub level : Level → Shape Term → Shape Term
level Prod a = prod a
level Sum a = sum a
level Band a = band a
level Bxor a = bxor a
level Bor a = bor a
level Compare a = cmp a
level Both a = both a
level Either a = either a

abbrev pub operand : Level → Shape Term → Shape Term
operand Prod a = unary a
operand Sum a = prod a
operand Band a = sum a
operand Bxor a = band a
operand Bor a = bxor a
operand Compare a = bor a
operand Both a = cmp a
operand Either a = both a

-- whether operators of a level may follow one another
abbrev pub repeats : Level → Bool
repeats Prod = true
repeats Sum = true
repeats Band = true
repeats Bxor = true
repeats Bor = true
repeats Compare = false
repeats Both = true
repeats Either = true

-- where the levels begin that may come behind an operator of a level that stands at an index
abbrev pub next_index : Level → (index : ℕ) → ℕ
next_index l index = if repeats l then index else index + 1

-- all levels
abbrev pub levels : List Level
levels = Prod ∷ Sum ∷ Band ∷ Bxor ∷ Bor ∷ Compare ∷ Both ∷ Either ∷ []

-- an operator of a level and what stands behind it
unfoldable pub tail : Level → Shape Term → Shape (Op × Term)
tail l a = seq (signs (first_sign l) (other_signs l)) (operand l a)

-- an atom, perhaps a hole
abbrev pub atom_of : (holes : Bool) → Shape Term
atom_of true = template_atom
atom_of false = atom

-- Reading level by level ---------------------------------------------------------------------------------------

-- what stands behind an operand: operators of a level that may repeat, or one that may not
abbrev pub tails_by : (repeats : Bool) → Level → Shape Term → Term → Reader Term
tails_by true l a t ts = reading (many (tail l a)) ts >>= λ xs rest. got (grouped t xs) rest
tails_by false l a t ts = reading (opt (tail l a)) ts >>= λ x rest. got (compared t x) rest

abbrev pub tails : Level → Shape Term → Term → Reader Term
tails l a t ts = tails_by (repeats l) l a t ts

-- the same of these levels, one after the other
abbrev pub onward : List Level → Shape Term → Term → Reader Term
onward [] a t ts = got t ts
onward (l ∷ ls) a t ts = tails l a t ts >>= λ u rest. onward ls a u rest

-- an operand and what stands behind it
abbrev pub levelled : List Level → Shape Term → Reader Term
levelled ls a ts = reading (unary a) ts >>= λ t rest. onward ls a t rest

-- Answers of the code ------------------------------------------------------------------------------------------

-- What was answered is the operator of the next token, if it is one of these signs, and else that it is none of them.
abbrev pub SignOf : Kind × Op → List (Kind × Op) → List Token → Option Op → (after : List Token) → Type 0
SignOf x ys ts None rest = (starts (firsts first_kinds (signs x ys)) (head ts) ≡ false) × (rest ≡ ts)
SignOf x ys ts (Some op) rest = (starts (firsts first_kinds (signs x ys)) (head ts) ≡ true) × (reading (signs x ys) ts ≡ got op rest)

-- the same of the signs of a level
abbrev pub SignAt : Level → List Token → Option Op → (after : List Token) → Type 0
SignAt l ts o rest = SignOf (first_sign l) (other_signs l) ts o rest

-- nothing comes of levels
abbrev pub IsDone : List Level → List Token → Type 0
IsDone ls ts = (holes : Bool) (t : Term) → onward ls (atom_of holes) t ts ≡ got t ts

-- nothing comes of any
abbrev pub Ends : List Token → Type 0
Ends ts = (ls : List Level) → IsDone ls ts

-- the same comes of the levels from one index on as from another
abbrev pub Skips : List Level → (from index : ℕ) → List Token → Type 0
Skips ls from index ts = (holes : Bool) (t : Term) → onward (drop from ls) (atom_of holes) t ts ≡ onward (drop index ls) (atom_of holes) t ts

-- What was answered is the operator of the next token, and the index of its level among those from an index on, if it is an
-- operator of these, and else that nothing comes of them.
abbrev pub Finds : List Level → (from : ℕ) → List Token → Option (ℕ × Op) → (after : List Token) → Type 0
Finds ls from ts None rest = IsDone (drop from ls) ts × (rest ≡ ts)
Finds ls from ts (Some x) rest = (x.0 < length ls) × SignAt (get_or ls x.0 Prod) ts (Some x.1) rest × Skips ls from x.0 ts
