-- Reading a listing: line by line, and in each line field by field.
use Rattle.std.specs.Prelude.{ℕ, ◌+◌, ◌-◌, ◌==◌, nat_lt, nat_le, List, [], ◌∷◌, ◌++◌, length, get_or, codes, Bool, true, false, not, ◌&&◌, ◌||◌, if◌then◌else◌, Option, Some, None, option_map, Result, Ok, Err}
use Rattle.std.specs.List.{list_all}
use Rattle.std.specs.Str.{bytes_eq}
use Rattle.std.specs.Str.Parse.{digits_value}
use Rattle.cov_expr.specs.Bytes.{is_digit}
use Rattle.cov_expr.specs.Names.{is_word_text}
use Rattle.cov_expr.specs.Spellings.{is_keyword}
use Rattle.cov_expr.specs.declared.expr.Op.{Op}
use Rattle.cov_expr.specs.declared.limits.TheConstants.{MOST_NAME_BYTES}
use Rattle.cov_expr.specs.declared.expr.Op.TheVariants as op
use Rattle.risc_machine.specs.declared.parts.Instr.{Instr}
use Rattle.risc_machine.specs.declared.parts.Instr.TheVariants.{Load, Store, Jump, Jz, Nop, MovC, MovR, Bin, Acquire, Release, Out}
use Rattle.risc_machine.specs.declared.parts.Line.{Line}
use Rattle.risc_machine.specs.declared.parts.Parts.{Parts}
use Rattle.risc_machine.specs.declared.parts.ThreadCode.{ThreadCode}
use Rattle.code_text.specs.Listing.{onto}
use Rattle.code_text.specs.declared.row.Row.{Row}
use Rattle.code_text.specs.declared.row.Row.TheVariants as row

-- what stands between the bytes `at` of a text, and before the first and behind the last
abbrev pub pieces : ℕ → List ℕ → List (List ℕ)
pieces at [] = [] ∷ []
pieces at (b ∷ bs) = if b == at then [] ∷ pieces at bs else onto b (pieces at bs)

-- Fields -------------------------------------------------------------------------------------------------------

abbrev pub is_name : List ℕ → Bool
is_name f = nat_lt 0 (length f) && nat_le (length f) MOST_NAME_BYTES && is_word_text f && not (is_keyword f)

abbrev pub name_of : List ℕ → Option (List ℕ)
name_of f = if is_name f then Some f else None

-- digits without a leading zero
abbrev pub is_number : List ℕ → Bool
is_number f = list_all is_digit f && nat_lt 0 (length f) && (not (get_or f 0 0 == 48) || length f == 1)

abbrev pub number_of : List ℕ → Option ℕ
number_of f = if is_number f && nat_le (digits_value 10 f) 4294967295 then Some (digits_value 10 f) else None

abbrev pub digit_below : ℕ → ℕ → Bool
digit_below n b = nat_le 48 b && nat_lt b (48 + n)

abbrev pub register_of : List ℕ → Option ℕ
register_of (a ∷ b ∷ []) = if a == 114 && digit_below 8 b then Some (b - 48) else None
register_of _ = None

abbrev pub weight_of : List ℕ → Option ℕ
weight_of (b ∷ []) = if digit_below 3 b then Some (b - 48) else None
weight_of _ = None

-- the first declaration of a name, where the first of these has the number `i`
abbrev pub id_from : ℕ → List (List ℕ) → List ℕ → Option ℕ
id_from i [] f = None
id_from i (n ∷ ns) f = if bytes_eq f n then Some i else id_from (i + 1) ns f

abbrev pub id_of : List (List ℕ) → List ℕ → Option ℕ
id_of names f = id_from 0 names f

abbrev pub op_of : List ℕ → Option Op
op_of f =
    if bytes_eq f (codes "+") then Some op.Add
    else (if bytes_eq f (codes "-") then Some op.Sub
    else (if bytes_eq f (codes "*") then Some op.Mul
    else (if bytes_eq f (codes "&") then Some op.And
    else (if bytes_eq f (codes "|") then Some op.Or
    else (if bytes_eq f (codes "^") then Some op.Xor
    else (if bytes_eq f (codes "==") then Some op.Eq
    else (if bytes_eq f (codes "!=") then Some op.Ne
    else (if bytes_eq f (codes "<") then Some op.Lt
    else (if bytes_eq f (codes "<=") then Some op.Le
    else (if bytes_eq f (codes "&&") then Some op.Both
    else (if bytes_eq f (codes "||") then Some op.Either else None)))))))))))

-- Instructions -------------------------------------------------------------------------------------------------

-- where both fields are read
abbrev pub both : {A B C : Type 0} → (A → B → C) → Option A → Option B → Option C
both f None y = None
both f (Some a) y = option_map (f a) y

abbrev pub no_fields : List ℕ → Option Instr
no_fields w = if bytes_eq w (codes "nop") then Some Nop else None

abbrev pub one_field : (version : ℕ) → (vars locks : List (List ℕ)) → (w a : List ℕ) → Option Instr
one_field version vars locks w a =
    if bytes_eq w (codes "jump") then option_map Jump (number_of a)
    else (if bytes_eq w (codes "acquire") then option_map Acquire (id_of locks a)
    else (if bytes_eq w (codes "release") then option_map Release (id_of locks a)
    else (if bytes_eq w (codes "out") && nat_le 2 version then option_map Out (register_of a) else None)))

abbrev pub two_fields : (vars : List (List ℕ)) → (w a b : List ℕ) → Option Instr
two_fields vars w a b =
    if bytes_eq w (codes "load") then both Load (register_of a) (id_of vars b)
    else (if bytes_eq w (codes "store") then both Store (id_of vars a) (register_of b)
    else (if bytes_eq w (codes "jz") then both Jz (register_of a) (number_of b)
    else (if bytes_eq w (codes "movc") then both MovC (register_of a) (number_of b)
    else (if bytes_eq w (codes "movr") then both MovR (register_of a) (register_of b) else None))))

abbrev pub with_op : Option Op → (r q : Option ℕ) → Option Instr
with_op None r q = None
with_op (Some o) r q = both (Bin o) r q

abbrev pub three_fields : (w a b c : List ℕ) → Option Instr
three_fields w a b c = if bytes_eq w (codes "op") then with_op (op_of a) (register_of b) (register_of c) else None

abbrev pub instr_of : Parts → List (List ℕ) → Option Instr
instr_of p (w ∷ []) = no_fields w
instr_of p (w ∷ a ∷ []) = one_field p.version p.vars p.locks w a
instr_of p (w ∷ a ∷ b ∷ []) = two_fields p.vars w a b
instr_of p (w ∷ a ∷ b ∷ c ∷ []) = three_fields w a b c
instr_of p _ = None

-- Rows ---------------------------------------------------------------------------------------------------------

abbrev pub line_with : (weight : ℕ) → Instr → Row
line_with w i = row.Line (record { weight = w; instr = i })

abbrev pub line_of : Parts → List (List ℕ) → Option Row
line_of p [] = None
line_of p (w ∷ fs) = both line_with (weight_of w) (instr_of p fs)

abbrev pub is_none : {A : Type 0} → List A → Bool
is_none [] = true
is_none (x ∷ xs) = false

-- a name behind `var` or `lock`: variables stand before locks, and both before threads
abbrev pub name_row : Parts → (w n : List ℕ) → Option Row
name_row p w n =
    if bytes_eq w (codes "var") && is_none p.locks && is_none p.threads then option_map row.Var (name_of n)
    else (if bytes_eq w (codes "lock") && is_none p.threads then option_map row.Lock (name_of n) else None)

abbrev pub thread_row : (w n count : List ℕ) → Option Row
thread_row w n count = if bytes_eq w (codes "thread") then both row.Thread (name_of n) (number_of count) else None

abbrev pub head_of : Parts → List (List ℕ) → Option Row
head_of p (w ∷ n ∷ []) = name_row p w n
head_of p (w ∷ n ∷ count ∷ []) = thread_row w n count
head_of p _ = None

-- what was read, and how many lines of the last thread are left
pub record Draft : Type 0 where
  pub parts : Parts
  pub left : ℕ

-- the row that fields are, where so many lines of the last thread are left
abbrev pub row_of : Draft → List (List ℕ) → Option Row
row_of d fs = if nat_lt 0 d.left then line_of d.parts fs else head_of d.parts fs

-- Drafts -------------------------------------------------------------------------------------------------------

-- with a line at the end of the last thread
abbrev pub with_line : List ThreadCode → Line → List ThreadCode
with_line [] l = []
with_line (t ∷ []) l = record { name = t.name; lines = t.lines ++ l ∷ [] } ∷ []
with_line (t ∷ u ∷ ts) l = t ∷ with_line (u ∷ ts) l

abbrev pub with_row : Draft → Row → Draft
with_row d (row.Var n) = record d { parts = record (d.parts) { vars = d.parts.vars ++ n ∷ [] } }
with_row d (row.Lock n) = record d { parts = record (d.parts) { locks = d.parts.locks ++ n ∷ [] } }
with_row d (row.Thread n count) = record { parts = record (d.parts) { threads = d.parts.threads ++ record { name = n; lines = [] } ∷ [] }; left = count }
with_row d (row.Line l) = record { parts = record (d.parts) { threads = with_line d.parts.threads l }; left = d.left - 1 }

abbrev pub begun : ℕ → Draft
begun version = record { parts = record { version = version; vars = []; locks = []; threads = [] }; left = 0 }

-- Texts --------------------------------------------------------------------------------------------------------

-- the parts, behind the last line feed
abbrev pub ended : Draft → ℕ → List ℕ → Result Parts ℕ
ended d n rest = if is_none rest && d.left == 0 then Ok d.parts else Err n

abbrev pub go_on : ℕ → (Row → Result Parts ℕ) → Option Row → Result Parts ℕ
go_on n further None = Err n
go_on n further (Some r) = further r

-- the lines from number `n` on: the parts, or the number of the first line with which no listing goes on
abbrev pub read_lines : List (List ℕ) → Draft → ℕ → Result Parts ℕ
read_lines [] d n = Err n
read_lines (l ∷ []) d n = ended d n l
read_lines (l ∷ m ∷ ls) d n = go_on n (λ r. read_lines (m ∷ ls) (with_row d r) (n + 1)) (row_of d (pieces 32 l))

abbrev pub version_of : List ℕ → Option ℕ
version_of l = if bytes_eq l (codes "code 1") then Some 1 else (if bytes_eq l (codes "code 2") then Some 2 else None)

abbrev pub begin_with : List (List ℕ) → Option ℕ → Result Parts ℕ
begin_with ls None = Err 1
begin_with ls (Some version) = read_lines ls (begun version) 2

abbrev pub read_text : List (List ℕ) → Result Parts ℕ
read_text (l ∷ m ∷ ls) = begin_with (m ∷ ls) (version_of l)
read_text _ = Err 1
