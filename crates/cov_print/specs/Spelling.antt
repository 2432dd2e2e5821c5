-- The canonical spelling of a program: one text for each tree. Comments and places of the text that was read aren't kept.
--
-- Variables and locks are numbers of a list of names. A number that has no name is the hole of a template.
use Rattle.std.specs.Prelude.{ℕ, ◌==◌, List, [], ◌∷◌, ◌++◌, get_or, Bool, true, false, ◌&&◌, Option, Some, None, codes, decimal, flat_map, if◌then◌else◌}
use Rattle.cov_expr.specs.declared.expr.Op.{Op}
use Rattle.cov_expr.specs.declared.expr.Op.TheVariants.{Add, Sub, Mul, And, Or, Xor, Eq, Ne, Lt, Le, Both, Either}
use Rattle.cov_expr.specs.Term.{Term, const, var, neg, bin}
use Rattle.cov_ast.specs.Syntax as s

abbrev pub Names : Type 0
Names = List (List ℕ)

abbrev pub name : Names → ℕ → List ℕ
name names x = get_or names x (codes "_")

-- Lists --------------------------------------------------------------------------------------------------------

-- each behind a comma and a blank
abbrev pub more : {A : Type 0} → (A → List ℕ) → List A → List ℕ
more spelled xs = flat_map (λ x. codes ", " ++ spelled x) xs

-- with a comma and a blank between
abbrev pub listed : {A : Type 0} → (A → List ℕ) → List A → List ℕ
listed spelled [] = []
listed spelled (x ∷ xs) = spelled x ++ more spelled xs

abbrev pub is_nothing : {A : Type 0} → List A → Bool
is_nothing [] = true
is_nothing (x ∷ xs) = false

-- Expressions --------------------------------------------------------------------------------------------------

-- a binary operator stands between blanks
abbrev pub operator : Op → List ℕ
operator Add = codes " + "
operator Sub = codes " - "
operator Mul = codes " * "
operator And = codes " & "
operator Or = codes " | "
operator Xor = codes " ^ "
operator Eq = codes " == "
operator Ne = codes " != "
operator Lt = codes " < "
operator Le = codes " <= "
operator Both = codes " && "
operator Either = codes " || "

-- a text, where a condition holds
abbrev pub given : Bool → List ℕ → List ℕ
given false text = []
given true text = text

-- Numbers are without leading zeros. A binary operation is in parentheses where it is an operand, and the whole isn't.
abbrev pub expr : Names → (operand : Bool) → Term → List ℕ
expr names operand (const k) = decimal k
expr names operand (var x) = name names x
expr names operand (neg e) = codes "!" ++ expr names true e
expr names operand (bin op a b) = given operand (codes "(") ++ expr names true a ++ operator op ++ expr names true b ++ given operand (codes ")")

abbrev pub whole : Names → Term → List ℕ
whole names e = expr names false e

-- Certificates -------------------------------------------------------------------------------------------------

-- whether it is a lone word
abbrev pub is_word : s.Cert → Bool
is_word s.auto = true
is_word s.calc = true
is_word s.reflexive = true
is_word s.ring = true
is_word s.range = true
is_word (s.hyp i) = false
is_word (s.clash i) = false
is_word (s.absurdity i j) = false
is_word (s.and c d) = false
is_word (s.left c) = false
is_word (s.right c) = false
is_word (s.unpack i c) = false
is_word (s.cases i c d) = false
is_word (s.split e c d) = false
is_word (s.have e c d) = false
is_word (s.negation c) = false
is_word (s.contra c) = false
is_word (s.fwd i e c) = false
is_word (s.rev i e c) = false
is_word (s.instance k es c) = false

-- a certificate inside of another, with the blank before it: in parentheses, unless it is a lone word
abbrev pub inner : s.Cert → List ℕ → List ℕ
inner c text = codes " " ++ (if is_word c then text else codes "(" ++ text ++ codes ")")

-- its word, and then its parts with one blank between
abbrev pub cert : Names → s.Cert → List ℕ
cert names s.auto = codes "auto"
cert names s.calc = codes "calc"
cert names s.reflexive = codes "refl"
cert names s.ring = codes "ring"
cert names s.range = codes "range"
cert names (s.hyp i) = codes "hyp " ++ decimal i
cert names (s.clash i) = codes "clash " ++ decimal i
cert names (s.absurdity i j) = codes "absurd " ++ decimal i ++ codes " " ++ decimal j
cert names (s.and c d) = codes "and" ++ inner c (cert names c) ++ inner d (cert names d)
cert names (s.left c) = codes "left" ++ inner c (cert names c)
cert names (s.right c) = codes "right" ++ inner c (cert names c)
cert names (s.unpack i c) = codes "use " ++ decimal i ++ inner c (cert names c)
cert names (s.cases i c d) = codes "cases " ++ decimal i ++ inner c (cert names c) ++ inner d (cert names d)
cert names (s.split e c d) = codes "split [" ++ whole names e ++ codes "]" ++ inner c (cert names c) ++ inner d (cert names d)
cert names (s.have e c d) = codes "have [" ++ whole names e ++ codes "]" ++ inner c (cert names c) ++ inner d (cert names d)
cert names (s.negation c) = codes "not" ++ inner c (cert names c)
cert names (s.contra c) = codes "contra" ++ inner c (cert names c)
cert names (s.fwd i e c) = codes "fwd " ++ decimal i ++ codes " [" ++ whole names e ++ codes "]" ++ inner c (cert names c)
cert names (s.rev i e c) = codes "rev " ++ decimal i ++ codes " [" ++ whole names e ++ codes "]" ++ inner c (cert names c)
cert names (s.instance k es c) = codes "axiom " ++ decimal k ++ codes " (" ++ listed (whole names) es ++ codes ")" ++ inner c (cert names c)

abbrev pub proof : Names → s.Proof → List ℕ
proof names p = decimal p.number ++ codes ": " ++ cert names p.cert

-- the proofs of a statement, with the blank before them; no proofs are left out
abbrev pub by : Names → List s.Proof → List ℕ
by names [] = []
by names (p ∷ ps) = codes " by { " ++ listed (proof names) (p ∷ ps) ++ codes " }"

-- States -------------------------------------------------------------------------------------------------------

abbrev pub typed : Names → ℕ × Term → List ℕ
typed names t = name names t.0 ++ codes ": " ++ whole names t.1

unfoldable pub state_of : Names → List Term → List (ℕ × Term) → List ℕ
state_of names [] [] = codes "{}"
state_of names (p ∷ ps) [] = codes "{ " ++ listed (whole names) (p ∷ ps) ++ codes " }"
state_of names [] (t ∷ ts) = codes "{ ; " ++ listed (typed names) (t ∷ ts) ++ codes " }"
state_of names (p ∷ ps) (t ∷ ts) = codes "{ " ++ listed (whole names) (p ∷ ps) ++ codes " ; " ++ listed (typed names) (t ∷ ts) ++ codes " }"

abbrev pub state : Names → s.State → List ℕ
state names j = state_of names j.preds j.types

-- a state behind its word; an empty one is left out
unfoldable pub stated_of : Names → (word : List ℕ) → List Term → List (ℕ × Term) → List ℕ
stated_of names word preds types = if is_nothing preds && is_nothing types then [] else word ++ state_of names preds types

abbrev pub stated : Names → (word : List ℕ) → s.State → List ℕ
stated names word j = stated_of names word j.preds j.types

-- Statements ---------------------------------------------------------------------------------------------------

-- a part behind its word; a part that isn't there is left out
abbrev pub maybe : Names → (word : List ℕ) → Option Term → List ℕ
maybe names word None = []
maybe names word (Some e) = word ++ whole names e

abbrev pub retype : Names → ℕ × Term → List ℕ
retype names r = codes " retype " ++ name names r.0 ++ codes " as " ++ whole names r.1

-- two more blanks of indentation
abbrev pub deeper : List ℕ → List ℕ
deeper margin = margin ++ codes "  "

-- A statement's lines begin with a margin, of which the first line's isn't part of its spelling: two blanks for each
-- block around it, the thread's block included.
abbrev mutual
  pub stm : Names → (margin : List ℕ) → s.Stm → List s.Proof → List ℕ
  stm names margin s.skip proofs = codes "skip;"
  stm names margin (s.assign x e q retypes) proofs =
      name names x ++ codes " := " ++ whole names e ++ maybe names (codes " as ") q ++ flat_map (retype names) retypes ++ by names proofs ++ codes ";"
  stm names margin (s.lock l) proofs = codes "lock " ++ name names l ++ codes ";"
  stm names margin (s.unlock l) proofs = codes "unlock " ++ name names l ++ by names proofs ++ codes ";"
  stm names margin (s.branch e a b join) proofs =
      codes "if " ++ whole names e ++ codes " {\n" ++ block names (deeper margin) a ++ margin ++ codes "} else {\n"
      ++ block names (deeper margin) b ++ margin ++ codes "}" ++ stated names (codes " join ") join ++ by names proofs
  stm names margin (s.loop e inv b) proofs =
      codes "while " ++ whole names e ++ stated names (codes " inv ") inv ++ codes " {\n" ++ block names (deeper margin) b ++ margin ++ codes "}"
      ++ by names proofs
  stm names margin (s.note j) proofs = codes "note " ++ state names j ++ by names proofs ++ codes ";"
  stm names margin (s.output e) proofs = codes "output " ++ whole names e ++ by names proofs ++ codes ";"

  -- each statement on lines of its own
  pub block : Names → (margin : List ℕ) → s.Block → List ℕ
  block names margin s.done = []
  block names margin (s.more at stmt proofs rest) = margin ++ stm names margin stmt proofs ++ codes "\n" ++ block names margin rest

-- Declarations -------------------------------------------------------------------------------------------------

abbrev pub class : Names → s.Class → List ℕ
class names s.low = codes "low"
class names s.high = codes "high"
class names (s.when e) = codes "low when " ++ whole names e

abbrev pub var_line : Names → s.Var → List ℕ
var_line names v = codes "var " ++ v.name ++ codes ": " ++ class names v.class ++ codes ";\n"

-- names behind a word; an empty list is left out
abbrev pub named : Names → (word : List ℕ) → List ℕ → List ℕ
named names word [] = []
named names word (x ∷ xs) = word ++ listed (name names) (x ∷ xs)

abbrev pub lock_line : Names → s.Lock → List ℕ
lock_line names l =
    codes "lock " ++ l.name ++ named names (codes " nowrite ") l.nowrite ++ named names (codes " hide ") l.hide ++ maybe names (codes " inv ") l.inv
    ++ codes ";\n"

abbrev pub modes : Names → s.Modes → List ℕ
modes names m =
    named names (codes " assume nowrite ") m.assume_nowrite ++ named names (codes " assume hide ") m.assume_hide
    ++ named names (codes " guarantee nowrite ") m.guarantee_nowrite ++ named names (codes " guarantee hide ") m.guarantee_hide

abbrev pub thread_lines : Names → s.Thread → List ℕ
thread_lines names t = codes "thread " ++ t.name ++ modes names t.modes ++ codes " {\n" ++ block names (deeper []) t.body ++ codes "}\n"

-- the line of the version; the first isn't named
abbrev pub version_line : ℕ → List ℕ
version_line version = given (version == 2) (codes "version 2;\n")

-- The canonical spelling.
abbrev pub spelling : s.Parsed → List ℕ
spelling p = version_line p.version ++ flat_map (var_line p.names) p.vars ++ flat_map (lock_line p.names) p.locks ++ flat_map (thread_lines p.names) p.threads
