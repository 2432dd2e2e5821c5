-- What is known of lines behind their writing, and the words and fields of instructions.
use Rattle.std.specs.Prelude.{ℕ, List, [], ◌∷◌, codes, decimal, All}
use Rattle.cov_expr.specs.Names.{IsName}
use Rattle.risc_machine.specs.declared.parts.Instr.{Instr}
use Rattle.risc_machine.specs.declared.parts.Instr.TheVariants.{Load, Store, Jump, Jz, Nop, MovC, MovR, Bin, Acquire, Release, Out}
use Rattle.risc_machine.specs.declared.parts.Line.{Line}
use Rattle.risc_machine.specs.declared.parts.ThreadCode.{ThreadCode}
use Rattle.code_text.specs.Listing.{register, name, sign, HasWords}

abbrev pub AreOfWords : List Line → Type 0
AreOfWords ls = All (λ l. HasWords l.instr) ls

abbrev pub IsOfWords : ThreadCode → Type 0
IsOfWords t = IsName t.name × AreOfWords t.lines

-- the word of an instruction
abbrev pub word : Instr → List ℕ
word (Load r x) = codes "load"
word (Store x r) = codes "store"
word (Jump i) = codes "jump"
word (Jz r i) = codes "jz"
word Nop = codes "nop"
word (MovC r k) = codes "movc"
word (MovR r q) = codes "movr"
word (Bin op r q) = codes "op"
word (Acquire l) = codes "acquire"
word (Release l) = codes "release"
word (Out r) = codes "out"

-- the fields behind it
abbrev pub operands : (vars locks : List (List ℕ)) → Instr → List (List ℕ)
operands vars locks (Load r x) = register r ∷ name vars x ∷ []
operands vars locks (Store x r) = name vars x ∷ register r ∷ []
operands vars locks (Jump i) = decimal i ∷ []
operands vars locks (Jz r i) = register r ∷ decimal i ∷ []
operands vars locks Nop = []
operands vars locks (MovC r k) = register r ∷ decimal k ∷ []
operands vars locks (MovR r q) = register r ∷ register q ∷ []
operands vars locks (Bin op r q) = sign op ∷ register r ∷ register q ∷ []
operands vars locks (Acquire l) = name locks l ∷ []
operands vars locks (Release l) = name locks l ∷ []
operands vars locks (Out r) = register r ∷ []
