-- Trees of programs as the grammar reads them, with places.
--
-- A place is the offset of a byte in the text. It stands where a fault or a later report needs it; a program's meaning
-- doesn't depend on places. A name is the number by which the reader knows it, whichever of a variable, a lock or a
-- thread it names.
use Rattle.std.specs.Prelude.{ℕ, List, [], ◌∷◌, Option}
use Rattle.cov_expr.specs.Term.{Term}

-- a value, behind the place of its first token
abbrev pub Placed : Type 0 → Type 0
Placed A = ℕ × A

-- a name and its place, where it is declared
abbrev pub Named : Type 0
Named = ℕ × ℕ

-- Declarations of variables and locks --------------------------------------------------------------------------

-- Who may see a variable: everybody, nobody, or everybody while an expression holds.
pub data Class : Type 0 where
  low : Class
  high : Class
  low_when : Placed Term → Class

pub record Var : Type 0 where
  pub name : Named
  pub class : Class

-- What a lock stands for: what others may not write, what they may not read or write, and what holds while it is free.
pub record Lock : Type 0 where
  pub name : Named
  pub nowrite : List ℕ
  pub hide : List ℕ
  pub inv : Option (Placed Term)

-- Annotations --------------------------------------------------------------------------------------------------

-- What a join, a loop or a note states, with the place of its opening brace: predicates, and types of variables.
pub record State : Type 0 where
  pub at : ℕ
  pub preds : List (Placed Term)
  pub types : List (ℕ × Placed Term)

-- Why a goal follows from hypotheses, which are named by number.
pub data Cert : Type 0 where
  auto : Cert
  calc : Cert
  reflexive : Cert
  ring : Cert
  range : Cert
  hyp : ℕ → Cert
  clash : ℕ → Cert
  absurdity : ℕ → ℕ → Cert
  and : Cert → Cert → Cert
  left : Cert → Cert
  right : Cert → Cert
  unpack : ℕ → Cert → Cert
  cases : ℕ → Cert → Cert → Cert
  split : Placed Term → Cert → Cert → Cert
  have : Placed Term → Cert → Cert → Cert
  negation : Cert → Cert
  contra : Cert → Cert
  fwd : ℕ → (template : Placed Term) → Cert → Cert
  rev : ℕ → (template : Placed Term) → Cert → Cert
  instance : ℕ → (arguments : List (Placed Term)) → Cert → Cert

-- the certificates of a statement's entailments, each by the number of its entailment
abbrev pub Proofs : Type 0
Proofs = List (ℕ × Placed Cert)

-- variables, each with the type that it has from there on
abbrev pub Retypes : Type 0
Retypes = List (ℕ × Placed Term)

-- Statements ---------------------------------------------------------------------------------------------------

mutual
  pub data Stm : Type 0 where
    skip : Stm
    assign : (x : ℕ) → Placed Term → (type : Option (Placed Term)) → Retypes → Proofs → Stm
    lock : ℕ → Stm
    unlock : ℕ → Proofs → Stm
    branch : Placed Term → Block → Block → (join : Option State) → Proofs → Stm
    loop : Placed Term → (inv : Option State) → Block → Proofs → Stm
    note : State → Proofs → Stm
    output : Placed Term → Proofs → Stm

  -- statements in braces, with the places of the braces
  pub data Block : Type 0 where
    block : (begin end : ℕ) → Stms → Block

  -- statements, each with its place
  pub data Stms : Type 0 where
    none : Stms
    next : (at : ℕ) → Stm → Stms → Stms

-- a list of statements as such
abbrev pub stms : List (Placed Stm) → Stms
stms [] = none
stms (s ∷ ss) = next s.0 s.1 (stms ss)

-- Threads and programs -----------------------------------------------------------------------------------------

-- What a thread assumes of the others and guarantees to them: that variables aren't written, or neither read nor written.
pub record Modes : Type 0 where
  pub assume_nowrite : List ℕ
  pub assume_hide : List ℕ
  pub guarantee_nowrite : List ℕ
  pub guarantee_hide : List ℕ

pub record Thread : Type 0 where
  pub name : Named
  pub modes : Modes
  pub body : Block

pub record Program : Type 0 where
  pub version : ℕ
  pub vars : List Var
  pub locks : List Lock
  pub threads : List Thread

-- Rules --------------------------------------------------------------------------------------------------------

-- The rules of the grammar that stand within themselves, always inside brackets. What the other rules mean is written
-- out where they are used.
pub data Rule : Type 0 where
  expr : Rule
  template : Rule
  cert : Rule
  block : Rule

-- the trees of a rule
abbrev pub Meaning : Rule → Type 0
Meaning expr = Term
Meaning template = Term
Meaning cert = Cert
Meaning block = Block
