-- A program as plain data, with its annotations.
--
-- Variables, locks and threads are named by number, in the order of their declarations.
use Rattle.std.specs.Prelude.{ℕ, List, Option}
use Rattle.cov_ast.specs.declared.parsed.NameUse.{NameUse}
use Rattle.cov_expr.specs.Term.{Term}

-- What an observer may learn of a variable: its word, nothing, or its word while an expression holds.
pub data Class : Type 0 where
  low : Class
  high : Class
  when : Term → Class

pub record Var : Type 0 where
  pub name : List ℕ
  pub at : ℕ
  pub class : Class

-- What a lock stands for: variables that nobody but its holder writes, variables that nobody but its holder reads or
-- writes, and what holds of them while it is free.
pub record Lock : Type 0 where
  pub name : List ℕ
  pub at : ℕ
  pub nowrite : List ℕ
  pub hide : List ℕ
  pub inv : Option Term

-- What a thread assumes of the others, and what it guarantees to them, for its whole life.
pub record Modes : Type 0 where
  pub assume_nowrite : List ℕ
  pub assume_hide : List ℕ
  pub guarantee_nowrite : List ℕ
  pub guarantee_hide : List ℕ

-- What a join, a loop or a note states: predicates, and types of variables.
pub record State : Type 0 where
  pub preds : List Term
  pub types : List (ℕ × Term)

-- Why a goal follows from hypotheses. `instance` is an axiom with expressions for its letters.
pub data Cert : Type 0 where
  auto : Cert
  hyp : ℕ → Cert
  calc : Cert
  clash : ℕ → Cert
  and : Cert → Cert → Cert
  left : Cert → Cert
  right : Cert → Cert
  unpack : ℕ → Cert → Cert
  cases : ℕ → Cert → Cert → Cert
  split : Term → Cert → Cert → Cert
  have : Term → Cert → Cert → Cert
  absurdity : ℕ → ℕ → Cert
  negation : Cert → Cert
  contra : Cert → Cert
  reflexive : Cert
  fwd : ℕ → Term → Cert → Cert
  rev : ℕ → Term → Cert → Cert
  instance : ℕ → List Term → Cert → Cert
  ring : Cert
  range : Cert

-- the certificate of an entailment of a statement, by its number
pub record Proof : Type 0 where
  pub number : ℕ
  pub cert : Cert

mutual
  pub data Stm : Type 0 where
    skip : Stm
    assign : (x : ℕ) → Term → Option Term → (retypes : List (ℕ × Term)) → Stm
    lock : ℕ → Stm
    unlock : ℕ → Stm
    branch : Term → Block → Block → State → Stm
    loop : Term → State → Block → Stm
    note : State → Stm
    output : Term → Stm

  -- statements, each with its place and its proofs
  pub data Block : Type 0 where
    done : Block
    more : (at : ℕ) → Stm → List Proof → Block → Block

pub record Thread : Type 0 where
  pub name : List ℕ
  pub at : ℕ
  pub modes : Modes
  pub body : Block
  pub end : ℕ

pub record Program : Type 0 where
  pub version : ℕ
  pub vars : List Var
  pub locks : List Lock
  pub threads : List Thread

-- What a text spells: the names in the order of their first occurrence, every use of one, and declarations in which
-- variables and locks are named by number of that list.
pub record Parsed : Type 0 where
  pub version : ℕ
  pub names : List (List ℕ)
  pub uses : List NameUse
  pub vars : List Var
  pub locks : List Lock
  pub threads : List Thread
