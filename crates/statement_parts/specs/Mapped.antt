-- Statements with other parts: each part of a statement, and of those in its blocks, becomes another, and the kind of each stays.
use Rattle.std.specs.Prelude.{ℕ, List, Option}
use Rattle.cov_expr.specs.Term.{Term}
use Rattle.cov_ast.specs.Syntax.{State, Proof, Stm, skip, assign, lock, unlock, branch, loop, note, output, Block, done, more}

-- What each part becomes. `expression` is of what is evaluated, and `written` and `types` are of the types that an assignment writes and lists. Proofs
-- may depend on their statement and its place.
pub record Mapping : Type 0 where
  pub variable : ℕ → ℕ
  pub lock_number : ℕ → ℕ
  pub expression : Term → Term
  pub written : Option Term → Option Term
  pub types : List (ℕ × Term) → List (ℕ × Term)
  pub state : State → State
  pub place : ℕ → ℕ
  pub proofs : Stm → (place : ℕ) → List Proof → List Proof

-- each part stays
abbrev pub same_parts : Mapping
same_parts = record {
  variable = λ x. x;
  lock_number = λ l. l;
  expression = λ e. e;
  written = λ q. q;
  types = λ retypes. retypes;
  state = λ j. j;
  place = λ at. at;
  proofs = λ c at proofs. proofs;
}

module _ (become : Mapping) where
  abbrev mutual
    pub mapped : Stm → Stm
    mapped skip = skip
    mapped (assign x e q retypes) = assign (become.variable x) (become.expression e) (become.written q) (become.types retypes)
    mapped (lock l) = lock (become.lock_number l)
    mapped (unlock l) = unlock (become.lock_number l)
    mapped (branch e a b join) = branch (become.expression e) (mapped_in a) (mapped_in b) (become.state join)
    mapped (loop e inv b) = loop (become.expression e) (become.state inv) (mapped_in b)
    mapped (note j) = note (become.state j)
    mapped (output e) = output (become.expression e)

    pub mapped_in : Block → Block
    mapped_in done = done
    mapped_in (more at c proofs b) = more (become.place at) (mapped c) (become.proofs c at proofs) (mapped_in b)
