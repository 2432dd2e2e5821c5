-- The table of parts: of each kind of statement what it stores, evaluates, takes, gives back, states and has inside. What asks a statement for one of
-- these is a line over the table, with no row for each kind.
use Rattle.std.specs.Prelude.{ℕ, List, [], ◌++◌, map, Option, Some, None, option_map, option_to_list}
use Rattle.std.specs.Option.{option_or}
use Rattle.cov_expr.specs.Term.{Term}
use Rattle.cov_expr.specs.View.{term}
use Rattle.cov_ast.specs.Syntax.{State, Proof, Stm, skip, assign, lock, unlock, branch, loop, note, output, Block, done, more}
use Rattle.cov_ast.specs.View as view
use Rattle.statement_parts.specs.declared.Store as declared_store
use Rattle.statement_parts.specs.declared.Nested as declared_nested
use Rattle.statement_parts.specs.declared.Nested.TheVariants as nested_as
use Rattle.statement_parts.specs.declared.Parts as declared

-- What an assignment stores: the value, in the variable. The type of the value is written, or left to its variables, and other variables may be given
-- new types.
pub record Store : Type 0 where
  pub variable : ℕ
  pub value : Term
  pub written : Option Term
  pub retypes : List (ℕ × Term)

-- the blocks of a statement: none, one that is run in turns, or two, of which one is run
pub data Nested : Type 0 where
  none : Nested
  turn : Block → Nested
  either : (first second : Block) → Nested

-- `guard` decides between blocks or turns, and `printed` is what is put out. `state` is the join of a branch, the invariant of a loop, or a note.
pub record Parts : Type 0 where
  pub store : Option Store
  pub guard : Option Term
  pub printed : Option Term
  pub taken : Option ℕ
  pub returned : Option ℕ
  pub state : Option State
  pub nested : Nested

abbrev pub no_parts : Parts
no_parts = record { store = None; guard = None; printed = None; taken = None; returned = None; state = None; nested = none }

abbrev pub store : (x : ℕ) → Term → Option Term → List (ℕ × Term) → Store
store x e q retypes = record { variable = x; value = e; written = q; retypes = retypes }

abbrev pub parts : Stm → Parts
parts skip = no_parts
parts (assign x e q retypes) = record no_parts { store = Some (store x e q retypes) }
parts (lock l) = record no_parts { taken = Some l }
parts (unlock l) = record no_parts { returned = Some l }
parts (branch e a b join) = record no_parts { guard = Some e; state = Some join; nested = either a b }
parts (loop e inv b) = record no_parts { guard = Some e; state = Some inv; nested = turn b }
parts (note j) = record no_parts { state = Some j }
parts (output e) = record no_parts { printed = Some e }

-- By several parts ---------------------------------------------------------------------------------------------

-- what it evaluates: a value, a guard or what it puts out
abbrev pub evaluated : Parts → Option Term
evaluated ps = option_or (option_map (λ s. s.value) ps.store) (option_or ps.guard ps.printed)

-- a value, unless its type is written
abbrev pub where_unwritten : Option Term → Term → Option Term
where_unwritten None e = Some e
where_unwritten (Some q) e = None

-- the value that is stored without a type of its own
abbrev pub untyped : Option Store → Option Term
untyped None = None
untyped (Some s) = where_unwritten s.written s.value

-- the variable to which it stores, if it does
abbrev pub assigned : Parts → List ℕ
assigned ps = map (λ k. k.variable) (option_to_list ps.store)

-- the type that is written for the value that is stored
abbrev pub written_type : Option Store → Option Term
written_type None = None
written_type (Some s) = s.written

abbrev pub preds_of : Option State → List Term
preds_of None = []
preds_of (Some j) = j.preds

-- the types that are listed, as new ones or in what is stated
abbrev pub listed_types : Option Store → Option State → List (ℕ × Term)
listed_types (Some s) j = s.retypes
listed_types None (Some j) = j.types
listed_types None None = []

-- the guard that doesn't hold behind the statement, as that of a loop
abbrev pub left_guard : Nested → Option Term → Option Term
left_guard none guard = None
left_guard (turn b) guard = guard
left_guard (either a b) guard = None

-- the first block, if there is one
abbrev pub first_block : Nested → Block
first_block none = done
first_block (turn b) = b
first_block (either a b) = a

-- Along a block ------------------------------------------------------------------------------------------------

-- What is made of the blocks inside a statement: of none, of one that is run in turns, with its guard and its invariant, or of two, with the guard that
-- decides and the join behind them.
pub data Inside {ℓ} (A : Type ℓ) : Type ℓ where
  of_none : Inside A
  of_turn : (guard : Term) → (inv : State) → A → Inside A
  of_either : (guard : Term) → (join : State) → (first second : A) → Inside A

abbrev mutual
  pub made_inside {ℓ} : {A : Type ℓ} → (of_end : A) → (in_front : (at : ℕ) → Stm → List Proof → Inside A → (rest : A) → A) → Stm → Inside A
  made_inside of_end in_front skip = of_none
  made_inside of_end in_front (assign x e q retypes) = of_none
  made_inside of_end in_front (lock l) = of_none
  made_inside of_end in_front (unlock l) = of_none
  made_inside of_end in_front (branch e a b join) = of_either e join (made of_end in_front a) (made of_end in_front b)
  made_inside of_end in_front (loop e inv b) = of_turn e inv (made of_end in_front b)
  made_inside of_end in_front (note j) = of_none
  made_inside of_end in_front (output e) = of_none

  -- What is made of a block, from its end on: in front of what is made of the rest each statement, at its place and with its certificates, by what is
  -- made of the blocks inside it.
  pub made {ℓ} : {A : Type ℓ} → (of_end : A) → (in_front : (at : ℕ) → Stm → List Proof → Inside A → (rest : A) → A) → Block → A
  made of_end in_front done = of_end
  made of_end in_front (more at s proofs b) = in_front at s proofs (made_inside of_end in_front s) (made of_end in_front b)

-- The same by what is made of a statement, of its parts and of what is made of its blocks; and of a block, in front of what is made of the rest, by the
-- place, the certificates and what is made of the first statement.
module _ {A B : Type 0} (of : Parts → Inside B → A) (next : (place : ℕ) → List Proof → A → B → B) (last : B) where
  abbrev pub next_of : (at : ℕ) → Stm → List Proof → Inside B → (rest : B) → B
  next_of at s proofs inside rest = next at proofs (of (parts s) inside) rest

  abbrev pub folded : Stm → A
  folded s = of (parts s) (made_inside last next_of s)

  abbrev pub folded_in : Block → B
  folded_in b = made last next_of b

-- what a statement has of its own, and then what those in its blocks have
abbrev pub with_inside : {A : Type 0} → List A → Inside (List A) → List A
with_inside own of_none = own
with_inside own (of_turn e inv xs) = own ++ xs
with_inside own (of_either e join xs ys) = own ++ (xs ++ ys)

-- What is collected of a statement, and then of those in its blocks, in the order of the text, by what each has of its own.
module _ {A : Type 0} (own : Parts → List A) where
  abbrev pub of_parts : Parts → Inside (List A) → List A
  of_parts ps inside = with_inside (own ps) inside

  abbrev pub in_front : (at : ℕ) → List Proof → (first rest : List A) → List A
  in_front at proofs first rest = first ++ rest

  abbrev pub collected : Stm → List A
  collected s = folded of_parts in_front [] s

  abbrev pub collected_in : Block → List A
  collected_in b = folded_in of_parts in_front [] b

-- What the code has of them ------------------------------------------------------------------------------------

abbrev pub store_of : declared_store.Store → Store
store_of s = store s.variable (term s.value.now) (option_map (λ e. term e.now) s.written) (map view.retype s.retypes.now)

abbrev pub nested_of : declared_nested.Nested → Nested
nested_of nested_as.None = none
nested_of (nested_as.Turn b) = turn (view.block b.now)
nested_of (nested_as.Either a b) = either (view.block a.now) (view.block b.now)

abbrev pub parts_of : declared.Parts → Parts
parts_of ps = record {
  store = option_map store_of ps.store;
  guard = option_map (λ e. term e.now) ps.guard;
  printed = option_map (λ e. term e.now) ps.printed;
  taken = ps.taken;
  returned = ps.returned;
  state = option_map (λ j. view.state j.now) ps.state;
  nested = nested_of ps.nested;
}
