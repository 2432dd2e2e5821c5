-- The table of parts of plain statements, which have no annotations: of each kind what it assigns, evaluates, puts out, takes, gives back and has inside.
-- What is said of statements by these is a line over the table, with no row for each kind.
use Rattle.std.specs.Prelude.{ℕ, List, [], ◌++◌, Option, Some, None}
use Rattle.cov_expr.specs.Term.{Term}
use Rattle.cov_ast.specs.Plain.{Cmd, skip, assign, lock, unlock, branch, loop, output, Cmds, none, next}

-- The blocks that a statement has inside, or what is made of each: nothing, one that is run in turns as long as the guard isn't 0, or two, of which the
-- guard decides which is run.
pub data Inside {ℓ} (A : Type ℓ) : Type ℓ where
  nothing : Inside A
  turns : (guard : Term) → A → Inside A
  either : (guard : Term) → (first second : A) → Inside A

-- `evaluated` is the value that is assigned, the guard, or what is put out, which `printed` is too. `taken` and `returned` are locks.
pub record Parts : Type 0 where
  pub assigned : Option ℕ
  pub evaluated : Option Term
  pub printed : Option Term
  pub taken : Option ℕ
  pub returned : Option ℕ
  pub inside : Inside Cmds

abbrev pub no_parts : Parts
no_parts = record { assigned = None; evaluated = None; printed = None; taken = None; returned = None; inside = nothing }

abbrev pub parts : Cmd → Parts
parts skip = no_parts
parts (assign x e) = record no_parts { assigned = Some x; evaluated = Some e }
parts (lock l) = record no_parts { taken = Some l }
parts (unlock l) = record no_parts { returned = Some l }
parts (branch e a b) = record no_parts { evaluated = Some e; inside = either e a b }
parts (loop e b) = record no_parts { evaluated = Some e; inside = turns e b }
parts (output e) = record no_parts { evaluated = Some e; printed = Some e }

-- the first block, and the last one, if there are any
abbrev pub first_block : Inside Cmds → Cmds
first_block nothing = none
first_block (turns e b) = b
first_block (either e a b) = a

abbrev pub last_block : Inside Cmds → Cmds
last_block nothing = none
last_block (turns e b) = b
last_block (either e a b) = b

-- Along a block ------------------------------------------------------------------------------------------------

abbrev mutual
  -- what is made of the blocks inside a statement
  pub made_inside {ℓ} : {A : Type ℓ} → (of_end : A) → (in_front : (at : ℕ) → Cmd → Inside A → (rest : A) → A) → Cmd → Inside A
  made_inside of_end in_front skip = nothing
  made_inside of_end in_front (assign x e) = nothing
  made_inside of_end in_front (lock l) = nothing
  made_inside of_end in_front (unlock l) = nothing
  made_inside of_end in_front (branch e a b) = either e (made of_end in_front a) (made of_end in_front b)
  made_inside of_end in_front (loop e b) = turns e (made of_end in_front b)
  made_inside of_end in_front (output e) = nothing

  -- What is made of a block, from its end on: in front of what is made of the rest a statement at its place, by what is made of the blocks inside it.
  pub made {ℓ} : {A : Type ℓ} → (of_end : A) → (in_front : (at : ℕ) → Cmd → Inside A → (rest : A) → A) → Cmds → A
  made of_end in_front none = of_end
  made of_end in_front (next at c rest) = in_front at c (made_inside of_end in_front c) (made of_end in_front rest)

-- what a statement has of its own, and then what those inside have
abbrev pub with_inside : {A : Type 0} → List A → Inside (List A) → List A
with_inside own nothing = own
with_inside own (turns e xs) = own ++ xs
with_inside own (either e xs ys) = own ++ (xs ++ ys)

-- What is collected of a statement, and then of those in its blocks, in the order of the text, by what each has of its own.
module _ {A : Type 0} (own : Parts → List A) where
  abbrev pub in_front : (at : ℕ) → Cmd → Inside (List A) → (rest : List A) → List A
  in_front at c inside rest = with_inside (own (parts c)) inside ++ rest

  abbrev pub collected : Cmd → List A
  collected c = with_inside (own (parts c)) (made_inside [] in_front c)

  abbrev pub collected_in : Cmds → List A
  collected_in b = made [] in_front b
