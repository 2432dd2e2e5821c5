-- V8: by which statements of blocks the locks at their ends differ: those that take a lock or give it back last.
use Rattle.std.specs.Prelude.{ℕ, suc, ◌==◌, List, [], ◌∷◌, ◌++◌, Bool, true, false, if◌then◌else◌, Option, Some, None, codes, decimal}
use Rattle.std.specs.Option.{option_or}
use Rattle.cov_ast.specs.Syntax.{Lock, Proof, Stm, Block}
use Rattle.cov_ast.specs.Tables.{has}
use Rattle.statement_parts.specs.Parts.{Inside, made, made_inside, of_either, of_none, of_turn, parts}
use Rattle.text_parts.specs.Lines.{line}
use Rattle.typing_law.specs.ThreadObligations.{agree}

-- The last change ----------------------------------------------------------------------------------------------

-- a change by a statement at a place, where a condition holds
abbrev pub change_where : Bool → (at : ℕ) → (takes : Bool) → Option (ℕ × Bool)
change_where same at takes = if same then Some (at, takes) else None

-- the change at the end of the first of two blocks
abbrev pub change_inside : Inside (Option (ℕ × Bool)) → Option (ℕ × Bool)
change_inside of_none = None
change_inside (of_turn e inv b) = None
change_inside (of_either e join a b) = a

-- by a statement at a place: where it takes a lock or gives one back, and else in its blocks
abbrev pub change_of : (wanted : ℕ) → (at : ℕ) → (taken returned : Option ℕ) → Inside (Option (ℕ × Bool)) → Option (ℕ × Bool)
change_of wanted at (Some l) returned inside = change_where (l == wanted) at true
change_of wanted at None (Some l) inside = change_where (l == wanted) at false
change_of wanted at None None inside = change_inside inside

-- by a statement in front of others: the change by those counts, if there is one
abbrev pub change_or : (wanted : ℕ) → (at : ℕ) → Stm → List Proof → Inside (Option (ℕ × Bool)) → (rest : Option (ℕ × Bool)) → Option (ℕ × Bool)
change_or wanted at s proofs inside rest = option_or rest (change_of wanted at (parts s).taken (parts s).returned inside)

-- The last statement of a block that takes a lock or gives it back, by its place, with whether it takes the lock. Of a branch in the block the
-- first block counts, since the locks at its end are those behind the branch; of a loop none does, since behind it the same locks are held
-- as in front.
abbrev pub last_change : (wanted : ℕ) → Block → Option (ℕ × Bool)
last_change wanted b = made None (change_or wanted) b

-- the same of a statement
abbrev pub change_by : (wanted : ℕ) → (at : ℕ) → Stm → Option (ℕ × Bool)
change_by wanted at s = change_of wanted at (parts s).taken (parts s).returned (made_inside None (change_or wanted) s)

-- The lines ----------------------------------------------------------------------------------------------------

abbrev pub change_word : (takes : Bool) → List ℕ
change_word takes = if takes then codes "taken in line " else codes "given back in line "

-- of a lock that a block leaves as it was, by whether it is held
abbrev pub unchanged_words : (held : Bool) → List ℕ
unchanged_words held = if held then codes "not given back" else codes "not taken"

-- of a lock at the end of a block, by whether it is held there and what changes it last
abbrev pub change_words : (bytes : List ℕ) → (held : Bool) → Option (ℕ × Bool) → List ℕ
change_words bytes held None = unchanged_words held
change_words bytes held (Some (at, takes)) = change_word takes ++ decimal (line bytes at)

-- of the second block, if there is one
abbrev pub second_words : (bytes : List ℕ) → (wanted : ℕ) → (held : Bool) → Option Block → List ℕ
second_words bytes wanted held None = []
second_words bytes wanted held (Some b) = codes "; in the second: " ++ change_words bytes held (last_change wanted b)

abbrev pub first_front : Option Block → List ℕ
first_front None = codes ", in the block: "
first_front (Some b) = codes ", in the first block: "

-- of a lock, at the ends of a block and of a second one, if there is one
abbrev pub change_line : (bytes : List ℕ) → (lock_name : List ℕ) → (wanted : ℕ) → (held held_there : Bool) → (a : Block) → Option Block → List ℕ
change_line bytes lock_name wanted held held_there a other =
    codes "  " ++ lock_name ++ first_front other ++ change_words bytes held (last_change wanted a) ++ second_words bytes wanted held_there other ++ codes "\n"

-- the same where it is held at one of two places alone: at the end of the block and at another, which is that of a second block or the start of this one
abbrev pub change_if_apart : (bytes : List ℕ) → (lock_name : List ℕ) → (wanted : ℕ) → (held held_there : Bool) → (a : Block) → Option Block → List ℕ
change_if_apart bytes lock_name wanted held held_there a other =
    if agree held held_there then [] else change_line bytes lock_name wanted held held_there a other

-- of locks from a number on
abbrev pub changes : (bytes : List ℕ) → (held held_there : List Bool) → (a : Block) → Option Block → (number : ℕ) → List Lock → List ℕ
changes bytes held held_there a other number [] = []
changes bytes held held_there a other number (k ∷ ks) =
    change_if_apart bytes k.name number (has held number) (has held_there number) a other ++ changes bytes held held_there a other (suc number) ks
