-- V8: what its lines tell of: of each lock that is held at one of two ends alone, the statements by which it is.
use Rattle.std.specs.Prelude.{◌≡◌, ◌⊎◌, ◌<◌, ℕ, List, ◌++◌, Bool, false, length, Some, None, codes, decimal}
use Rattle.cov_ast.specs.Declarations.{lock_at}
use Rattle.cov_ast.specs.Plain.{plain, Plain}
use Rattle.cov_ast.specs.Syntax.{Block, Program}
use Rattle.cov_ast.specs.Tables.{has}
use Rattle.statement_paths.specs.LocksHeld.{held_at_end}
use Rattle.text_parts.specs.Lines.{line}
use Rattle.typing_law.specs.ThreadObligations.{agree}
use Rattle.refusal_names.specs.LockChanges.{change_word, last_change, unchanged_words}

-- A lock of a program is held at one of two places alone.
pub record IsApart (p : Plain) (held other : List Bool) : Type 0 where
  pub l : ℕ
  pub declared : l < length p.locks
  pub differs : agree (has held l) (has other l) ≡ false

-- of a block, in front of which these locks are held, and a lock
module _ (bytes : List ℕ) (held : List Bool) (b : Block) (l : ℕ) where
  -- words tell in which line the lock is taken or given back last, and it is held at the end just where it is taken
  pub record IsOfChange (words : List ℕ) : Type 0 where
    pub at : ℕ
    pub takes : Bool
    pub is : last_change l b ≡ Some (at, takes)
    pub decides : has (held_at_end b held) l ≡ takes
    pub told : words ≡ change_word takes ++ decimal (line bytes at)

  -- words tell that it isn't taken, or given back, and it is held at the end just where it is in front
  pub record IsOfNone (words : List ℕ) : Type 0 where
    pub is : last_change l b ≡ None
    pub stays : has (held_at_end b held) l ≡ has held l
    pub told : words ≡ unchanged_words (has held l)

  abbrev pub TellsOfEnd : (words : List ℕ) → Type 0
  TellsOfEnd words = IsOfChange words ⊎ IsOfNone words

-- of a program, where these locks are held in front of a statement, and a lock
module _ (p : Program) (bytes : List ℕ) (held : List Bool) (l : ℕ) where
  -- Of the two blocks of a branch a text has a line that tells by which statements the lock is held at their ends, or isn't.
  pub record TellsOfBranch (a b : Block) (text : List ℕ) : Type 0 where
    pub first_words : List ℕ
    pub first : TellsOfEnd bytes held a l first_words
    pub second_words : List ℕ
    pub second : TellsOfEnd bytes held b l second_words
    pub front : List ℕ
    pub back : List ℕ
    pub told : text ≡ front
        ++ (codes "  " ++ (lock_at (plain p) l).name ++ codes ", in the first block: " ++ first_words ++ (codes "; in the second: " ++ second_words) ++ codes "\n")
        ++ back

  -- Of the block of a loop a text has a line that tells by which statement the lock is held at its end, or isn't.
  pub record TellsOfTurn (b : Block) (text : List ℕ) : Type 0 where
    pub words : List ℕ
    pub change : IsOfChange bytes held b l words
    pub front : List ℕ
    pub back : List ℕ
    pub told : text ≡ front ++ (codes "  " ++ (lock_at (plain p) l).name ++ codes ", in the block: " ++ words ++ codes "\n") ++ back
