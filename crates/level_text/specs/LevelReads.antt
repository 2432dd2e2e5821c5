-- What reading a text of levels answers.
use Rattle.std.specs.Prelude.{◌≡◌, ℕ, List, Option, Some, None, Result, Ok, Err}
use Rattle.cov_ast.specs.Syntax.{Parsed}
use Rattle.cov_text.specs.declared.fault.ParseFault.{ParseFault}
use Rattle.cov_text.specs.declared.fault.ParseFault.TheVariants as faults
use Rattle.cov_text.specs.Text.{IsText, IsFault, names_of, words_of}
use Rattle.level_text.specs.declared.fault.LevelFault.{LevelFault}
use Rattle.level_text.specs.declared.fault.LevelFault.TheVariants as kinds
use Rattle.level_text.specs.declared.lattice.Levels as code
use Rattle.level_text.specs.Lattice.{Levels}
use Rattle.level_text.specs.TextTrees.{LevelText}
use Rattle.level_text.specs.TextGrammar.{level_text}
use Rattle.level_text.specs.TextFaults.{in_level_text, first_fault, levels_given}
use Rattle.level_text.specs.Views as view

-- a fault of a text as one of levels
abbrev pub as_text_fault : ParseFault → LevelFault
as_text_fault faults.NoMemory = kinds.NoMemory
as_text_fault (faults.BadByte place) = kinds.Text (faults.BadByte place)
as_text_fault (faults.NumberTooLarge place) = kinds.Text (faults.NumberTooLarge place)
as_text_fault (faults.NameTooLong place) = kinds.Text (faults.NameTooLong place)
as_text_fault (faults.Unexpected place) = kinds.Text (faults.Unexpected place)
as_text_fault (faults.TooMany c place) = kinds.Text (faults.TooMany c place)
as_text_fault (faults.TooDeep place) = kinds.Text (faults.TooDeep place)

-- The text, of these bytes, and a program's text.
module _ (text : List ℕ) (p : Parsed) where
  -- the text is in the grammar and its limits, with this tree
  abbrev pub Spells : LevelText → Type 0
  Spells t = IsText level_text in_level_text text t

  abbrev pub fault_of_tree : LevelText → Option LevelFault
  fault_of_tree t = first_fault (names_of text) p (words_of text) t

  -- The text gives these levels: it has a tree, and its tree no fault.
  abbrev pub GivesLevels : Levels → Type 0
  GivesLevels l = (t : LevelText) × Spells t × (fault_of_tree t ≡ None) × (l ≡ levels_given (names_of text) p t)

  -- a tree of the text has this first fault
  abbrev pub HasFault : LevelFault → Type 0
  HasFault fault = (t : LevelText) × Spells t × (fault_of_tree t ≡ Some fault)

  -- The first fault of the text: of its bytes, its tokens and its limits; or else of its tree. Want of memory is none.
  abbrev pub IsFirstFault : LevelFault → Type 0
  IsFirstFault (kinds.Text faults.NoMemory) = ⊥
  IsFirstFault (kinds.Text fault) = IsFault level_text in_level_text text fault
  IsFirstFault (kinds.Many place) = HasFault (kinds.Many place)
  IsFirstFault (kinds.Same place) = HasFault (kinds.Same place)
  IsFirstFault (kinds.Unknown place) = HasFault (kinds.Unknown place)
  IsFirstFault (kinds.Plain place) = HasFault (kinds.Plain place)
  IsFirstFault kinds.NoMemory = ⊥

  -- The answer is the levels that the text gives, or its first fault; unless memory ran out.
  abbrev pub Reads : Result code.Levels LevelFault → Type 0
  Reads (Ok l) = GivesLevels (view.levels l)
  Reads (Err kinds.NoMemory) = Unit {0}
  Reads (Err fault) = IsFirstFault fault

  -- The text says one thing: it gives one list of levels at most, has one first fault at most, and never both.
  pub record HasOneReading : Type 0 where
    pub one_value : (l m : Levels) → GivesLevels l → GivesLevels m → l ≡ m
    pub one_fault : (f g : LevelFault) → IsFirstFault f → IsFirstFault g → f ≡ g
    pub not_both : (l : Levels) (f : LevelFault) → GivesLevels l → IsFirstFault f → ⊥
