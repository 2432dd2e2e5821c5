-- V1 and V2: why a thread may not read or write a variable at a place: a guarantee that it gives, or a lock that it doesn't hold there.
use Rattle.std.specs.Prelude.{◌≡◌, ◌⊎◌, ℕ, suc, ◌<◌, ◌&&◌, List, [], ◌∷◌, ◌++◌, Bool, false, length, Option, Some, None, codes, decimal, if◌then◌else◌}
use Rattle.cov_expr.specs.Trees.{has_number}
use Rattle.cov_ast.specs.Declarations.{lock_at}
use Rattle.cov_ast.specs.NameTables.{find_name}
use Rattle.cov_ast.specs.Plain.{plain}
use Rattle.cov_ast.specs.Syntax.{Lock, Thread, Program}
use Rattle.cov_ast.specs.Tables.{has}
use Rattle.cov_ast.specs.declared.refusal.Detail.{Detail}
use Rattle.cov_ast.specs.declared.refusal.Detail.TheVariants.{One}
use Rattle.cov_print.specs.Spelling.{Names, name}
use Rattle.text_parts.specs.VariableNames.{variable_names}
use Rattle.mode_compat.specs.Compatible.{numbered}
use Rattle.text_parts.specs.Lines.{line}
use Rattle.refusal_names.specs.NameLines.{held_text}

-- Which declaration forbids it ---------------------------------------------------------------------------------

-- The word of the list that forbids to read a variable, or to write it, of the two lists of a thread's guarantees, or of a lock, while
-- the thread doesn't hold it: what is to be left alone is neither read nor written.
abbrev pub forbidding : (nowrite hide : List ℕ) → (writes : Bool) → (x : ℕ) → Option (List ℕ)
forbidding nowrite hide writes x =
    if has_number hide x then Some (codes "hide") else if writes && has_number nowrite x then Some (codes "nowrite") else None

-- of a thread's guarantees
abbrev pub guarantee_forbidding : Thread → (writes : Bool) → (x : ℕ) → Option (List ℕ)
guarantee_forbidding t writes x = forbidding t.modes.guarantee_nowrite t.modes.guarantee_hide writes x

-- of a lock, while it isn't held
abbrev pub lock_forbidding : Lock → (writes : Bool) → (x : ℕ) → Option (List ℕ)
lock_forbidding l writes x = forbidding l.nowrite l.hide writes x

-- a lock with the word, if there is one; else what comes later
abbrev pub with_word : Lock → Option (List ℕ) → (later : Option (Lock × List ℕ)) → Option (Lock × List ℕ)
with_word k None later = later
with_word k (Some word) later = Some (k, word)

-- the first of locks, from a number on, that isn't held and forbids it, with the word
abbrev pub first_forbidding : (held : List Bool) → (writes : Bool) → (x l : ℕ) → List Lock → Option (Lock × List ℕ)
first_forbidding held writes x l [] = None
first_forbidding held writes x l (k ∷ ks) =
    if has held l then first_forbidding held writes x (suc l) ks
    else with_word k (lock_forbidding k writes x) (first_forbidding held writes x (suc l) ks)

-- The line -----------------------------------------------------------------------------------------------------

-- what a declaration is, its name and its line
abbrev pub declared_text : (bytes : List ℕ) → (kind : List ℕ) → (declared : List ℕ) → (at : ℕ) → List ℕ
declared_text bytes kind declared at = codes "  " ++ kind ++ codes " " ++ declared ++ codes ", line " ++ decimal (line bytes at)

-- what it has
abbrev pub list_text : Names → (start word : List ℕ) → (x : ℕ) → (end : List ℕ) → List ℕ
list_text names start word x end = start ++ word ++ codes " " ++ name names x ++ end

abbrev pub guarantee_text : Names → (bytes : List ℕ) → Thread → (word : List ℕ) → (x : ℕ) → List ℕ
guarantee_text names bytes t word x = declared_text bytes (codes "thread") t.name t.at ++ list_text names (codes ", has `guarantee ") word x (codes "`\n")

-- of a lock that isn't held, in front of those that are
abbrev pub lock_start : Names → (bytes : List ℕ) → Lock → (word : List ℕ) → (x : ℕ) → List ℕ
lock_start names bytes l word x = declared_text bytes (codes "lock") l.name l.at ++ list_text names (codes ", has `") word x (codes "`, and isn't held here; held: ")

abbrev pub lock_text : Names → (bytes : List ℕ) → Lock → (word : List ℕ) → (x : ℕ) → (held : List ℕ) → List ℕ
lock_text names bytes l word x held = lock_start names bytes l word x ++ held ++ codes "\n"

-- of a lock, if there is one
abbrev pub lock_or_nothing : Names → (bytes : List ℕ) → Option (Lock × List ℕ) → (x : ℕ) → (held : List ℕ) → List ℕ
lock_or_nothing names bytes None x held = []
lock_or_nothing names bytes (Some k) x held = lock_text names bytes k.0 k.1 x held

-- of a guarantee of the thread, if one forbids it, and else of a lock
abbrev pub guarantee_or_lock : Names → (bytes : List ℕ) → Thread → (guarantee : Option (List ℕ)) → (lock : Option (Lock × List ℕ)) → (x : ℕ) → (held : List ℕ) → List ℕ
guarantee_or_lock names bytes t None lock x held = lock_or_nothing names bytes lock x held
guarantee_or_lock names bytes t (Some word) lock x held = guarantee_text names bytes t word x

-- why a thread that holds these locks may not read or write a variable
abbrev pub access_line : Names → (bytes : List ℕ) → Thread → List Lock → (held : List Bool) → (writes : Bool) → (x : ℕ) → List ℕ
access_line names bytes t locks held writes x =
    guarantee_or_lock names bytes t (guarantee_forbidding t writes x) (first_forbidding held writes x 0 locks) x (held_text locks held)

-- the same of a variable by its name, if there is one
abbrev pub access_of_any : Names → (bytes : List ℕ) → Thread → List Lock → (held : List Bool) → (writes : Bool) → Option ℕ → List ℕ
access_of_any names bytes t locks held writes None = []
access_of_any names bytes t locks held writes (Some x) = access_line names bytes t locks held writes x

-- the same of what a refusal shows
abbrev pub shown_access : Names → (bytes : List ℕ) → Thread → List Lock → (held : List Bool) → (writes : Bool) → Detail → List ℕ
shown_access names bytes t locks held writes (One shown) = access_of_any names bytes t locks held writes (find_name names shown)
shown_access names bytes t locks held writes detail = []

-- What it tells of ---------------------------------------------------------------------------------------------

-- of a thread of a program that holds these locks, and a variable
module _ (p : Program) (bytes : List ℕ) (t : ℕ) (held : List Bool) (writes : Bool) (x : ℕ) where
  -- a text tells of a guarantee that the thread has and that forbids it
  pub record IsOfGuarantee (text : List ℕ) : Type 0 where
    pub word : List ℕ
    pub forbids : guarantee_forbidding (numbered p t) writes x ≡ Some word
    pub told : text ≡ guarantee_text (variable_names p.vars) bytes (numbered p t) word x

  -- a text tells of a lock that the program has, which forbids it and isn't held
  pub record IsOfLock (text : List ℕ) : Type 0 where
    pub number : ℕ
    pub there : number < length p.locks
    pub apart : has held number ≡ false
    pub word : List ℕ
    pub forbids : lock_forbidding (lock_at (plain p) number) writes x ≡ Some word
    pub told : text ≡ lock_text (variable_names p.vars) bytes (lock_at (plain p) number) word x (held_text p.locks held)

  abbrev pub TellsWhy : (text : List ℕ) → Type 0
  TellsWhy text = IsOfGuarantee text ⊎ IsOfLock text
