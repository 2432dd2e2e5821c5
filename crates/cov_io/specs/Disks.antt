-- What a shelf over the calls of a system means, and how its faults come from those calls.
use Rattle.std.specs.Prelude.{◌≡◌, ℕ, ◌+◌, List, [], ◌∷◌, ◌++◌, length, ◌<◌, ◌≤◌, Option, Some, Result, Ok, Err, IfSome, IsSomeAnd, option_map}
use Rattle.cov_io.specs.Calls.{Troubles, HasNoError, IsFault}
use Rattle.cov_io.specs.Shelves.{File, Shelved, bytes_taken, held}
use Rattle.cov_io.specs.declared.shelf.Fetched.{Fetched}
use Rattle.cov_io.specs.declared.shelf.Fetched.TheVariants.{Whole, TooLong}
use Rattle.cov_io.specs.declared.shelf.ShelfFault.{ShelfFault}
use Rattle.cov_io.specs.declared.shelf.ShelfFault.TheVariants.{Failed, NoMemory}

-- What was asked of a disk: the name of each open, also of one that failed, in order, and how many bytes its reads gave.
pub record Log : Type 0 where
  pub opened : List (List ℕ)
  pub read : ℕ

-- the log behind an open of a name
abbrev pub with_open : Option Log → List ℕ → Option Log
with_open log name = option_map (λ l. record { opened = l.opened ++ name ∷ []; read = l.read }) log

-- the log with some bytes more
abbrev pub with_bytes : Option Log → ℕ → Option Log
with_bytes log n = option_map (λ l. record { opened = l.opened; read = l.read + n }) log

-- the log behind a read
abbrev pub after_read : {E : Type 0} → Option Log → Result ℕ E → Option Log
after_read log (Ok n) = with_bytes log n
after_read log (Err error) = log

-- what a shelf means, how its calls of the system went, and what was asked of its disk, where that tells it
pub record Reading : Type 0 where
  pub shelved : Shelved
  pub troubles : Troubles
  pub log : Option Log

-- A file that is opened has the bytes under its name, where those are told: so a name that isn't there isn't opened.
abbrev pub Opens : (told : Option (List File)) (name : List ℕ) (left : Option (List ℕ)) → Type 0
Opens told name left = IfSome told (λ files. IsSomeAnd (held files name) (λ bytes. left ≡ Some bytes))

-- What is read of a file with these bytes, where they are known:
--   Whole: they are all of them, and within the limit.
--   TooLong: there are more than the limit.
abbrev pub ReadsAll : (left : Option (List ℕ)) (limit : ℕ) → Result Fetched ShelfFault → Type 0
ReadsAll left limit (Ok (Whole bytes)) = (length bytes ≤ limit) × IfSome left (λ all. all ≡ bytes)
ReadsAll left limit (Ok TooLong) = IfSome left (λ all. limit < length all)
ReadsAll left limit (Err fault) = Unit {0}

-- How many bytes were read for an answer, and that nothing was opened: as many as are taken for what is fetched; where
-- nothing is, at most one past the limit.
abbrev pub HasRead : (before after : Option Log) (limit : ℕ) → Result Fetched ShelfFault → Type 0
HasRead before after limit (Ok fetched) = after ≡ with_bytes before (bytes_taken limit fetched)
HasRead before after limit (Err fault) = (n : ℕ) × (n ≤ limit + 1) × (after ≡ with_bytes before n)

-- What is asked of a disk for a fetch: one open, of the very name, and then reads.
abbrev pub HasAsked : (before after : Option Log) (name : List ℕ) (limit : ℕ) → Result Fetched ShelfFault → Type 0
HasAsked before after name limit answer = HasRead (with_open before name) after limit answer

-- The causes of an answer among the calls: an error is a fault, and what isn't a fault had no error.
abbrev pub IsCaused : (before after : Troubles) → Result Fetched ShelfFault → Type 0
IsCaused before after (Ok fetched) = HasNoError before after
IsCaused before after (Err Failed) = IsFault before after
IsCaused before after (Err NoMemory) = HasNoError before after
