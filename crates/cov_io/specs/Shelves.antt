-- What a shelf holds, and what a fetch answers.
use Rattle.std.specs.Prelude.{◌≡◌, ℕ, ◌+◌, ◌<◌, ◌≤◌, List, [], ◌∷◌, length, Bool, false, IsTrue, Option, Some, None, Result, Ok, Err, IfSome, IsSome, IsSomeAnd, IsNone, if◌then◌else◌}
use Rattle.std.specs.Str.{bytes_eq}
use Rattle.cov_io.specs.Counters.{GrewPast, Rose, last_count}
use Rattle.cov_io.specs.declared.shelf.Fetched.{Fetched}
use Rattle.cov_io.specs.declared.shelf.Fetched.TheVariants.{Whole, TooLong}
use Rattle.cov_io.specs.declared.shelf.ShelfFault.{ShelfFault}
use Rattle.cov_io.specs.declared.shelf.ShelfFault.TheVariants.{Failed, NoMemory}

-- a name and the bytes under it
abbrev pub File : Type 0
File = List ℕ × List ℕ

-- the bytes under a name
abbrev pub held : List File → List ℕ → Option (List ℕ)
held [] name = None
held (f ∷ fs) name = if bytes_eq f.0 name then Some f.1 else held fs name

-- no two files have one name
abbrev pub IsDistinctByName : List File → Type 0
IsDistinctByName [] = Unit {0}
IsDistinctByName (f ∷ fs) = IsNone (held fs f.0) × IsDistinctByName fs

-- What a shelf means: its files, where it tells them; whether its calls fail only where the name isn't told; how
-- many calls there were; how often a call failed; how many bytes were taken from files.
pub record Shelved : Type 0 where
  pub told : Option (List File)
  pub sure : Bool
  pub calls : ℕ
  pub faults : ℕ
  pub taken : ℕ

-- a shelf that tells nothing
abbrev pub untold : (calls faults taken : ℕ) → Shelved
untold calls faults taken = record { told = None; sure = false; calls = calls; faults = faults; taken = taken }

-- Calls change neither what is told nor the sureness, and no count falls.
pub record Passes (before after : Shelved) : Type 0 where
  pub told : after.told ≡ before.told
  pub sure : after.sure ≡ before.sure
  pub calls : before.calls ≤ after.calls
  pub faults : before.faults ≤ after.faults
  pub taken : before.taken ≤ after.taken

-- A sure shelf tells, no two files that are told have one name, and the counts have 64 bits.
pub record IsSound (shelf : Shelved) : Type 0 where
  pub tells : IsTrue shelf.sure → IsSome shelf.told
  pub distinct : IfSome shelf.told IsDistinctByName
  pub calls : shelf.calls ≤ last_count
  pub faults : shelf.faults ≤ last_count
  pub taken : shelf.taken ≤ last_count

-- What a fetch answers, in one call or among several, by the shelf before and after:
--   Whole(bytes): they are within the limit, and those under the name, where the shelf tells.
--   TooLong: more bytes than the limit were taken; the bytes under the name are longer, where the shelf tells.
--   Failed: the faults rose; a sure shelf doesn't have the name.
--   NoMemory: at any time.
-- So a shelf that tells answers TooLong exactly where the bytes under the name are longer than the limit and the
-- call doesn't fail, and a sure one fails exactly where it doesn't have the name; NoMemory may come in their place.
abbrev pub Gives : (before after : Shelved) (name : List ℕ) (limit : ℕ) → Result Fetched ShelfFault → Type 0
Gives before after name limit (Ok (Whole bytes)) =
    (length bytes ≤ limit) × IfSome before.told (λ files. held files name ≡ Some bytes)
Gives before after name limit (Ok TooLong) =
    GrewPast limit before.taken after.taken × IfSome before.told (λ files. IsSomeAnd (held files name) (λ bytes. limit < length bytes))
Gives before after name limit (Err Failed) =
    Rose before.faults after.faults × (IsTrue before.sure → IfSome before.told (λ files. IsNone (held files name)))
Gives before after name limit (Err NoMemory) = Unit {0}

-- by how much an answer raises the faults
abbrev pub faults_of : Result Fetched ShelfFault → ℕ
faults_of (Ok fetched) = 0
faults_of (Err Failed) = 1
faults_of (Err NoMemory) = 0

-- how many bytes are taken for what is fetched: of a file that is too long, one past the limit
abbrev pub bytes_taken : ℕ → Fetched → ℕ
bytes_taken limit (Whole bytes) = length bytes
bytes_taken limit TooLong = limit + 1
