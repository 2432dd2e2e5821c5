-- A shelf in memory: what it holds, and what each call answers.
use Rattle.std.specs.Prelude.{◌≡◌, ℕ, List, [], ◌∷◌, length, Bool, true, false, nat_lt, ◌==◌, Option, Some, None, Result, Ok, Err, if◌then◌else◌}
use Rattle.std.specs.List.{list_any}
use Rattle.cov_io.specs.Counters.{raised}
use Rattle.cov_io.specs.Shelves.{File, Shelved, held, faults_of, bytes_taken}
use Rattle.cov_io.specs.declared.shelf.Fetched.{Fetched}
use Rattle.cov_io.specs.declared.shelf.Fetched.TheVariants.{Whole, TooLong}
use Rattle.cov_io.specs.declared.shelf.ShelfFault.{ShelfFault}
use Rattle.cov_io.specs.declared.shelf.ShelfFault.TheVariants.{Failed, NoMemory}

-- its files, the numbers of the calls that fail, how many calls there were, and its two counts
pub record Files : Type 0 where
  pub files : List File
  pub fails : List ℕ
  pub calls : ℕ
  pub faults : ℕ
  pub taken : ℕ

-- before the first call
abbrev pub started : List File → List ℕ → Files
started files fails = record { files = files; fails = fails; calls = 0; faults = 0; taken = 0 }

abbrev pub is_empty : List ℕ → Bool
is_empty [] = true
is_empty (x ∷ xs) = false

-- It tells its files, and is sure exactly where no call is to fail.
abbrev pub shelved_of : Files → Shelved
shelved_of s = record { told = Some s.files; sure = is_empty s.fails; calls = s.calls; faults = s.faults; taken = s.taken }

-- whether a call of this number is to fail
abbrev pub is_listed : List ℕ → ℕ → Bool
is_listed fails number = list_any (λ n. n == number) fails

-- what is fetched of the bytes under a name
abbrev pub fetched_of : Option (List ℕ) → ℕ → Result Fetched ShelfFault
fetched_of None limit = Err Failed
fetched_of (Some bytes) limit = if nat_lt limit (length bytes) then Ok TooLong else Ok (Whole bytes)

-- what the next call answers, where memory lasts: calls are numbered from 1
abbrev pub next_fetch : Files → List ℕ → ℕ → Result Fetched ShelfFault
next_fetch s name limit = if is_listed s.fails (raised s.calls 1) then Err Failed else fetched_of (held s.files name) limit

-- An answer is the one that is due, or memory ran out in place of the whole bytes.
abbrev pub Answers : Result Fetched ShelfFault → Result Fetched ShelfFault → Type 0
Answers (Ok (Whole bytes)) (Err NoMemory) = Unit {0}
Answers due answer = answer ≡ due

-- by how much an answer raises the bytes taken
abbrev pub taken_of : ℕ → Result Fetched ShelfFault → ℕ
taken_of limit (Ok fetched) = bytes_taken limit fetched
taken_of limit (Err fault) = 0

-- the shelf behind a call that gave this answer
abbrev pub after_fetch : Files → ℕ → Result Fetched ShelfFault → Files
after_fetch s limit answer = record {
  files = s.files;
  fails = s.fails;
  calls = raised s.calls 1;
  faults = raised s.faults (faults_of answer);
  taken = raised s.taken (taken_of limit answer);
}
