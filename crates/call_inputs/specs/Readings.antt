-- Readings: what a command reads, one behind the other, and how that ends: by the calls of a shelf, and by the files that it tells.
use Rattle.std.specs.Prelude.{◌≡◌, ◌≤◌, ◌⊎◌, ℕ, List, length, nat_lt, if◌then◌else◌, Option, Some, None, Result, Ok, Err}
use Rattle.call_reports.specs.AnswerViews.{seen}
use Rattle.call_reports.specs.Replies.{Reply, malformed, read_fault, too_long}
use Rattle.call_reports.specs.declared.answers.Fault.{Fault}
use Rattle.call_reports.specs.declared.answers.Stop.{Stop}
use Rattle.call_reports.specs.declared.answers.Stop.TheVariants as stop
use Rattle.cov_io.specs.Counters.{raised}
use Rattle.cov_io.specs.Shelves.{File, Gives, Passes, Shelved, held}
use Rattle.cov_io.specs.declared.shelf.Fetched.{Fetched}
use Rattle.cov_io.specs.declared.shelf.Fetched.TheVariants.{Whole, TooLong}
use Rattle.cov_io.specs.declared.shelf.ShelfFault.{ShelfFault}
use Rattle.cov_io.specs.declared.shelf.ShelfFault.TheVariants.{Failed, NoMemory}
use Rattle.call_inputs.specs.Rejections.{Rejection, rejected}

-- What is read, up to what is given then. A file of at most so many bytes is fetched, and what these are read as decides what is next; or
-- a text is read that needn't be fetched, as a word of the command line itself, which has a title in reports; or something is asked of
-- what was read, and where that rejects it, nothing more is read.
pub data Reading (A : Type 0) : Type 1 where
  gives : A → Reading A
  tries : (rejection : Option Rejection) (next : Reading A) → Reading A
  file : {B : Type 0} (name : List ℕ) (most : ℕ) (IsRead : List ℕ → B → Type 0) (IsFault : List ℕ → Fault → Type 0) (next : B → Reading A) → Reading A
  argument : {B : Type 0} (title bytes : List ℕ) (IsRead : List ℕ → B → Type 0) (IsFault : List ℕ → Fault → Type 0) (next : B → Reading A) → Reading A

-- a reading, and behind it one by what it gives
abbrev pub then_read : {A B : Type 0} → Reading A → (A → Reading B) → Reading B
then_read (gives x) next = next x
then_read (tries rejection rest) next = tries rejection (then_read rest next)
then_read (file name most IsRead IsFault rest) next = file name most IsRead IsFault (λ x. then_read (rest x) next)
then_read (argument title bytes IsRead IsFault rest) next = argument title bytes IsRead IsFault (λ x. then_read (rest x) next)

-- How a reading ends: it took all; or it stops with a reply; or memory ran out.
pub data End (A : Type 0) : Type 0 where
  took : A → End A
  stops : Reply → End A
  lacks : End A

-- One call of the shelf for a file, and its answer.
pub record Calls (before after : Shelved) (name : List ℕ) (most : ℕ) (answer : Result Fetched ShelfFault) : Type 0 where
  pub gives : Gives before after name most answer
  pub counted : after.calls ≡ raised before.calls 1
  pub passes : Passes before after

module _ {B : Type 0} (IsRead : List ℕ → B → Type 0) (IsFault : List ℕ → Fault → Type 0) (title : List ℕ) where
  module _ (goes_on : B → Type 0) (replies : Reply → Type 0) (Lacks : Type 0) where
    -- What follows bytes: what goes on with what they are read as; or they are malformed, with their fault; or memory ran out.
    abbrev pub FollowsBytes : List ℕ → Type 0
    FollowsBytes bytes = ((x : B) × IsRead bytes x × goes_on x) ⊎ ((fault : Fault) × IsFault bytes fault × replies (malformed title fault)) ⊎ Lacks

    -- What follows a call for a file: what follows its bytes; or it is too long, or the shelf failed; or memory ran out.
    abbrev pub FollowsCall : Result Fetched ShelfFault → Type 0
    FollowsCall (Ok (Whole bytes)) = FollowsBytes bytes
    FollowsCall (Ok TooLong) = replies (too_long title)
    FollowsCall (Err Failed) = replies (read_fault title)
    FollowsCall (Err NoMemory) = Lacks

-- By the calls of a shelf --------------------------------------------------------------------------------------

-- The shelf is called once for each file, in their order, up to the first that isn't read, and not otherwise; what is said of the
-- shelf as it is left, and of how the reading ends, holds. So it is for shelves that tell nothing and for faults in mid-call too: the
-- reply names the file whose call, in this order, is said to have failed.
module _ {A : Type 0} (left : Shelved → End A → Type 0) where
  abbrev pub Reads : Shelved → Reading A → Type 0
  Reads shelf (gives x) = left shelf (took x)
  Reads shelf (tries None next) = Reads shelf next ⊎ left shelf lacks
  Reads shelf (tries (Some rejection) next) = left shelf (stops (rejected rejection)) ⊎ left shelf lacks
  Reads shelf (file name most IsRead IsFault next) =
      (after : Shelved) × (answer : Result Fetched ShelfFault) × Calls shelf after name most answer
      × FollowsCall IsRead IsFault name (λ x. Reads after (next x)) (λ reply. left after (stops reply)) (left after lacks) answer
  Reads shelf (argument title bytes IsRead IsFault next) =
      FollowsBytes IsRead IsFault title (λ x. Reads shelf (next x)) (λ reply. left shelf (stops reply)) (left shelf lacks) bytes

-- By the files that are told -----------------------------------------------------------------------------------

-- what a shelf answers of which no call fails but for a name that isn't there: the bytes under a name, if there are at most so many
abbrev pub answer_by : (most : ℕ) → Option (List ℕ) → Result Fetched ShelfFault
answer_by most None = Err Failed
answer_by most (Some bytes) = Ok (if nat_lt most (length bytes) then TooLong else Whole bytes)

-- how a reading ends where all files are told, no call fails but for a name that isn't told, and memory doesn't run out
module _ {A : Type 0} (files : List File) (ends : End A → Type 0) where
  abbrev pub Over : Reading A → Type 0
  Over (gives x) = ends (took x)
  Over (tries None next) = Over next
  Over (tries (Some rejection) next) = ends (stops (rejected rejection))
  Over (file name most IsRead IsFault next) =
      FollowsCall IsRead IsFault name (λ x. Over (next x)) (λ reply. ends (stops reply)) ⊥ (answer_by most (held files name))
  Over (argument title bytes IsRead IsFault next) = FollowsBytes IsRead IsFault title (λ x. Over (next x)) (λ reply. ends (stops reply)) ⊥ bytes

-- The bytes are read as something that is fit.
abbrev pub IsReadAs : {B : Type 0} → (IsRead : List ℕ → B → Type 0) (bytes : List ℕ) (IsFit : B → Type 0) → Type 0
IsReadAs {B} IsRead bytes IsFit = (x : B) × IsRead bytes x × IsFit x

-- Each file is told, within its limit, and is read, nothing that is asked rejects it, and what is taken in the end is fit.
module _ {A : Type 0} (files : List File) (IsFit : A → Type 0) where
  abbrev pub Takes : Reading A → Type 0
  Takes (gives x) = IsFit x
  Takes (tries rejection next) = (rejection ≡ None) × Takes next
  Takes (file name most IsRead IsFault next) =
      (bytes : List ℕ) × (held files name ≡ Some bytes) × (length bytes ≤ most) × IsReadAs IsRead bytes (λ x. Takes (next x))
  Takes (argument title bytes IsRead IsFault next) = IsReadAs IsRead bytes (λ x. Takes (next x))

-- By a step of the code ----------------------------------------------------------------------------------------

-- how a step ends that stops
abbrev pub stopped : {A : Type 0} → Stop → End A
stopped (stop.Answer answer) = stops (seen answer)
stopped stop.NoMemory = lacks

-- how a step ends, of which callers see the value so
abbrev pub ended : {A B : Type 0} → (view : A → B) → Result A Stop → End B
ended view (Ok x) = took (view x)
ended view (Err why) = stopped why

-- A step reads, by the calls between two states of a shelf, and ends so.
abbrev pub HasRead : {A : Type 0} → (before after : Shelved) → Reading A → End A → Type 0
HasRead before after reading end = Reads (λ shelf last. (shelf ≡ after) × (last ≡ end)) before reading
