-- Laws of plans, whatever the command: what a call says of the files that a shelf tells, and how steps of the code carry a plan out.
use Rattle.std.proofs.Common.{◌≡◌, ◌⊎◌, ℕ, ◌+◌, ◌≤◌, List, Result, Option, Ok, Err, Some, None, refl, sym, ap, ◌∙◌, subst, inl, inr, arith}
use Rattle.std.specs.Prelude.{MatchResult}
use Rattle.cov_io.specs.Counters.{Rose, raised}
use Rattle.cov_io.specs.Shelves.{File, Gives, Passes, Shelved, held}
use Rattle.cov_io.specs.Sinks.{Sunk, Writes}
use Rattle.cov_io.specs.declared.shelf.Fetched.{Fetched}
use Rattle.cov_io.specs.declared.shelf.Fetched.TheVariants.{Whole, TooLong}
use Rattle.cov_io.specs.declared.shelf.ShelfFault.{ShelfFault}
use Rattle.cov_io.specs.declared.shelf.ShelfFault.TheVariants.{Failed, NoMemory}
use Rattle.call_reports.specs.AnswerViews.{Gets, Stops, seen}
use Rattle.call_reports.specs.Ends.{Ends}
use Rattle.call_reports.specs.Replies.{Reply, read_fault, too_long, malformed, status_of}
use Rattle.call_reports.specs.Reports.{report_of}
use Rattle.call_reports.specs.declared.answers.Answer.{Answer}
use Rattle.call_reports.specs.declared.answers.Fault.{Fault}
use Rattle.call_reports.specs.declared.answers.Status.{Status}
use Rattle.call_reports.specs.declared.answers.Status.TheVariants as s
use Rattle.call_reports.specs.declared.answers.Stop.{Stop}
use Rattle.call_reports.specs.declared.answers.Stop.TheVariants as stop
use Rattle.call_reports.proofs.EndLaws.{ends_onward}
use Rattle.call_inputs.specs.Plans.{CarriesOut, CarriesOutAsking, CountsAt, EndsAt, GetsAt, IsMet, LacksMemory, Performs, PerformsAsking, Plan, RepliesAt, RepliesOver, Rises, asks, does}
use Rattle.call_inputs.specs.Readings.{End, FollowsBytes, FollowsCall, HasRead, Over, Reading, Reads, Takes, answer_by, argument, ended, file, gives, lacks, stopped, stops, then_read, took, tries}
use Rattle.call_inputs.specs.Steps.{bytes}
use Rattle.call_inputs.specs.Rejections.{Rejection, UnlessRejected, by_rule, by_rule_for, by_rule_open, misfit, no_form, rejected, unfit}
use Rattle.call_inputs.proofs.ReadingLaws.{AreReadings, LeftAt, Onward, Reliable, answer_whole, bytes_read, call_one, bytes_one, left_passes, reads_exact, reads_onward, reads_pass, reads_rose, reads_then, reads_took}

-- How a call ends ----------------------------------------------------------------------------------------------

-- A call whose status is that of a reply put the whole report of it.
abbrev pub Puts : (may_reply : Reply → Type 0) → (old new : Sunk) → Status → Type 0
Puts may_reply old new status = (reply : Reply) × may_reply reply × (status ≡ status_of reply) × Writes old new (report_of reply) (Ok tt)

-- for want of memory, or with a failed write, or with a reply
ends_cases : (may_reply : Reply → Type 0) (old new : Sunk) (status : Status) → Ends may_reply old new status
    → (status ≡ s.NoMemory) ⊎ (status ≡ s.WriteFault) ⊎ Puts may_reply old new status
ends_cases may_reply old new s.NoMemory h = inl refl
ends_cases may_reply old new s.WriteFault h = inr (inl refl)
ends_cases may_reply old new s.Done h = inr (inr h)
ends_cases may_reply old new s.Refused h = inr (inr h)
ends_cases may_reply old new s.Usage h = inr (inr h)
ends_cases may_reply old new s.Malformed h = inr (inr h)
ends_cases may_reply old new s.ReadFault h = inr (inr h)
ends_cases may_reply old new s.TooLong h = inr (inr h)
ends_cases may_reply old new s.Differ h = inr (inr h)
ends_cases may_reply old new s.BadStarts h = inr (inr h)

-- A command did all its work, or found two runs apart.
abbrev pub IsResult : Status → Type 0
IsResult s.Done = Unit {0}
IsResult s.Differ = Unit {0}
IsResult s.Refused = ⊥
IsResult s.Usage = ⊥
IsResult s.Malformed = ⊥
IsResult s.ReadFault = ⊥
IsResult s.WriteFault = ⊥
IsResult s.NoMemory = ⊥
IsResult s.TooLong = ⊥
IsResult s.BadStarts = ⊥

not_result : (status other : Status) → status ≡ other → IsResult status → (IsResult other → ⊥) → ⊥
not_result status other e is none = none (subst IsResult e is)

-- no reading stops with such a reply
abbrev NoResult : Reply → Type 0
NoResult reply = IsResult (status_of reply) → ⊥

rejected_no_result : (rejection : Rejection) → NoResult (rejected rejection)
rejected_no_result no_form h = h
rejected_no_result (by_rule refusal thread) h = h
rejected_no_result (by_rule_for level refusal thread) h = h
rejected_no_result (by_rule_open refusal thread lines) h = h
rejected_no_result (unfit name) h = h
rejected_no_result (misfit name fault) h = h

-- a status that is a result is put with a reply
result_put : (may_reply : Reply → Type 0) (old new : Sunk) (status : Status) → IsResult status → Ends may_reply old new status → Puts may_reply old new status
result_put may_reply old new status is h = by (ends_cases may_reply old new status h)
  where
    by : (status ≡ s.NoMemory) ⊎ (status ≡ s.WriteFault) ⊎ Puts may_reply old new status → Puts may_reply old new status
    by (inl e) = absurd (not_result status s.NoMemory e is (λ h. h))
    by (inr (inl e)) = absurd (not_result status s.WriteFault e is (λ h. h))
    by (inr (inr puts)) = puts

-- Over files ---------------------------------------------------------------------------------------------------

module _ {A : Type 0} (files : List File) where
  -- a fact of each end that takes all
  pub takes_onward : (IsFit IsFit' : A → Type 0) → ((x : A) → IsFit x → IsFit' x) → (reading : Reading A) → Takes files IsFit reading → Takes files IsFit' reading
  takes_onward IsFit IsFit' each (gives x) h = each x h
  takes_onward IsFit IsFit' each (tries rejection next) h = (h.0, takes_onward IsFit IsFit' each next h.1)
  takes_onward IsFit IsFit' each (file name most IsRead IsFault next) (bytes, at, fits, (x, is_read, h)) =
      (bytes, at, fits, (x, is_read, takes_onward IsFit IsFit' each (next x) h))
  takes_onward IsFit IsFit' each (argument title bytes IsRead IsFault next) (x, is_read, h) = (x, is_read, takes_onward IsFit IsFit' each (next x) h)

  -- what was taken in the end
  pub at_end : {P : Type 0} (reading : Reading A) (IsFit : A → Type 0) → ((x : A) → IsFit x → P) → Takes files IsFit reading → P
  at_end (gives x) IsFit each h = each x h
  at_end (tries rejection next) IsFit each h = at_end next IsFit each h.1
  at_end (file name most IsRead IsFault next) IsFit each (bytes, at, fits, (x, is_read, h)) = at_end (next x) IsFit each h
  at_end (argument title bytes IsRead IsFault next) IsFit each (x, is_read, h) = at_end (next x) IsFit each h

  module _ (may_reply : A → Reply → Type 0) where
    -- one reply at most
    pub over_one : (reply other : Reply) (reading : Reading A) → AreReadings reading → ((x : A) → may_reply x reply → may_reply x other → reply ≡ other)
        → Over files (λ end. RepliesAt may_reply end reply) reading → Over files (λ end. RepliesAt may_reply end other) reading → reply ≡ other
    over_one reply other (gives x) sound one h k = one x h k
    over_one reply other (tries None next) sound one h k = over_one reply other next sound one h k
    over_one reply other (tries (Some rejection) next) sound one h k = h ∙ sym k
    over_one reply other (file name most IsRead IsFault next) sound one h k =
        call_one IsRead IsFault name sound.0 reply other (λ x. Over files (λ end. RepliesAt may_reply end reply) (next x))
        (λ x. Over files (λ end. RepliesAt may_reply end other) (next x)) (λ x. over_one reply other (next x) (sound.1 x) one)
        (answer_by most (held files name)) h k
    over_one reply other (argument title bytes IsRead IsFault next) sound one h k =
        bytes_one IsRead IsFault title sound.0 reply other (λ x. Over files (λ end. RepliesAt may_reply end reply) (next x))
        (λ x. Over files (λ end. RepliesAt may_reply end other) (next x)) (λ x. over_one reply other (next x) (sound.1 x) one) bytes h k

    module _ (old new : Sunk) (status : Status) where
      bytes_ends : {B : Type 0} (IsRead : List ℕ → B → Type 0) (IsFault : List ℕ → Fault → Type 0) (title : List ℕ) (next : B → Reading A) (bytes : List ℕ)
          → ((x : B) → Over files (EndsAt may_reply old new status) (next x) → Ends (λ reply. Over files (λ end. RepliesAt may_reply end reply) (next x)) old new status)
          → FollowsBytes IsRead IsFault title (λ x. Over files (EndsAt may_reply old new status) (next x)) (λ r. Ends (λ reply. reply ≡ r) old new status) ⊥ bytes
          → Ends (λ reply. FollowsBytes IsRead IsFault title (λ x. Over files (λ end. RepliesAt may_reply end reply) (next x)) (λ r. reply ≡ r) ⊥ bytes) old new status
      bytes_ends IsRead IsFault title next bytes each (inl (x, is_read, h)) =
          ends_onward (λ reply. Over files (λ end. RepliesAt may_reply end reply) (next x))
          (λ reply. FollowsBytes IsRead IsFault title (λ x. Over files (λ end. RepliesAt may_reply end reply) (next x)) (λ r. reply ≡ r) ⊥ bytes) old new status
          (λ reply k. inl (x, is_read, k)) (each x h)
      bytes_ends IsRead IsFault title next bytes each (inr (inl (fault, is, h))) =
          ends_onward (λ reply. reply ≡ malformed title fault)
          (λ reply. FollowsBytes IsRead IsFault title (λ x. Over files (λ end. RepliesAt may_reply end reply) (next x)) (λ r. reply ≡ r) ⊥ bytes) old new status
          (λ reply k. inr (inl (fault, is, k))) h
      bytes_ends IsRead IsFault title next bytes each (inr (inr none)) = absurd none

      call_ends : {B : Type 0} (IsRead : List ℕ → B → Type 0) (IsFault : List ℕ → Fault → Type 0) (title : List ℕ) (next : B → Reading A) (answer : Result Fetched ShelfFault)
          → ((x : B) → Over files (EndsAt may_reply old new status) (next x) → Ends (λ reply. Over files (λ end. RepliesAt may_reply end reply) (next x)) old new status)
          → FollowsCall IsRead IsFault title (λ x. Over files (EndsAt may_reply old new status) (next x)) (λ r. Ends (λ reply. reply ≡ r) old new status) ⊥ answer
          → Ends (λ reply. FollowsCall IsRead IsFault title (λ x. Over files (λ end. RepliesAt may_reply end reply) (next x)) (λ r. reply ≡ r) ⊥ answer) old new status
      call_ends IsRead IsFault title next (Ok (Whole bytes)) each h = bytes_ends IsRead IsFault title next bytes each h
      call_ends IsRead IsFault title next (Ok TooLong) each h = h
      call_ends IsRead IsFault title next (Err Failed) each h = h
      call_ends IsRead IsFault title next (Err NoMemory) each h = absurd h

      -- how a call ends over files, by its one reply
      over_ends : (reading : Reading A) → Over files (EndsAt may_reply old new status) reading
          → Ends (λ reply. Over files (λ end. RepliesAt may_reply end reply) reading) old new status
      over_ends (gives x) h = h
      over_ends (tries None next) h = over_ends next h
      over_ends (tries (Some rejection) next) h = h
      over_ends (file name most IsRead IsFault next) h = call_ends IsRead IsFault name next (answer_by most (held files name)) (λ x. over_ends (next x)) h
      over_ends (argument title bytes IsRead IsFault next) h = bytes_ends IsRead IsFault title next bytes (λ x. over_ends (next x)) h

  -- Where all is there that is read, all is taken.
  over_took : (ends : End A → Type 0) (reading : Reading A) → AreReadings reading → Takes files (λ x. Unit {0}) reading → Over files ends reading
      → (x : A) × ends (took x)
  over_took ends (gives x) sound met h = (x, h)
  over_took ends (tries None next) sound met h = over_took ends next sound met.1 h
  over_took ends (tries (Some rejection) next) sound met h = let wrong : Some rejection ≡ None = met.0 in cc
  over_took ends (file name most IsRead IsFault next) sound (bytes, at, fits, (x, is_read, met)) h =
      over_took ends (next x) (sound.1 x) met
      (bytes_read IsRead IsFault name sound.0 (λ x. Over files ends (next x)) (λ reply. ends (stops reply)) bytes x is_read
      (subst (FollowsCall IsRead IsFault name (λ x. Over files ends (next x)) (λ reply. ends (stops reply)) ⊥) (sym (answer_whole most (held files name) bytes at fits)) h))
  over_took ends (argument title bytes IsRead IsFault next) sound (x, is_read, met) h =
      over_took ends (next x) (sound.1 x) met (bytes_read IsRead IsFault title sound.0 (λ x. Over files ends (next x)) (λ reply. ends (stops reply)) bytes x is_read h)

-- Sound plans --------------------------------------------------------------------------------------------------

-- There is one reply at most, and it is one of success.
pub record IsSoundReply (IsSuccess : Status → Type 0) (may_reply : Reply → Type 0) : Type 0 where
  pub one : (reply other : Reply) → may_reply reply → may_reply other → reply ≡ other
  pub success : (reply : Reply) → may_reply reply → IsSuccess (status_of reply)

-- of one reply
pub one_sound : (it : Reply) → status_of it ≡ s.Done → IsSoundReply (λ status. status ≡ s.Done) (λ reply. reply ≡ it)
one_sound it done = record { one = λ reply other h k. h ∙ sym k; success = λ reply h. ap status_of h ∙ done }

abbrev pub IsSound : (IsSuccess : Status → Type 0) → Plan → Type 0
IsSound IsSuccess (asks reading may_reply due) = AreReadings reading × ((x : _) → IsSoundReply IsSuccess (may_reply x))

pub reply_one : (IsSuccess : Status → Type 0) (files : List File) (plan : Plan) (reply other : Reply) → IsSound IsSuccess plan → RepliesOver files plan reply
    → RepliesOver files plan other → reply ≡ other
reply_one IsSuccess files (asks reading may_reply due) reply other sound h k =
    over_one files may_reply reply other reading sound.0 (λ x. (sound.1 x).one reply other) h k

-- Calls that perform a plan ------------------------------------------------------------------------------------

module _ (before after : Shelved) (old new : Sunk) (status : Status) where
  -- What is replied by the calls is what the files say.
  pub performs_exact : (files : List File) (plan : Plan) → before.told ≡ Some files → Reliable before after → Performs before after old new plan status
      → Ends (RepliesOver files plan) old new status
  performs_exact files (asks reading may_reply due) told reliable h =
      by (reads_exact (EndsAt may_reply old new status) after files before reading told reliable h)
    where
      by : Over files (EndsAt may_reply old new status) reading ⊎ ((status ≡ s.NoMemory) × (new ≡ old)) → Ends (RepliesOver files (asks reading may_reply due)) old new status
      by (inl over) = over_ends files may_reply old new status reading over
      by (inr (e, same)) = subst (Ends (RepliesOver files (asks reading may_reply due)) old new) (sym e) same

  pub performs_passes : (plan : Plan) → Performs before after old new plan status → Passes before after
  performs_passes (asks reading may_reply due) h =
      reads_pass (LeftAt after (EndsAt may_reply old new status)) after (left_passes (EndsAt may_reply old new status) after) before reading h

  -- A result is one of what was taken, and then all was there.
  pub performs_took : {A : Type 0} (files : List File) (reading : Reading A) (may_reply : A → Reply → Type 0) (due : A → ℕ) → before.told ≡ Some files
      → IsResult status → Performs before after old new (asks reading may_reply due) status → Takes files (λ x. Puts (may_reply x) old new status) reading
  performs_took files reading may_reply due told is h =
      takes_onward files (λ x. Ends (may_reply x) old new status) (λ x. Puts (may_reply x) old new status) (λ x. result_put (may_reply x) old new status is) reading
      (reads_took (EndsAt may_reply old new status) after files NoResult rejected_no_result (λ title fault h. h) (λ name h. h) (λ name h. h)
      (λ reply none ends. none (subst IsResult (result_is reply ends) is)) (λ lack. not_result status s.NoMemory lack.0 is (λ h. h)) before reading told h)
    where
      result_is : (reply : Reply) → Ends (λ r. r ≡ reply) old new status → status ≡ status_of reply
      result_is reply ends = let puts = result_put (λ r. r ≡ reply) old new status is ends in puts.2 ∙ ap status_of puts.1

  -- A read fault comes only where the shelf's faults rose.
  pub performs_fault : (IsSuccess : Status → Type 0) → ((status : Status) → IsSuccess status → IsResult status) → (plan : Plan) → IsSound IsSuccess plan
      → status ≡ s.ReadFault → Performs before after old new plan status → Rose before.faults after.faults
  performs_fault IsSuccess results (asks reading may_reply due) sound fault h =
      reads_rose (EndsAt may_reply old new status) after (λ reply. status_of reply ≡ s.ReadFault → ⊥) rejects (λ title found e. cc) (λ name e. cc) other
      (λ lack. let wrong : s.NoMemory ≡ s.ReadFault = sym lack.0 ∙ fault in cc) succeeds before reading h
    where
      rejects : (rejection : Rejection) → status_of (rejected rejection) ≡ s.ReadFault → ⊥
      rejects no_form e = cc
      rejects (by_rule refusal thread) e = cc
      rejects (by_rule_for level refusal thread) e = cc
      rejects (by_rule_open refusal thread lines) e = cc
      rejects (unfit name) e = cc
      rejects (misfit name fault) e = cc

      by : (replies : Reply → Type 0) → (status ≡ s.NoMemory) ⊎ (status ≡ s.WriteFault) ⊎ Puts replies old new status
          → (reply : Reply) × replies reply × (status_of reply ≡ s.ReadFault)
      by replies (inl e) = let wrong : s.NoMemory ≡ s.ReadFault = sym e ∙ fault in cc
      by replies (inr (inl e)) = let wrong : s.WriteFault ≡ s.ReadFault = sym e ∙ fault in cc
      by replies (inr (inr puts)) = (puts.0, puts.1, sym puts.2 ∙ fault)

      other : (reply : Reply) → (status_of reply ≡ s.ReadFault → ⊥) → Ends (λ r. r ≡ reply) old new status → ⊥
      other reply none ends = let put = by (λ r. r ≡ reply) (ends_cases (λ r. r ≡ reply) old new status ends) in none (sym (ap status_of put.1) ∙ put.2)

      succeeds : (x : _) → Ends (may_reply x) old new status → ⊥
      succeeds x ends =
          let put = by (may_reply x) (ends_cases (may_reply x) old new status ends) in
          not_result (status_of put.0) s.ReadFault put.2 (results (status_of put.0) ((sound.1 x).success put.0 put.1)) (λ h. h)

  -- Where all is there that a plan asks, and no call failed, there is success, unless memory ran out or the write failed.
  pub performs_met : (IsSuccess : Status → Type 0) (files : List File) (plan : Plan) → IsSound IsSuccess plan → before.told ≡ Some files → Reliable before after
      → IsMet files plan → Performs before after old new plan status → (status ≡ s.NoMemory) ⊎ (status ≡ s.WriteFault) ⊎ IsSuccess status
  performs_met IsSuccess files (asks reading may_reply due) sound told reliable met h =
      by (reads_exact (EndsAt may_reply old new status) after files before reading told reliable h)
    where
      cases : (x : _) → (status ≡ s.NoMemory) ⊎ (status ≡ s.WriteFault) ⊎ Puts (may_reply x) old new status → (status ≡ s.NoMemory) ⊎ (status ≡ s.WriteFault) ⊎ IsSuccess status
      cases x (inl e) = inl e
      cases x (inr (inl e)) = inr (inl e)
      cases x (inr (inr puts)) = inr (inr (subst IsSuccess (sym puts.2) ((sound.1 x).success puts.0 puts.1)))

      by : Over files (EndsAt may_reply old new status) reading ⊎ ((status ≡ s.NoMemory) × (new ≡ old)) → (status ≡ s.NoMemory) ⊎ (status ≡ s.WriteFault) ⊎ IsSuccess status
      by (inl over) = let end = over_took files (EndsAt may_reply old new status) reading sound.0 met over in cases end.0 (ends_cases (may_reply end.0) old new status end.1)
      by (inr (e, same)) = inl e

-- Steps of the code --------------------------------------------------------------------------------------------

module _ {A B : Type 0} (reading : Reading A) (next : A → Reading B) (left : Shelved → End B → Type 0) (before between : Shelved) where
  -- a step read something, and what is next goes on
  pub read_on : (x : A) → HasRead before between reading (took x) → Reads left between (next x) → Reads left before (then_read reading next)
  read_on x h rest = reads_then left next before reading (reads_onward (λ shelf last. (shelf ≡ between) × (last ≡ took x)) (Onward left next) each before reading h)
    where
      each : (shelf : Shelved) (end : End A) → (shelf ≡ between) × (end ≡ took x) → Onward left next shelf end
      each shelf end e = subst (λ s. Onward left next s end) (sym e.0) (subst (Onward left next between) (sym e.1) rest)

  -- a step stopped, and nothing is next
  pub read_stopped : (why : Stop) → HasRead before between reading (stopped why) → left between (stopped why) → Reads left before (then_read reading next)
  read_stopped (stop.Answer answer) h end =
      reads_then left next before reading (reads_onward (λ shelf last. (shelf ≡ between) × (last ≡ stopped (stop.Answer answer))) (Onward left next)
      (λ shelf last e. subst (λ s. Onward left next s last) (sym e.0) (subst (Onward left next between) (sym e.1) end)) before reading h)
  read_stopped stop.NoMemory h end =
      reads_then left next before reading (reads_onward (λ shelf last. (shelf ≡ between) × (last ≡ stopped stop.NoMemory)) (Onward left next)
      (λ shelf last e. subst (λ s. Onward left next s last) (sym e.0) (subst (Onward left next between) (sym e.1) end)) before reading h)

module _ {A B : Type 0} (reading : Reading A) (next : A → Reading B) (may_reply : B → Reply → Type 0) (before after : Shelved) where
  pub carried_on : (x : A) (r : Result Answer Stop) → HasRead before after reading (took x) → CarriesOut after after (does (next x) may_reply) r
      → CarriesOut before after (does (then_read reading next) may_reply) r
  carried_on x r h rest = read_on reading next (λ shelf end. (shelf ≡ after) × GetsAt may_reply end r) before after x h rest

  pub carried_not : (why : Stop) → HasRead before after reading (stopped why) → CarriesOut before after (does (then_read reading next) may_reply) (Err why)
  carried_not (stop.Answer answer) h =
      read_stopped reading next (λ shelf end. (shelf ≡ after) × GetsAt may_reply end (Err (stop.Answer answer))) before after (stop.Answer answer) h (refl, refl)
  carried_not stop.NoMemory h =
      read_stopped reading next (λ shelf end. (shelf ≡ after) × GetsAt may_reply end (Err stop.NoMemory)) before after stop.NoMemory h (refl, tt)

module _ {A : Type 0} (may_reply : A → Reply → Type 0) (x : A) (shelf : Shelved) (r : Result Answer Stop) where
  -- what is left may be rejected for one reason, or for two
  pub carried_try : (rejection : Option Rejection) → Gets (UnlessRejected rejection (may_reply x)) r → CarriesOut shelf shelf (does (tries rejection (gives x)) may_reply) r
  carried_try None h = inl (refl, h)
  carried_try (Some rejection) h = inl (refl, h)

  pub carried_tries : (rejection other : Option Rejection) → Gets (UnlessRejected rejection (UnlessRejected other (may_reply x))) r
      → CarriesOut shelf shelf (does (tries rejection (tries other (gives x))) may_reply) r
  carried_tries None other h = inl (carried_try other h)
  carried_tries (Some rejection) other h = inl (refl, h)

-- Commands that ask no judge, and a call without what it asks --------------------------------------------------

-- A plan asks a judge of nothing.
abbrev pub AsksNothing : Plan → Type 0
AsksNothing (asks reading may_reply due) = (x : _) → due x ≡ 0

-- where nothing is due, and nothing was asked
pub rises_none : (count due : ℕ) (Lacks : Type 0) → due ≡ 0 → Rises count count due Lacks
rises_none count due Lacks none = record { least = omega arith; most = omega arith; all = λ some. omega (arith, none) }

-- a step that asks nothing
pub carried_unasked : (plan : Plan) (before after : Shelved) (asked told : ℕ) (r : Result Answer Stop) → AsksNothing plan → told ≡ asked
    → CarriesOut before after plan r → CarriesOutAsking before after asked told plan r
carried_unasked (asks reading may_reply due) before after asked told r nothing same h =
    reads_onward (λ shelf end. (shelf ≡ after) × GetsAt may_reply end r)
    (λ shelf end. (shelf ≡ after) × GetsAt may_reply end r × CountsAt due asked told (LacksMemory r) end) (λ shelf end e. (e.0, e.1, counted end)) before reading h
  where
    counted : (end : End _) → CountsAt due asked told (LacksMemory r) end
    counted (took x) = subst (λ n. Rises asked n (due x) (LacksMemory r)) (sym same) (rises_none asked (due x) (LacksMemory r) (nothing x))
    counted (stops reply) = same
    counted lacks = same

-- a step that stopped, and asked nothing
pub stopped_unasked : {A : Type 0} (may_reply : A → Reply → Type 0) (due : A → ℕ) (asked told : ℕ) (why : Stop) → told ≡ asked
    → GetsAt may_reply (stopped why) (Err why) × CountsAt due asked told (LacksMemory (Err why)) (stopped why)
stopped_unasked may_reply due asked told (stop.Answer answer) same = (refl, same)
stopped_unasked may_reply due asked told stop.NoMemory same = (tt, same)

module _ {A B : Type 0} (reading : Reading A) (next : A → Reading B) (may_reply : B → Reply → Type 0) (due : B → ℕ) (before between after : Shelved) (asked told : ℕ) where
  pub asked_on : (x : A) (r : Result Answer Stop) → HasRead before between reading (took x) → CarriesOutAsking between after asked told (asks (next x) may_reply due) r
      → CarriesOutAsking before after asked told (asks (then_read reading next) may_reply due) r
  asked_on x r h rest =
      read_on reading next (λ shelf end. (shelf ≡ after) × GetsAt may_reply end r × CountsAt due asked told (LacksMemory r) end) before between x h rest

  pub asked_not : (why : Stop) → told ≡ asked → HasRead before between reading (stopped why)
      → CarriesOutAsking before between asked told (asks (then_read reading next) may_reply due) (Err why)
  asked_not why same h =
      let end = stopped_unasked may_reply due asked told why same in
      read_stopped reading next (λ shelf end. (shelf ≡ between) × GetsAt may_reply end (Err why) × CountsAt due asked told (LacksMemory (Err why)) end) before between
      why h (refl, end.0, end.1)

-- what may reject something, and what is next
module _ {A : Type 0} (left : Shelved → End A → Type 0) (shelf : Shelved) (next : Reading A) (rejection : Option Rejection) where
  pub tried_on : rejection ≡ None → Reads left shelf next → Reads left shelf (tries rejection next)
  tried_on none h = subst (λ o. Reads left shelf (tries o next)) (sym none) (inl h)

  pub tried_not : (why : Stop) → Stops (λ reply. (q : Rejection) × (rejection ≡ Some q) × (reply ≡ rejected q)) why → left shelf (stopped why)
      → Reads left shelf (tries rejection next)
  tried_not (stop.Answer answer) (q, some, is) h =
      subst (λ o. Reads left shelf (tries o next)) (sym some) (inl (subst (λ reply. left shelf (stops reply)) is h))
  tried_not stop.NoMemory none h = lacking rejection
    where
      lacking : (o : Option Rejection) → Reads left shelf (tries o next)
      lacking None = inr h
      lacking (Some q) = inr h

-- what a call does, whatever it asks
pub performs_asking : (plan : Plan) (before after : Shelved) (old new : Sunk) (asked told : ℕ) (status : Status)
    → PerformsAsking before after old new asked told plan status → Performs before after old new plan status
performs_asking (asks reading may_reply due) before after old new asked told status h =
    reads_onward (λ shelf end. (shelf ≡ after) × EndsAt may_reply old new status end × CountsAt due asked told (status ≡ s.NoMemory) end)
    (λ shelf end. (shelf ≡ after) × EndsAt may_reply old new status end) (λ shelf end e. (e.0, e.1)) before reading h

-- Steps that read ----------------------------------------------------------------------------------------------

-- how a call of the shelf ends
abbrev pub end_of : (name : List ℕ) → Result Fetched ShelfFault → End (List ℕ)
end_of name (Ok (Whole these)) = took these
end_of name (Ok TooLong) = stops (too_long name)
end_of name (Err Failed) = stops (read_fault name)
end_of name (Err NoMemory) = lacks

pub called : (before after : Shelved) (name : List ℕ) (most : ℕ) (answer : Result Fetched ShelfFault) → Gives before after name most answer
    → after.calls ≡ raised before.calls 1 → Passes before after → HasRead before after (bytes name most) (end_of name answer)
called before after name most (Ok (Whole these)) given counted passes =
    (after, Ok (Whole these), record { gives = given; counted = counted; passes = passes }, inl (these, refl, (refl, refl)))
called before after name most (Ok TooLong) given counted passes =
    (after, Ok TooLong, record { gives = given; counted = counted; passes = passes }, (refl, refl))
called before after name most (Err Failed) given counted passes =
    (after, Err Failed, record { gives = given; counted = counted; passes = passes }, (refl, refl))
called before after name most (Err NoMemory) given counted passes =
    (after, Err NoMemory, record { gives = given; counted = counted; passes = passes }, (refl, refl))

-- a step that took something didn't stop
took_no_stop : {A : Type 0} {P : Type 0} (x : A) (why : Stop) → took x ≡ stopped why → P
took_no_stop x (stop.Answer answer) e = cc
took_no_stop x stop.NoMemory e = cc

module _ {A B : Type 0} where
  -- steps that read this or that stop alike
  stops_alike : (reply : Reply) (why : Stop) → ◌≡◌ {A = End A} (stops reply) (stopped why) → ◌≡◌ {A = End B} (stops reply) (stopped why)
  stops_alike reply (stop.Answer answer) e = let same : reply ≡ seen answer = cc in ap stops same
  stops_alike reply stop.NoMemory e = cc

  lacks_alike : (why : Stop) → ◌≡◌ {A = End A} lacks (stopped why) → ◌≡◌ {A = End B} lacks (stopped why)
  lacks_alike (stop.Answer answer) e = cc
  lacks_alike stop.NoMemory e = refl

module _ {B : Type 0} (IsRead : List ℕ → B → Type 0) (IsFault : List ℕ → Fault → Type 0) where
  -- a file that isn't fetched isn't read
  pub file_stopped : (name : List ℕ) (most : ℕ) (before after : Shelved) (why : Stop) → HasRead before after (bytes name most) (stopped why)
      → HasRead before after (file name most IsRead IsFault (λ x. gives x)) (stopped why)
  file_stopped name most before after why (last, Ok (Whole these), call, inl (x, is, e)) = took_no_stop x why e.1
  file_stopped name most before after why (last, Ok (Whole these), call, inr (inl (fault, is, e))) = absurd is
  file_stopped name most before after why (last, Ok (Whole these), call, inr (inr e)) = (last, Ok (Whole these), call, inr (inr (e.0, lacks_alike why e.1)))
  file_stopped name most before after why (last, Ok TooLong, call, e) = (last, Ok TooLong, call, (e.0, stops_alike (too_long name) why e.1))
  file_stopped name most before after why (last, Err Failed, call, e) = (last, Err Failed, call, (e.0, stops_alike (read_fault name) why e.1))
  file_stopped name most before after why (last, Err NoMemory, call, e) = (last, Err NoMemory, call, (e.0, lacks_alike why e.1))

  module _ {A : Type 0} (view : A → B) where
    -- a text that needn't be fetched is read, or has a fault
    pub text_read : (title these : List ℕ) (shelf : Shelved) (r : Result A Stop)
        → MatchResult r (λ x. IsRead these (view x)) (Stops (λ reply. (fault : Fault) × IsFault these fault × (reply ≡ malformed title fault)))
        → HasRead shelf shelf (argument title these IsRead IsFault (λ x. gives x)) (ended view r)
    text_read title these shelf (Ok x) h = inl (view x, h, (refl, refl))
    text_read title these shelf (Err (stop.Answer answer)) (fault, is, shown) = inr (inl (fault, is, (refl, ap stops (sym shown))))
    text_read title these shelf (Err stop.NoMemory) h = inr (inr (refl, refl))

    -- a file that is fetched is read, or its bytes have a fault
    pub file_read : (name : List ℕ) (most : ℕ) (before after : Shelved) (these : List ℕ) (r : Result A Stop) → HasRead before after (bytes name most) (took these)
        → MatchResult r (λ x. IsRead these (view x)) (Stops (λ reply. (fault : Fault) × IsFault these fault × (reply ≡ malformed name fault)))
        → HasRead before after (file name most IsRead IsFault (λ x. gives x)) (ended view r)
    file_read name most before after these r (last, Ok (Whole read), call, inl (x, is, e)) h =
        let same : these ≡ x = cc in
        let at : HasRead after after (argument name read IsRead IsFault (λ x. gives x)) (ended view r) =
        text_read name read after r
        (subst (λ t. MatchResult r (λ x. IsRead t (view x)) (Stops (λ reply. (fault : Fault) × IsFault t fault × (reply ≡ malformed name fault)))) (same ∙ is) h) in (
          last,
          Ok (Whole read),
          call,
          subst (λ l. FollowsBytes IsRead IsFault name (λ x. (l ≡ after) × (took x ≡ ended view r)) (λ reply. (l ≡ after) × (stops reply ≡ ended view r))
              ((l ≡ after) × (lacks ≡ ended view r)) read) (sym e.0) at,
        )
    file_read name most before after these r (last, Ok (Whole read), call, inr (inl (fault, is, e))) h = absurd is
    file_read name most before after these r (last, Ok (Whole read), call, inr (inr e)) h = let wrong = e.1 in cc
    file_read name most before after these r (last, Ok TooLong, call, e) h = let wrong = e.1 in cc
    file_read name most before after these r (last, Err Failed, call, e) h = let wrong = e.1 in cc
    file_read name most before after these r (last, Err NoMemory, call, e) h = let wrong = e.1 in cc
