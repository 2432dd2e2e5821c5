-- Plans: what a command reads, and what it may reply to what it read.
use Rattle.std.specs.Prelude.{◌≡◌, ℕ, ◌+◌, ◌≤◌, List, Result, Ok, Err}
use Rattle.call_inputs.specs.Readings.{End, Over, Reading, Reads, Takes, lacks, stops, took}
use Rattle.call_reports.specs.AnswerViews.{Gets}
use Rattle.call_reports.specs.Ends.{Ends}
use Rattle.call_reports.specs.Replies.{Reply}
use Rattle.call_reports.specs.declared.answers.Answer.{Answer}
use Rattle.call_reports.specs.declared.answers.Status.{Status}
use Rattle.call_reports.specs.declared.answers.Status.TheVariants as s
use Rattle.call_reports.specs.declared.answers.Stop.{Stop}
use Rattle.call_reports.specs.declared.answers.Stop.TheVariants as stop
use Rattle.cov_io.specs.Shelves.{File, Shelved}
use Rattle.cov_io.specs.Sinks.{Sunk}

-- A command reads, and replies to what it took. It may ask a judge of threads on the way, of so many statements of what it took.
pub data Plan : Type 1 where
  asks : {A : Type 0} (reading : Reading A) (may_reply : A → Reply → Type 0) (due : A → ℕ) → Plan

-- a command that asks no judge
abbrev pub does : {A : Type 0} → (reading : Reading A) → (may_reply : A → Reply → Type 0) → Plan
does reading may_reply = asks reading may_reply (λ x. 0)

-- what is replied at the end of a reading: what may be replied to what was taken, or the reply with which it stops
abbrev pub RepliesAt : {A : Type 0} → (may_reply : A → Reply → Type 0) → End A → Reply → Type 0
RepliesAt may_reply (took x) reply = may_reply x reply
RepliesAt may_reply (stops other) reply = reply ≡ other
RepliesAt may_reply lacks reply = ⊥

-- the reply of a plan where all files are told, and no call fails but for a name that isn't told
abbrev pub RepliesOver : List File → Plan → Reply → Type 0
RepliesOver files (asks reading may_reply due) reply = Over files (λ end. RepliesAt may_reply end reply) reading

-- All that a plan asks holds of the files and of the words.
abbrev pub IsMet : List File → Plan → Type 0
IsMet files (asks reading may_reply due) = Takes files (λ x. Unit {0}) reading

-- A step ends for want of memory.
abbrev pub LacksMemory : Result Answer Stop → Type 0
LacksMemory (Ok answer) = ⊥
LacksMemory (Err (stop.Answer answer)) = ⊥
LacksMemory (Err stop.NoMemory) = Unit {0}

-- what a step of the code gives at the end of a reading; memory may run out behind it too
abbrev pub GetsAt : {A : Type 0} → (may_reply : A → Reply → Type 0) → End A → Result Answer Stop → Type 0
GetsAt may_reply (took x) result = Gets (may_reply x) result
GetsAt may_reply (stops other) result = Gets (λ reply. reply ≡ other) result
GetsAt may_reply lacks result = LacksMemory result

-- A step of the code carries out a plan: it calls the shelf for the files of the plan, and gives what the plan may reply.
abbrev pub CarriesOut : (before after : Shelved) → Plan → Result Answer Stop → Type 0
CarriesOut before after (asks reading may_reply due) result = Reads (λ shelf end. (shelf ≡ after) × GetsAt may_reply end result) before reading

-- how a call ends at the end of a reading: with the report of what is replied; where memory ran out, nothing is put
abbrev pub EndsAt : {A : Type 0} → (may_reply : A → Reply → Type 0) → (old new : Sunk) → Status → End A → Type 0
EndsAt may_reply old new status (took x) = Ends (may_reply x) old new status
EndsAt may_reply old new status (stops other) = Ends (λ reply. reply ≡ other) old new status
EndsAt may_reply old new status lacks = (status ≡ s.NoMemory) × (new ≡ old)

-- A call performs a plan: it calls the shelf for the files of the plan, and ends with what the plan may reply.
abbrev pub Performs : (before after : Shelved) (old new : Sunk) → Plan → Status → Type 0
Performs before after old new (asks reading may_reply due) status =
    Reads (λ shelf end. (shelf ≡ after) × EndsAt may_reply old new status end) before reading

-- What a judge is asked ----------------------------------------------------------------------------------------

-- The count of a judge rose by so many statements; where memory ran out, by at most so many.
pub record Rises (before after due : ℕ) (Lacks : Type 0) : Type 0 where
  pub least : before ≤ after
  pub most : after ≤ before + due
  pub all : (Lacks → ⊥) → after ≡ before + due

-- how the count of a judge rises at the end of a reading: by what is due of what was taken, and not where nothing was
abbrev pub CountsAt : {A : Type 0} → (due : A → ℕ) → (before after : ℕ) → (Lacks : Type 0) → End A → Type 0
CountsAt due before after Lacks (took x) = Rises before after (due x) Lacks
CountsAt due before after Lacks (stops reply) = after ≡ before
CountsAt due before after Lacks lacks = after ≡ before

-- A step of the code carries out a plan, and asks a judge, whose count rises from one number to another, of what is due.
abbrev pub CarriesOutAsking : (before after : Shelved) (asked told : ℕ) → Plan → Result Answer Stop → Type 0
CarriesOutAsking before after asked told (asks reading may_reply due) result =
    Reads (λ shelf end. (shelf ≡ after) × GetsAt may_reply end result × CountsAt due asked told (LacksMemory result) end) before reading

-- A call performs a plan, and asks a judge of what is due.
abbrev pub PerformsAsking : (before after : Shelved) (old new : Sunk) (asked told : ℕ) → Plan → Status → Type 0
PerformsAsking before after old new asked told (asks reading may_reply due) status =
    Reads (λ shelf end. (shelf ≡ after) × EndsAt may_reply old new status end × CountsAt due asked told (status ≡ s.NoMemory) end) before reading
