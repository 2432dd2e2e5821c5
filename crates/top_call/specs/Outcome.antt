-- What the words of a command line ask for, what is replied to them, and which statuses say that it is done.
use Rattle.std.specs.Prelude.{◌≡◌, ◌⊎◌, ◌∷◌, ℕ, List, codes}
use Rattle.call_inputs.specs.Plans.{Plan, RepliesOver}
use Rattle.call_reports.specs.Replies.{Reply}
use Rattle.call_reports.specs.declared.answers.Status.{Status}
use Rattle.call_reports.specs.declared.answers.Status.TheVariants as s
use Rattle.cov_io.specs.Shelves.{File}
use Rattle.thread_swap.specs.Judges.{Judging}
use Rattle.top_call.specs.Commands.{command_of, plan_of}

-- what the words ask for, by a judge
abbrev pub plan_for : Judging → (words : List (List ℕ)) → Plan
plan_for j words = plan_of j (command_of words)

-- the reply to the words where all files are told, and no call fails but for a name that isn't told
abbrev pub Outcome : Judging → List File → (words : List (List ℕ)) → Reply → Type 0
Outcome j files words reply = RepliesOver files (plan_for j words) reply

-- The status says that the command did all its work, or of `pair` and of `refute` that two runs differ.
abbrev pub IsSuccess : (words : List (List ℕ)) → Status → Type 0
IsSuccess words status =
    (status ≡ s.Done) ⊎ ((status ≡ s.Differ) × (names : List (List ℕ)) × ((words ≡ codes "pair" ∷ names) ⊎ (words ≡ codes "refute" ∷ names)))
