-- What is told of a program and levels is by the reply that `levels` gives to them by the same calls of a shelf.
use Rattle.std.proofs.Common.{◌≡◌, ℕ, List, [], Result, Option, Some, None, Ok, Err, inl, inr, refl, subst}
use Rattle.call_inputs.specs.Plans.{RepliesAt}
use Rattle.call_inputs.specs.Programs.{IsShownFault, SpellsProgram}
use Rattle.call_inputs.specs.Readings.{End, FollowsCall, Reading, Reads, gives, lacks, stops, then_read, took, tries}
use Rattle.call_inputs.specs.Rejections.{Rejection, UnlessRejected}
use Rattle.call_inputs.specs.Steps.{AreThese, NoFault}
use Rattle.call_judge.specs.Check.{name_rejection}
use Rattle.call_reports.specs.Replies.{Reply, malformed, read_fault, status_of, too_long}
use Rattle.call_reports.specs.declared.answers.Status.{Status}
use Rattle.call_verdicts.specs.Levels.{AcceptsForAll, IsShownLevelFault, LevelsInput, accepted_for_all, level_rejection, levels_of}
use Rattle.cov_ast.specs.Syntax.{Parsed}
use Rattle.cov_io.specs.Shelves.{Shelved}
use Rattle.cov_io.specs.declared.shelf.Fetched.{Fetched}
use Rattle.cov_io.specs.declared.shelf.Fetched.TheVariants.{Whole, TooLong}
use Rattle.cov_io.specs.declared.shelf.ShelfFault.{ShelfFault}
use Rattle.cov_io.specs.declared.shelf.ShelfFault.TheVariants as fails
use Rattle.explain.specs.FileCalls.{FollowsOver, FollowsProgram, IsLevelled, Outcome, TellsLevels, told}
use Rattle.explain.specs.LevelTellings.{RepliesFor}
use Rattle.level_text.specs.LevelReads.{GivesLevels}

-- the status that is told
told_status : (text other : List ℕ) (status next : Status) → told other next ≡ told text status → status ≡ next
told_status text other status next e = cc

module _ (name over : List ℕ) (after : Shelved) (text : List ℕ) (status : Status) where
  -- The calls come to this text and this status.
  abbrev Comes : Shelved → Outcome → Type 0
  Comes shelf outcome = (shelf ≡ after) × (outcome ≡ told text status)

  -- `levels` replies so, and the shelf is left so
  abbrev Replied : Reply → Shelved → End LevelsInput → Type 0
  Replied reply left end = (left ≡ after) × RepliesAt AcceptsForAll end reply

  -- what is asked of a text and levels
  asked : (i : LevelsInput) (reply : Reply) (shelf : Shelved) → shelf ≡ after → RepliesFor i reply → Reads (Replied reply) shelf (accepted_for_all i)
  asked i reply shelf stays = by (name_rejection i.program) (level_rejection i)
    where
      by : (o q : Option Rejection) → UnlessRejected o (UnlessRejected q (AcceptsForAll i)) reply → Reads (Replied reply) shelf (tries o (tries q (gives i)))
      by (Some r) q h = inl (stays, h)
      by None (Some r) h = inl (inl (stays, h))
      by None None h = inl (inl (stays, h))

  -- what is read behind a text
  abbrev behind : Parsed → Reading LevelsInput
  behind p = then_read (levels_of p over) (λ l. accepted_for_all (record { program = p; levels = l }))

  module _ (these : List ℕ) (p : Parsed) (shelf : Shelved) where
    -- what a call for the levels says, by a reply
    abbrev OverReplied : Result Fetched ShelfFault → Reply → Type 0
    OverReplied answer reply =
        FollowsCall (λ given l. GivesLevels given p l) (IsShownLevelFault p) over
        (λ l. Reads (Replied reply) shelf (accepted_for_all (record { program = p; levels = l })))
        (λ r. Replied reply shelf (stops r)) (Replied reply shelf lacks) answer

    abbrev IsOver : Result Fetched ShelfFault → Type 0
    IsOver answer = (reply : Reply) × OverReplied answer reply × (status ≡ status_of reply)

    over_whole : (read given : List ℕ) → given ≡ read → FollowsOver Comes name these p over [] shelf (took given) → IsOver (Ok (Whole read))
    over_whole read given is (inl (reply, here, inl (l, gives_it, replies, e), (stays, comes))) = (
      reply,
      inl (l, subst (λ b. GivesLevels b p l) is gives_it, asked (record { program = p; levels = l }) reply shelf stays replies),
      told_status text here status (status_of reply) comes,
    )
    over_whole read given is (inl (reply, here, inr (fault, found, same, e), (stays, comes))) = (
      reply,
      inr (inl (fault, subst (λ b. IsShownLevelFault p b fault) is found, (stays, same))),
      told_status text here status (status_of reply) comes,
    )
    over_whole read given is (inr (stays, e)) = cc

    over_stops : (answer : Result Fetched ShelfFault) (other : Reply) → ((reply : Reply) → Replied reply shelf (stops other) → OverReplied answer reply)
        → FollowsOver Comes name these p over [] shelf (stops other) → IsOver answer
    over_stops answer other says (inl (reply, here, (same, e), (stays, comes))) =
        (reply, says reply (stays, same), told_status text here status (status_of reply) comes)
    over_stops answer other says (inr (stays, e)) = cc

    over_lacks : (answer : Result Fetched ShelfFault) → FollowsOver Comes name these p over [] shelf lacks → IsOver answer
    over_lacks answer (inl (reply, here, tells, e)) = absurd tells
    over_lacks answer (inr (stays, e)) = cc

    over_call : (answer : Result Fetched ShelfFault)
        → FollowsCall AreThese NoFault over (λ given. FollowsOver Comes name these p over [] shelf (took given))
        (λ r. FollowsOver Comes name these p over [] shelf (stops r)) (FollowsOver Comes name these p over [] shelf lacks) answer
        → IsOver answer
    over_call (Ok (Whole read)) (inl (given, is, h)) = over_whole read given is h
    over_call (Ok (Whole read)) (inr (inl (fault, is, h))) = absurd is
    over_call (Ok (Whole read)) (inr (inr h)) = over_lacks (Ok (Whole read)) h
    over_call (Ok TooLong) h = over_stops (Ok TooLong) (too_long over) (λ reply k. k) h
    over_call (Err fails.Failed) h = over_stops (Err fails.Failed) (read_fault over) (λ reply k. k) h
    over_call (Err fails.NoMemory) h = over_lacks (Err fails.NoMemory) h

  module _ (shelf : Shelved) where
    -- what a call for the program says, by a reply
    abbrev ProgramReplied : Result Fetched ShelfFault → Reply → Type 0
    ProgramReplied answer reply =
        FollowsCall SpellsProgram IsShownFault name (λ p. Reads (Replied reply) shelf (behind p)) (λ r. Replied reply shelf (stops r))
        (Replied reply shelf lacks) answer

    abbrev IsProgram : Result Fetched ShelfFault → Type 0
    IsProgram answer = (reply : Reply) × ProgramReplied answer reply × (status ≡ status_of reply)

    program_whole : (read these : List ℕ) → these ≡ read → FollowsProgram Comes name over [] shelf (took these) → IsProgram (Ok (Whole read))
    program_whole read these is (inl (p, spells, (between, answer, call, h))) =
        let found = over_call these p between answer h in
        (found.0, inl (p, subst (λ b. SpellsProgram b p) is spells, (between, answer, call, found.1)), found.2)
    program_whole read these is (inr (inl (fault, found, (stays, comes)))) =
        (malformed name fault, inr (inl (fault, subst (λ b. IsShownFault b fault) is found, (stays, refl))), told_status text _ status _ comes)
    program_whole read these is (inr (inr (stays, e))) = cc

    program_stops : (answer : Result Fetched ShelfFault) (other : Reply) → (Replied other shelf (stops other) → ProgramReplied answer other)
        → FollowsProgram Comes name over [] shelf (stops other) → IsProgram answer
    program_stops answer other says (inl (stays, comes)) = (other, says (stays, refl), told_status text _ status (status_of other) comes)
    program_stops answer other says (inr (stays, e)) = cc

    program_lacks : (answer : Result Fetched ShelfFault) → FollowsProgram Comes name over [] shelf lacks → IsProgram answer
    program_lacks answer (stays, e) = cc

    program_call : (answer : Result Fetched ShelfFault)
        → FollowsCall AreThese NoFault name (λ these. FollowsProgram Comes name over [] shelf (took these))
        (λ r. FollowsProgram Comes name over [] shelf (stops r)) (FollowsProgram Comes name over [] shelf lacks) answer
        → IsProgram answer
    program_call (Ok (Whole read)) (inl (these, is, h)) = program_whole read these is h
    program_call (Ok (Whole read)) (inr (inl (fault, is, h))) = absurd is
    program_call (Ok (Whole read)) (inr (inr h)) = program_lacks (Ok (Whole read)) h
    program_call (Ok TooLong) h = program_stops (Ok TooLong) (too_long name) (λ k. k) h
    program_call (Err fails.Failed) h = program_stops (Err fails.Failed) (read_fault name) (λ k. k) h
    program_call (Err fails.NoMemory) h = program_lacks (Err fails.NoMemory) h

pub told_levelled : (before after : Shelved) (name over text : List ℕ) (status : Status)
    → TellsLevels (λ shelf outcome. (shelf ≡ after) × (outcome ≡ told text status)) name over [] before
    → (reply : Reply) × IsLevelled before after name over reply × (status ≡ status_of reply)
told_levelled before after name over text status (between, answer, call, h) =
    let found = program_call name over after text status between answer h in
    (found.0, (between, answer, call, found.1), found.2)
