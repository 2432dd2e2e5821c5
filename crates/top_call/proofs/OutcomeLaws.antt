-- What a call promises, for every command.
use Rattle.std.proofs.Common.{◌≡◌, ◌⊎◌, ℕ, List, [], ◌∷◌, Bool, true, false, Option, Some, None, Result, Ok, Err, IfSome, ◌≤◌, length, map, refl, sym, ◌∙◌, subst, inl, inr}
use Rattle.std.specs.Prelude.{codes}
use Rattle.std.proofs.lemmas.List.{length-map}
use Rattle.cov_expr.specs.Words.{IsMemory, IsSchedule}
use Rattle.cov_expr.specs.declared.limits.TheConstants.{MOST_BYTES}
use Rattle.schedule_replay.specs.Json.{value_of}
use Rattle.replay_inputs.specs.Inputs.{IsScheduleText, IsStart, declaration_of}
use Rattle.cov_ast.specs.Syntax.{Parsed}
use Rattle.cov_io.specs.Counters.{Rose}
use Rattle.cov_io.specs.Shelves.{File, Passes, Shelved, held}
use Rattle.cov_io.specs.Sinks.{Sunk, Writes}
use Rattle.code_text.specs.Listing.{IsListingOf, listing}
use Rattle.object_code.specs.Object.{IsObjectOf}
use Rattle.object_code.specs.Object as object_code
use Rattle.risc_machine.specs.Faults.{AreGood}
use Rattle.risc_machine.specs.declared.parts.Parts.{Parts}
use Rattle.compiled_code.specs.GoodCode.{IsGoodCode}
use Rattle.cov_text.specs.Text.{program_of}
use Rattle.flow_model.specs.Secure.{IsSecure}
use Rattle.policy_class.specs.Resolved.{resolved}
use Rattle.call_code.specs.Codes.{Compiles, code_of}
use Rattle.call_code.specs.Objects.{RepliesObject}
use Rattle.call_inputs.specs.Plans.{CarriesOutAsking, CountsAt, EndsAt, GetsAt, IsMet, LacksMemory, Performs, PerformsAsking, Plan, asks, does}
use Rattle.call_inputs.specs.Programs.{SpellsProgram, SpellsTree}
use Rattle.cov_grammar.specs.PlacedTrees as trees
use Rattle.call_inputs.specs.Readings.{End, Takes, gives, lacks, stops, took, tries}
use Rattle.call_inputs.specs.Rejections.{no_form}
use Rattle.call_judge.specs.Check.{IsAcceptedText, accepted_program, verdict}
use Rattle.call_judge.specs.Meaning.{AreNamesInOrder, meaning}
use Rattle.call_reports.specs.AnswerViews.{Gets}
use Rattle.call_reports.specs.Ends.{Ends}
use Rattle.call_reports.specs.Replies.{Reply, spelled}
use Rattle.call_reports.specs.Reports.{report_of}
use Rattle.call_reports.specs.declared.answers.Answer.{Answer}
use Rattle.call_reports.specs.declared.answers.Status.{Status}
use Rattle.call_reports.specs.declared.answers.Status.TheVariants as s
use Rattle.call_reports.specs.declared.answers.Stop.{Stop}
use Rattle.call_reports.specs.declared.answers.Stop.TheVariants as stop
use Rattle.call_run.specs.Pairs.{Pairs, pair_reading}
use Rattle.call_run.specs.Refutes.{Refutes, refute_reading}
use Rattle.top_call.specs.AcceptedRuns.{HoldsAccepted, RunsAccepted}
use Rattle.top_call.specs.AnnotatedPrograms.{PutsAnnotated, PutsAnnotatedText}
use Rattle.top_call.specs.Commands.{command_of, depth_of, of_depth, of_trials, plan_of}
use Rattle.thread_swap.specs.Judges.{Judging}
use Rattle.thread_swap.specs.SwapLines.{AreSecureIfAccepted, swapped_programs}
use Rattle.level_text.specs.LevelReads.{GivesLevels}
use Rattle.levels.specs.Accepted.{IsSecureForAll}
use Rattle.call_verdicts.specs.Annotations.{Annotates, IsSecureAnnotated, annotate_reading, annotation_rejection}
use Rattle.call_verdicts.specs.Levels.{AcceptsForAll, LevelsInput, level_rejection, levels_reading}
use Rattle.call_verdicts.specs.Swap.{SwapInput, Swaps, due_by, lines_by, misfit_rejection, replacements, swap_reading}
use Rattle.call_verdicts.proofs.SwapLaws.{names_ordered}
use Rattle.top_call.specs.Headline.{PutsCode, PutsGoodCode, PutsObject}
use Rattle.check_call.specs.Secured.{HoldsSecure}
use Rattle.check_call.proofs.CallLaws.{OfAccepted, if_told, taken_secure}
use Rattle.top_call.specs.LevelledPrograms.{HoldsLevels, HoldsSecureForAll}
use Rattle.top_call.specs.SwappedPrograms.{HoldsSwapped, HoldsText}
use Rattle.top_call.specs.Laws.{IsOneReply}
use Rattle.top_call.specs.Outcome.{IsSuccess, Outcome, plan_for}
use Rattle.replay_inputs.proofs.InputLaws.{schedule_fine, start_is_memory}
use Rattle.call_inputs.proofs.PlanLaws.{IsResult, IsSound, Puts, at_end, performs_exact, performs_asking, performs_fault, performs_met, performs_passes, performs_took, reply_one}
use Rattle.call_inputs.proofs.ReadingLaws.{Reliable, reads_onward}
use Rattle.call_inputs.proofs.TextLaws.{program_reading, some_one}
use Rattle.call_judge.proofs.CheckLaws.{names_hold, not_rejected}
use Rattle.call_reports.proofs.EndLaws.{ends_onward}
use Rattle.call_run.proofs.PairLaws.{pairs_never_differ}
use Rattle.call_run.proofs.RefuteLaws.{refutes_never_differ}
use Rattle.top_call.proofs.CommandLaws.{ArePairWords, AreTrialWords, IsSuccessIf, differing_words, may_differ, results, sound}

-- One reply ---------------------------------------------------------------------------------------------------

pub one_reply : IsOneReply
one_reply j files words reply other h k =
    reply_one (IsSuccessIf (may_differ (command_of words))) files (plan_for j words) reply other (sound j (command_of words)) h k

-- What the code does -------------------------------------------------------------------------------------------

module _ (before after : Shelved) (old new : Sunk) (asked told : ℕ) where
  -- a command that gives an answer, and a call that ends with it
  pub answered : (plan : Plan) (r : Result Answer Stop) (reply : Reply) (status : Status) → CarriesOutAsking before after asked told plan r → (LacksMemory r → ⊥)
      → ((may_reply : Reply → Type 0) → Gets may_reply r → may_reply reply) → Ends (λ q. q ≡ reply) old new status
      → PerformsAsking before after old new asked told plan status
  answered (asks reading may_reply due) r reply status carried not_lacks gets ends =
      reads_onward (λ shelf end. (shelf ≡ after) × GetsAt may_reply end r × CountsAt due asked told (LacksMemory r) end)
      (λ shelf end. (shelf ≡ after) × EndsAt may_reply old new status end × CountsAt due asked told (status ≡ s.NoMemory) end) each before reading carried
    where
      at : (end : End _) → GetsAt may_reply end r → EndsAt may_reply old new status end
      at (took x) h = ends_onward (λ q. q ≡ reply) (may_reply x) old new status (λ q e. subst (may_reply x) (sym e) (gets (may_reply x) h)) ends
      at (stops other) h = ends_onward (λ q. q ≡ reply) (λ q. q ≡ other) old new status (λ q e. e ∙ gets (λ q. q ≡ other) h) ends
      at lacks h = absurd (not_lacks h)

      counted : (end : End _) → CountsAt due asked told (LacksMemory r) end → CountsAt due asked told (status ≡ s.NoMemory) end
      counted (took x) h = record { least = h.least; most = h.most; all = λ some. h.all not_lacks }
      counted (stops other) h = h
      counted lacks h = h

      each : (shelf : Shelved) (end : End _) → (shelf ≡ after) × GetsAt may_reply end r × CountsAt due asked told (LacksMemory r) end
          → (shelf ≡ after) × EndsAt may_reply old new status end × CountsAt due asked told (status ≡ s.NoMemory) end
      each shelf end h = (h.0, at end h.1, counted end h.2)

  -- a command that ends for want of memory
  pub lacking : (plan : Plan) → CarriesOutAsking before after asked told plan (Err stop.NoMemory) → new ≡ old
      → PerformsAsking before after old new asked told plan s.NoMemory
  lacking (asks reading may_reply due) carried same =
      reads_onward (λ shelf end. (shelf ≡ after) × GetsAt may_reply end (Err stop.NoMemory) × CountsAt due asked told (LacksMemory (Err stop.NoMemory)) end)
      (λ shelf end. (shelf ≡ after) × EndsAt may_reply old new s.NoMemory end × CountsAt due asked told (s.NoMemory ≡ s.NoMemory) end) each before reading carried
    where
      at : (end : End _) → EndsAt may_reply old new s.NoMemory end
      at (took x) = same
      at (stops other) = same
      at lacks = (refl, same)

      counted : (end : End _) → CountsAt due asked told (LacksMemory (Err stop.NoMemory)) end → CountsAt due asked told (s.NoMemory ≡ s.NoMemory) end
      counted (took x) h = record { least = h.least; most = h.most; all = λ some. absurd (some refl) }
      counted (stops other) h = h
      counted lacks h = h

      each : (shelf : Shelved) (end : End _) → (shelf ≡ after) × GetsAt may_reply end (Err stop.NoMemory) × CountsAt due asked told (LacksMemory (Err stop.NoMemory)) end
          → (shelf ≡ after) × EndsAt may_reply old new s.NoMemory end × CountsAt due asked told (s.NoMemory ≡ s.NoMemory) end
      each shelf end h = (h.0, at end, counted end h.2)

-- A call -------------------------------------------------------------------------------------------------------

-- starts and schedules of a program have its sizes
pub start_fits : (p : Parsed) (bytes m : List ℕ) → IsStart p bytes m → IsMemory (length p.vars) m
start_fits p bytes m h = subst (λ n. IsMemory n m) (length-map p.vars declaration_of) (start_is_memory (map declaration_of p.vars) (value_of bytes) m h)

pub schedule_fits : (p : Parsed) (bytes k : List ℕ) → IsScheduleText p bytes k → IsSchedule (length p.threads) k
schedule_fits p bytes k h = (schedule_fine (length p.threads) (value_of bytes) k h).threads_below

module _ (j : Judging) (before after : Shelved) (words : List (List ℕ)) (old new : Sunk) (status : Status) (asked judged : ℕ)
    (asking : PerformsAsking before after old new asked judged (plan_for j words) status) where
  pub call_performed : Performs before after old new (plan_for j words) status
  call_performed = performs_asking (plan_for j words) before after old new asked judged status asking

  pub call_exact : Reliable before after → IfSome before.told (λ files. Ends (Outcome j files words) old new status)
  call_exact reliable = if_told before.told (λ files. Ends (Outcome j files words) old new status)
      (λ files told. performs_exact before after old new status files (plan_for j words) told reliable call_performed)

  call_by : (other : List (List ℕ)) → words ≡ other → Performs before after old new (plan_for j other) status
  call_by other is = subst (λ ws. Performs before after old new (plan_for j ws) status) is call_performed

  pub call_secure : OfAccepted (λ p. IsSecure (meaning p)) → status ≡ s.Done → IfSome before.told (λ files. HoldsSecure files words)
  call_secure is_secure done = if_told before.told (λ files. HoldsSecure files words) holds
    where
      holds : (files : List File) → before.told ≡ Some files → HoldsSecure files words
      holds files told name is =
          taken_secure is_secure old new status name files (performs_took before after old new status files (accepted_program name) (λ p reply. reply ≡ verdict p) (λ p. 0) told
          (subst IsResult (sym done) tt) (call_by (codes "check" ∷ name ∷ []) is))

  -- what is put to the code of an accepted program, where each reply tells it
  module _ (is_good : OfAccepted (λ p. IsGoodCode (resolved p) (code_of p))) (done : status ≡ s.Done) (Tells : Parts → List ℕ → Type 0)
      (may_reply : Parsed → Reply → Type 0)
      (told : (p : Parsed) (reply : Reply) → may_reply p reply → AreGood (code_of p) × (text : List ℕ) × Tells (code_of p) text × (reply ≡ spelled text)) where
    good : (name : List ℕ) (files : List File) → Takes files (λ p. Puts (may_reply p) old new status) (accepted_program name)
        → PutsGoodCode Tells files name old new
    good name files (bytes, at, fits, (p, spells, (none, (reply, replied, is, put)))) =
        let accepted = not_rejected p none in
        let code = told p reply replied in
        record {
          bytes = bytes;
          at = at;
          tree = spells.0;
          spelled = spells.1;
          named = subst AreNamesInOrder spells.2 (names_hold p accepted);
          code = code_of p;
          is_code = code.0;
          good = subst (λ q. IsGoodCode (resolved q) (code_of p)) spells.2 (is_good bytes p fits spells accepted);
          text = code.1;
          tells = code.2;
          put = subst (λ r. Writes old new (report_of r) (Ok tt)) code.3 put;
        }

    puts_good : (files : List File) (name : List ℕ) → before.told ≡ Some files → Performs before after old new (does (accepted_program name) may_reply) status
        → PutsGoodCode Tells files name old new
    puts_good files name told performs =
        good name files (performs_took before after old new status files (accepted_program name) may_reply (λ p. 0) told (subst IsResult (sym done) tt) performs)

  pub call_code : OfAccepted (λ p. IsGoodCode (resolved p) (code_of p)) → status ≡ s.Done → IfSome before.told (λ files. PutsCode files words old new)
  call_code is_good done = if_told before.told (λ files. PutsCode files words old new) (λ files told name is.
      puts_good is_good done IsListingOf Compiles (λ p reply h. (h.is_code, listing (code_of p), record { listed = h.listed; spelling = refl }, h.is)) files name told
      (call_by (codes "compile" ∷ name ∷ []) is))

  pub call_object : OfAccepted (λ p. IsGoodCode (resolved p) (code_of p)) → status ≡ s.Done → IfSome before.told (λ files. PutsObject files words old new)
  call_object is_good done = if_told before.told (λ files. PutsObject files words old new) (λ files told name is.
      puts_good is_good done IsObjectOf (λ p. RepliesObject (code_of p))
      (λ p reply h. (h.is_code, object_code.object (code_of p), record { whole = h.whole; spelling = refl }, h.is)) files name told
      (call_by (codes "object" ∷ name ∷ []) is))

  -- what is put of a program of which threads are replaced
  pub call_swapped : ((bytes these name : List ℕ) (i : SwapInput) → length bytes ≤ MOST_BYTES → length these ≤ MOST_BYTES → SpellsProgram bytes i.program
      → SpellsProgram these i.replacing → AreNamesInOrder i.program → misfit_rejection name (resolved i.program) i.replacing ≡ None
      → AreSecureIfAccepted (lines_by j i) (swapped_programs (resolved i.program) (replacements i)))
      → status ≡ s.Done → IfSome before.told (λ files. HoldsSwapped j files words)
  call_swapped are_secure done = if_told before.told (λ files. HoldsSwapped j files words) holds
    where
      swapped : (name replacing : List ℕ) (files : List File) → Takes files (λ i. Puts (Swaps j i) old new status) (swap_reading name replacing)
          → (i : SwapInput) × HoldsText files name i.program × HoldsText files replacing i.replacing × AreNamesInOrder i.program
          × AreSecureIfAccepted (lines_by j i) (swapped_programs (resolved i.program) (replacements i))
      swapped name replacing files (bytes, at, fits, (p, spells, (these, there, brief, (e, given, (named, (none, puts)))))) =
          let i : SwapInput = record { program = p; replacing = e } in
          let ordered = names_ordered p named in (
            i,
            record { bytes = bytes; at = at; spelled = spells },
            record { bytes = these; at = there; spelled = given },
            ordered,
            are_secure bytes these replacing i fits brief spells given ordered none,
          )

      holds : (files : List File) → before.told ≡ Some files → HoldsSwapped j files words
      holds files told name replacing is =
          swapped name replacing files (performs_took before after old new status files (swap_reading name replacing) (Swaps j) (due_by j) told
          (subst IsResult (sym done) tt) (call_by (codes "swap" ∷ name ∷ replacing ∷ []) is))

  -- what is accepted for every level
  pub call_levels : ((bytes these : List ℕ) (i : LevelsInput) → length bytes ≤ MOST_BYTES → length these ≤ MOST_BYTES → SpellsProgram bytes i.program
      → GivesLevels these i.program i.levels → AreNamesInOrder i.program → level_rejection i ≡ None → IsSecureForAll i.levels (resolved i.program))
      → status ≡ s.Done → IfSome before.told (λ files. HoldsSecureForAll files words)
  call_levels are_secure done = if_told before.told (λ files. HoldsSecureForAll files words) holds
    where
      secure : (name over : List ℕ) (files : List File) → Takes files (λ i. Puts (AcceptsForAll i) old new status) (levels_reading name over)
          → (i : LevelsInput) × HoldsText files name i.program × HoldsLevels files over i × AreNamesInOrder i.program
          × IsSecureForAll i.levels (resolved i.program)
      secure name over files (bytes, at, fits, (p, spells, (these, there, brief, (l, given, (named, (none, puts)))))) =
          let i : LevelsInput = record { program = p; levels = l } in
          let ordered = names_ordered p named in (
            i,
            record { bytes = bytes; at = at; spelled = spells },
            record { bytes = these; at = there; given = given },
            ordered,
            are_secure bytes these i fits brief spells given ordered none,
          )

      holds : (files : List File) → before.told ≡ Some files → HoldsSecureForAll files words
      holds files told name over is =
          secure name over files (performs_took before after old new status files (levels_reading name over) AcceptsForAll (λ i. 0) told
          (subst IsResult (sym done) tt) (call_by (codes "levels" ∷ name ∷ over ∷ []) is))

  -- what is put of a program that is annotated
  pub call_annotated : ((bytes : List ℕ) (depth : ℕ) (p : Parsed) → length bytes ≤ MOST_BYTES → SpellsProgram bytes p → AreNamesInOrder p
      → annotation_rejection depth p ≡ None → IsSecureAnnotated depth p)
      → status ≡ s.Done → IfSome before.told (λ files. PutsAnnotated files words old new)
  call_annotated are_secure done = if_told before.told (λ files. PutsAnnotated files words old new) holds
    where
      puts : (name : List ℕ) (depth : ℕ) (files : List File) → Takes files (λ p. Puts (Annotates depth p) old new status) (annotate_reading name depth)
          → PutsAnnotatedText files name depth old new
      puts name depth files (bytes, at, fits, (p, spells, (named, (declared, (none, (reply, replied, is, put)))))) =
          let ordered = names_ordered p named in
          record {
            program = p;
            there = record { bytes = bytes; at = at; spelled = spells };
            named = ordered;
            text = are_secure bytes depth p fits spells ordered none;
            put = subst (λ r. Writes old new (report_of r) (Ok tt)) replied put;
          }

      -- by the depth that a word spells, if it spells one
      by : (files : List File) (name word : List ℕ) → before.told ≡ Some files → (o : Option ℕ) → depth_of word ≡ o
          → Performs before after old new (plan_of j (of_depth name o)) status
          → (depth : ℕ) × (depth_of word ≡ Some depth) × PutsAnnotatedText files name depth old new
      by files name word told (Some depth) e performs = (
        depth,
        e,
        puts name depth files (performs_took before after old new status files (annotate_reading name depth) (Annotates depth) (λ p. 0) told
            (subst IsResult (sym done) tt) performs),
      )
      by files name word told None e performs =
          let (wrong, end) = performs_took before after old new status files (tries (Some no_form) (gives (tt {0}))) (λ x reply. ⊥) (λ x. 0) told
          (subst IsResult (sym done) tt) performs in
          absurd end.1

      holds : (files : List File) → before.told ≡ Some files → PutsAnnotated files words old new
      holds files told name word is =
          by files name word told (depth_of word) refl (call_by (codes "annotate" ∷ name ∷ word ∷ []) is)

  -- a reply that two runs differ is one of `pair` or of `refute`
  differs : (files : List File) → before.told ≡ Some files → status ≡ s.Differ → may_differ (command_of words) ≡ true
  differs files told differ = by (may_differ (command_of words)) refl
    where
      -- what was taken has a reply of this status
      taken : (plan : Plan) → IsSound (IsSuccessIf false) plan → Performs before after old new plan status → ⊥
      taken (asks reading may_reply due) is_sound h =
          at_end files reading (λ x. Puts (may_reply x) old new status) (λ x put. let done = (is_sound.1 x).success put.0 put.1 in
          let wrong : s.Done ≡ s.Differ = sym done ∙ sym put.2 ∙ differ in cc)
          (performs_took before after old new status files reading may_reply due told (subst IsResult (sym differ) tt) h)

      by : (b : Bool) → may_differ (command_of words) ≡ b → may_differ (command_of words) ≡ true
      by true e = e
      by false e = absurd (taken (plan_for j words) (subst (λ c. IsSound (IsSuccessIf c) (plan_for j words)) e (sound j (command_of words))) call_performed)

  pub call_agree : OfAccepted (λ p. IsSecure (meaning p)) → IfSome before.told (λ files. RunsAccepted files words → status ≡ s.Differ → ⊥)
  call_agree is_secure = if_told before.told (λ files. RunsAccepted files words → status ≡ s.Differ → ⊥) agree
    where
      -- one file spells one program
      same_text : (files : List File) (name : List ℕ) (holds : HoldsAccepted files name) (bytes : List ℕ) (p : Parsed) → held files name ≡ Some bytes
          → SpellsProgram bytes p → holds.spelled ≡ p
      same_text files name holds bytes p at spells =
          let same : holds.bytes ≡ bytes = some_one (held files name) holds.bytes bytes holds.at at in
          program_reading.one_value bytes holds.spelled p (subst (λ b. SpellsProgram b holds.spelled) same holds.is) spells

      apart : (name first second schedule : List ℕ) (files : List File) → HoldsAccepted files name → status ≡ s.Differ
          → Takes files (λ i. Puts (Pairs i) old new status) (pair_reading name first second schedule) → ⊥
      apart name first second schedule files holds differ (bytes, at, fits, (p, spells, (lb, lat, lfits, (l, lread, (rb, rat, rfits, (r, rread, (kb, kat, kfits, (k, kread, (declared, (fit, (reply, runs, is, put))))))))))) =
          let accepted = subst IsAcceptedText (same_text files name holds bytes p at spells) holds.accepted in
          pairs_never_differ p l r k (is_secure bytes p fits spells accepted) (start_fits p lb l lread) (start_fits p rb r rread) (schedule_fits p kb k kread) fit
          reply runs (sym is ∙ differ)

      tried : (name : List ℕ) (trials : ℕ) (files : List File) → HoldsAccepted files name → status ≡ s.Differ
          → Takes files (λ p. Puts (Refutes trials p) old new status) (refute_reading name) → ⊥
      tried name trials files holds differ (bytes, at, fits, (p, spells, (declared, (reply, replied, is, put)))) =
          refutes_never_differ trials p (is_secure bytes p fits spells (subst IsAcceptedText (same_text files name holds bytes p at spells) holds.accepted)) reply replied (sym is ∙ differ)

      agree : (files : List File) → before.told ≡ Some files → RunsAccepted files words → status ≡ s.Differ → ⊥
      agree files told accepted differ = by (differing_words words (differs files told differ))
        where
          by : ArePairWords words ⊎ AreTrialWords words → ⊥
          by (inl (name, first, second, schedule, is)) =
              apart name first second schedule files (accepted.pair name first second schedule is) differ
              (performs_took before after old new status files (pair_reading name first second schedule) Pairs (λ i. 0) told
              (subst IsResult (sym differ) tt) (call_by (codes "pair" ∷ name ∷ first ∷ second ∷ schedule ∷ []) is))
          by (inr (name, number, trials, some, is)) =
              tried name trials files (accepted.refute name number is) differ
              (performs_took before after old new status files (refute_reading name) (Refutes trials) (λ p. 0) told (subst IsResult (sym differ) tt)
              (subst (λ o. Performs before after old new (plan_of j (of_trials name o)) status) some (call_by (codes "refute" ∷ name ∷ number ∷ []) is)))

  pub call_fault : status ≡ s.ReadFault → Rose before.faults after.faults
  call_fault fault =
      performs_fault before after old new status (IsSuccessIf (may_differ (command_of words))) (results (may_differ (command_of words))) (plan_for j words)
      (sound j (command_of words)) fault call_performed

  pub call_passes : Passes before after
  call_passes = performs_passes before after old new status (plan_for j words) call_performed

  pub call_complete : (status ≡ s.WriteFault → Rose old.faults new.faults) → ¬ Rose before.faults after.faults → ¬ Rose old.faults new.faults
      → IfSome before.told (λ files. IsMet files (plan_for j words) → IsSuccess words status ⊎ (status ≡ s.NoMemory))
  call_complete rose quiet written = if_told before.told (λ files. IsMet files (plan_for j words) → IsSuccess words status ⊎ (status ≡ s.NoMemory)) met
    where
      success : (b : Bool) → may_differ (command_of words) ≡ b → IsSuccessIf b status → IsSuccess words status
      success false e done = inl done
      success true e (inl done) = inl done
      success true e (inr differ) = by_words (differing_words words e)
        where
          by_words : ArePairWords words ⊎ AreTrialWords words → IsSuccess words status
          by_words (inl (name, first, second, schedule, is)) = inr (differ, name ∷ first ∷ second ∷ schedule ∷ [], inl is)
          by_words (inr (name, number, trials, some, is)) = inr (differ, name ∷ number ∷ [], inr is)

      by : (status ≡ s.NoMemory) ⊎ (status ≡ s.WriteFault) ⊎ IsSuccessIf (may_differ (command_of words)) status → IsSuccess words status ⊎ (status ≡ s.NoMemory)
      by (inl e) = inr e
      by (inr (inl e)) = absurd (written (rose e))
      by (inr (inr h)) = inl (success (may_differ (command_of words)) refl h)

      met : (files : List File) → before.told ≡ Some files → IsMet files (plan_for j words) → IsSuccess words status ⊎ (status ≡ s.NoMemory)
      met files told all =
          by (performs_met before after old new status (IsSuccessIf (may_differ (command_of words))) files (plan_for j words) (sound j (command_of words)) told (inr quiet) all call_performed)
