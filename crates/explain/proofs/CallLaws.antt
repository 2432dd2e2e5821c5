-- Laws of what is told of files, and of how a call ends.
use Rattle.std.proofs.Common.{◌≡◌, ℕ, ◌+◌, ◌<◌, ◌==◌, Bool, true, false, List, [], ◌∷◌, ◌++◌, length, map, take, drop, get_or, Result, Option, Some, None, Ok, Err, IfOk, inl, inr, codes, refl, sym, ap, ◌∙◌, subst, append_assoc}
use Rattle.std.proofs.lemmas.Bool.{and_parts, eqb-true}
use Rattle.std.proofs.lemmas.List.{append-nil, drop_more, map-append, map_more, take-append-drop}
use Rattle.std.specs.Str.{bytes_eq}
use Rattle.call_inputs.specs.Programs.{IsShownFault, SpellsProgram}
use Rattle.call_inputs.specs.Readings.{End, FollowsBytes, FollowsCall, HasRead, Reads, gives, lacks, stops, took, tries}
use Rattle.call_inputs.specs.Rejections.{Rejection, UnlessRejected}
use Rattle.call_inputs.specs.Plans.{RepliesAt}
use Rattle.call_inputs.specs.Steps.{AreThese, NoFault, bytes}
use Rattle.call_inputs.proofs.ReadingLaws.{reads_onward, reads_pass}
use Rattle.call_judge.specs.Check.{rejection, verdict}
use Rattle.call_judge.specs.Texts.{ChecksBytes}
use Rattle.call_reports.specs.Replies.{Reply, status_of}
use Rattle.call_reports.specs.Reports.{report_of}
use Rattle.call_reports.specs.declared.answers.Status.{Status}
use Rattle.call_reports.specs.declared.answers.Status.TheVariants as s
use Rattle.cov_ast.specs.Syntax.{Parsed}
use Rattle.cov_expr.specs.declared.limits.TheConstants.{MOST_BYTES}
use Rattle.cov_expr.specs.declared.list.NoMemory.{NoMemory}
use Rattle.cov_io.specs.Shelves.{Passes, Shelved}
use Rattle.cov_io.specs.Sinks.{Sunk}
use Rattle.cov_io.specs.declared.shelf.Fetched.{Fetched}
use Rattle.cov_io.specs.declared.shelf.Fetched.TheVariants.{Whole, TooLong}
use Rattle.cov_io.specs.declared.shelf.ShelfFault.{ShelfFault}
use Rattle.cov_io.specs.declared.shelf.ShelfFault.TheVariants as fails
use Rattle.cov_io.proofs.ShelfLaws.{passes_none}
use Rattle.explain.specs.Explanations.{explanation_at, where_is, sentence_of, place_of}
use Rattle.explain.specs.SuggestedTexts.{suggested_lines, suggested_status}
use Rattle.explain.specs.FileCalls.{Answers, AnswersTo, EndsAt, Explains, FollowsFile, FollowsOver, FollowsProgram, IsChecked, Outcome, Tells, TellsAll, TellsLevels, asks_for_levels, files_of, first_status, manner_of, out_of_memory, told, usage_line, AnswersBesides, FollowsSuggested, TellsSuggested, asks_for_suggestions}
use Rattle.explain.specs.Inside.Told.{AddsTold, IsLeft}
use Rattle.explain.specs.LevelTellings.{malformed_lines}
use Rattle.explain.specs.Tellings.{name_front}
use Rattle.explain.specs.declared.manner.Manner.{Manner}
use Rattle.text_parts.specs.Excerpts.{excerpt}

-- One file -----------------------------------------------------------------------------------------------------

-- what a step adds behind a step that read a file
pub file_told : (w : Manner) (name old new : List ℕ) (r : Result Status NoMemory) (before after : Shelved) (end : End (List ℕ))
    → HasRead before after (bytes name MOST_BYTES) end → AddsTold w name end old new r
    → Reads (λ shelf last. (shelf ≡ after) × AddsTold w name last old new r) before (bytes name MOST_BYTES)
file_told w name old new r before after end read adds =
    reads_onward (λ shelf last. (shelf ≡ after) × (last ≡ end)) (λ shelf last. (shelf ≡ after) × AddsTold w name last old new r)
    (λ shelf last e. (e.0, subst (λ l. AddsTold w name l old new r) (sym e.1) adds)) before (bytes name MOST_BYTES) read

-- a step behind one for which memory ran out
pub file_not : (name : List ℕ) (before after : Shelved) → HasRead before after (bytes name MOST_BYTES) lacks
    → Reads (λ shelf (last : End (List ℕ)). (shelf ≡ after) × Unit {0}) before (bytes name MOST_BYTES)
file_not name before after read =
    reads_onward (λ shelf last. (shelf ≡ after) × (last ≡ lacks)) (λ shelf (last : End (List ℕ)). (shelf ≡ after) × Unit {0})
    (λ shelf last e. (e.0, tt)) before (bytes name MOST_BYTES) read

pub unread_told : (w : Manner) (name : List ℕ) (reply : Reply) (old new : List ℕ) (r : Result Status NoMemory)
    → IfOk r (λ status. (status ≡ status_of reply) × (new ≡ old ++ report_of reply)) → AddsTold w name (stops reply) old new r
unread_told w name reply old new (Ok status) (is, more) = (reply, report_of reply, (refl, refl), is, more)
unread_told w name reply old new (Err e) h = tt

-- Several files ------------------------------------------------------------------------------------------------

-- what is said of files behind which others come
abbrev pub Onward : (w : Manner) (left : Shelved → Outcome → Type 0) (rest : List (List ℕ)) → Shelved → Outcome → Type 0
Onward w left rest shelf (told text status) = TellsAll left w shelf rest text status
Onward w left rest shelf out_of_memory = left shelf out_of_memory

module _ (w : Manner) (left : Shelved → Outcome → Type 0) (rest : List (List ℕ)) (last : Shelved) (outcome : Outcome) (next : Onward w left rest last outcome) where
  left_at : (shelf : Shelved) (other : Outcome) → IsLeft last outcome shelf other → Onward w left rest shelf other
  left_at shelf other e = subst (λ x. Onward w left rest x other) (sym e.0) (subst (Onward w left rest last) (sym e.1) next)

  turn : (name : List ℕ) (front : List (List ℕ)) (text : List ℕ) (status : Status)
      → ((after : Shelved) (t : List ℕ) (st : Status) → TellsAll (IsLeft last outcome) w after front t st → TellsAll left w after (front ++ rest) t st)
      → (after : Shelved) (end : End (List ℕ))
      → FollowsFile w name (λ reply here. TellsAll (IsLeft last outcome) w after front (text ++ here) (first_status status (status_of reply)))
      (IsLeft last outcome after out_of_memory) end
      → FollowsFile w name (λ reply here. TellsAll left w after (front ++ rest) (text ++ here) (first_status status (status_of reply))) (left after out_of_memory) end
  turn name front text status each after end (inl (reply, here, tells, h)) =
      inl (reply, here, tells, each after (text ++ here) (first_status status (status_of reply)) h)
  turn name front text status each after end (inr h) = inr (left_at after out_of_memory h)

  -- files, and behind them others
  pub tells_then : (front : List (List ℕ)) (shelf : Shelved) (text : List ℕ) (status : Status) → TellsAll (IsLeft last outcome) w shelf front text status
      → TellsAll left w shelf (front ++ rest) text status
  tells_then [] shelf text status h = left_at shelf (told text status) h
  tells_then (name ∷ front) shelf text status h =
      reads_onward
      (λ after end. FollowsFile w name (λ reply here. TellsAll (IsLeft last outcome) w after front (text ++ here) (first_status status (status_of reply)))
      (IsLeft last outcome after out_of_memory) end)
      (λ after end. FollowsFile w name (λ reply here. TellsAll left w after (front ++ rest) (text ++ here) (first_status status (status_of reply)))
      (left after out_of_memory) end)
      (turn name front text status (λ after t st. tells_then front after t st)) shelf (bytes name MOST_BYTES) h

module _ (w : Manner) (name : List ℕ) (a b : Shelved) (text now : List ℕ) (status : Status) where
  -- one file of which all is told, and one behind which memory ran out
  pub one_told : (next : Status) → Reads (λ shelf end. (shelf ≡ b) × AddsTold w name end text now (Ok next)) a (bytes name MOST_BYTES)
      → TellsAll (IsLeft b (told now (first_status status next))) w a (name ∷ []) text status
  one_told next h =
      reads_onward (λ shelf end. (shelf ≡ b) × AddsTold w name end text now (Ok next))
      (λ after end. FollowsFile w name (λ reply here. IsLeft b (told now (first_status status next)) after (told (text ++ here) (first_status status (status_of reply))))
      (IsLeft b (told now (first_status status next)) after out_of_memory) end)
      each a (bytes name MOST_BYTES) h
    where
      same : (reply : Reply) (here : List ℕ) → next ≡ status_of reply → now ≡ text ++ here
          → told (text ++ here) (first_status status (status_of reply)) ≡ told now (first_status status next)
      same reply here status_is more = cc

      each : (shelf : Shelved) (end : End (List ℕ)) → (shelf ≡ b) × AddsTold w name end text now (Ok next)
          → FollowsFile w name (λ reply here. IsLeft b (told now (first_status status next)) shelf (told (text ++ here) (first_status status (status_of reply))))
          (IsLeft b (told now (first_status status next)) shelf out_of_memory) end
      each shelf end (stays, (reply, here, tells, status_is, more)) = inl (reply, here, tells, (stays, same reply here status_is more))

  pub one_not : (names : List (List ℕ)) (e : NoMemory) → Reads (λ shelf end. (shelf ≡ b) × AddsTold w name end text now (Err e)) a (bytes name MOST_BYTES)
      → TellsAll (IsLeft b out_of_memory) w a (name ∷ names) text status
  one_not names e h =
      reads_onward (λ shelf end. (shelf ≡ b) × AddsTold w name end text now (Err e))
      (λ after end. FollowsFile w name (λ reply here. TellsAll (IsLeft b out_of_memory) w after names (text ++ here) (first_status status (status_of reply)))
      (IsLeft b out_of_memory after out_of_memory) end)
      (λ shelf end k. inr (k.0, refl)) a (bytes name MOST_BYTES) h

-- a step of the loop over files: `seen` is what contracts see of a name
module _ {A : Type 0} (w : Manner) (seen : A → List ℕ) (names : List A) (i : ℕ) (a b c : Shelved) (item : A) (name before text now : List ℕ) (status : Status)
    (inside : i < length names) (at : item ≡ get_or names i item) (is : name ≡ seen item)
    (so_far : TellsAll (IsLeft b (told text status)) w a (map seen (take i names)) before s.Done) where
  pub tells_step : (next : Status) → Reads (λ shelf end. (shelf ≡ c) × AddsTold w name end text now (Ok next)) b (bytes name MOST_BYTES)
      → TellsAll (IsLeft c (told now (first_status status next))) w a (map seen (take (i + 1) names)) before s.Done
  tells_step next h =
      subst (λ ns. TellsAll (IsLeft c (told now (first_status status next))) w a ns before s.Done) (sym names_are)
      (tells_then w (IsLeft c (told now (first_status status next))) (name ∷ []) b (told text status) (one_told w name b c text now status next h)
      (map seen (take i names)) a before s.Done so_far)
    where
      names_are : map seen (take (i + 1) names) ≡ map seen (take i names) ++ name ∷ []
      names_are = map_more seen names i item inside ∙ ap (λ x. map seen (take i names) ++ x ∷ []) (ap seen (sym at) ∙ sym is)

  pub tells_stopped : (e : NoMemory) → Reads (λ shelf end. (shelf ≡ c) × AddsTold w name end text now (Err e)) b (bytes name MOST_BYTES)
      → TellsAll (IsLeft c out_of_memory) w a (map seen names) before s.Done
  tells_stopped e h =
      subst (λ ns. TellsAll (IsLeft c out_of_memory) w a ns before s.Done) (sym names_are)
      (tells_then w (IsLeft c out_of_memory) (name ∷ map seen (drop (i + 1) names)) b (told text status)
      (one_not w name b c text now status (map seen (drop (i + 1) names)) e h) (map seen (take i names)) a before s.Done so_far)
    where
      names_are : map seen names ≡ map seen (take i names) ++ name ∷ map seen (drop (i + 1) names)
      names_are =
          ap (map seen) (sym (take-append-drop i names))
          ∙ map-append seen (take i names) (drop i names)
          ∙ ap (λ ns. map seen (take i names) ++ map seen ns) (drop_more names i item inside)
          ∙ ap (λ x. map seen (take i names) ++ x ∷ map seen (drop (i + 1) names)) (ap seen (sym at) ∙ sym is)

-- How a call ends ----------------------------------------------------------------------------------------------

-- what is said of the end is said of each that is it
left_so : (last : Shelved) (outcome : Outcome) (left : Shelved → Outcome → Type 0) → left last outcome → (shelf : Shelved) (other : Outcome)
    → IsLeft last outcome shelf other → left shelf other
left_so last outcome left h shelf other e = subst (λ x. left x other) (sym e.0) (subst (left last) (sym e.1) h)

module _ (left : Shelved → Outcome → Type 0) (last : Shelved) where
  nothing_next : (w : Manner) (outcome : Outcome) → left last outcome → Onward w left [] last outcome
  nothing_next w (told text status) h = h
  nothing_next w out_of_memory h = h

  module _ (outcome : Outcome) (is_left : left last outcome) where
    over_so : (name these : List ℕ) (p : Parsed) (over text : List ℕ) (shelf : Shelved) (end : End (List ℕ))
        → FollowsOver (IsLeft last outcome) name these p over text shelf end → FollowsOver left name these p over text shelf end
    over_so name these p over text shelf end (inl (reply, here, tells, e)) =
        inl (reply, here, tells, left_so last outcome left is_left shelf (told (text ++ here) (status_of reply)) e)
    over_so name these p over text shelf end (inr e) = inr (left_so last outcome left is_left shelf out_of_memory e)

    program_so : (name over text : List ℕ) (shelf : Shelved) (end : End (List ℕ)) → FollowsProgram (IsLeft last outcome) name over text shelf end
        → FollowsProgram left name over text shelf end
    program_so name over text shelf (took these) (inl (p, spells, h)) =
        inl (
          p,
          spells,
          reads_onward (λ after end. FollowsOver (IsLeft last outcome) name these p over text after end)
              (λ after end. FollowsOver left name these p over text after end) (over_so name these p over text) shelf (bytes over MOST_BYTES) h,
        )
    program_so name over text shelf (took these) (inr (inl (fault, is, e))) =
        inr (inl (fault, is, left_so last outcome left is_left shelf (told (text ++ malformed_lines name these fault) s.Malformed) e))
    program_so name over text shelf (took these) (inr (inr e)) = inr (inr (left_so last outcome left is_left shelf out_of_memory e))
    program_so name over text shelf (stops reply) (inl e) = inl (left_so last outcome left is_left shelf (told (text ++ report_of reply) (status_of reply)) e)
    program_so name over text shelf (stops reply) (inr e) = inr (left_so last outcome left is_left shelf out_of_memory e)
    program_so name over text shelf lacks e = left_so last outcome left is_left shelf out_of_memory e

    levels_so : (name over text : List ℕ) (shelf : Shelved) → TellsLevels (IsLeft last outcome) name over text shelf → TellsLevels left name over text shelf
    levels_so name over text shelf h =
        reads_onward (λ after end. FollowsProgram (IsLeft last outcome) name over text after end) (λ after end. FollowsProgram left name over text after end)
        (program_so name over text) shelf (bytes name MOST_BYTES) h

    files_so : (w : Manner) (names : List (List ℕ)) (shelf : Shelved) → TellsAll (IsLeft last outcome) w shelf names [] s.Done → TellsAll left w shelf names [] s.Done
    files_so w names shelf all =
        subst (λ ns. TellsAll left w shelf ns [] s.Done) (append-nil names)
        (tells_then w left [] last outcome (nothing_next w outcome is_left) names shelf [] s.Done all)

    suggested_so : (name text : List ℕ) (shelf : Shelved) (end : End (List ℕ)) → FollowsSuggested (IsLeft last outcome) name text shelf end
        → FollowsSuggested left name text shelf end
    suggested_so name text shelf (took these) (inl (p, spells, e)) =
        inl (p, spells, left_so last outcome left is_left shelf (told (text ++ suggested_lines name these p) (suggested_status p)) e)
    suggested_so name text shelf (took these) (inr (inl (fault, is, e))) =
        inr (inl (fault, is, left_so last outcome left is_left shelf (told (text ++ malformed_lines name these fault) s.Malformed) e))
    suggested_so name text shelf (took these) (inr (inr e)) = inr (inr (left_so last outcome left is_left shelf out_of_memory e))
    suggested_so name text shelf (stops reply) (inl e) = inl (left_so last outcome left is_left shelf (told (text ++ report_of reply) (status_of reply)) e)
    suggested_so name text shelf (stops reply) (inr e) = inr (left_so last outcome left is_left shelf out_of_memory e)
    suggested_so name text shelf lacks e = left_so last outcome left is_left shelf out_of_memory e

    suggests_so : (name text : List ℕ) (shelf : Shelved) → TellsSuggested (IsLeft last outcome) name text shelf → TellsSuggested left name text shelf
    suggests_so name text shelf h =
        reads_onward (λ after end. FollowsSuggested (IsLeft last outcome) name text after end) (λ after end. FollowsSuggested left name text after end)
        (suggested_so name text) shelf (bytes name MOST_BYTES) h

    answers_besides_so : (words : List (List ℕ)) (shelf : Shelved) (b : Bool) → AnswersBesides (IsLeft last outcome) shelf words b → AnswersBesides left shelf words b
    answers_besides_so words shelf true h = suggests_so (get_or words 1 []) [] shelf h
    answers_besides_so words shelf false h = files_so (manner_of words) (files_of words) shelf h

    answers_to_so : (words : List (List ℕ)) (shelf : Shelved) (b : Bool) → AnswersTo (IsLeft last outcome) shelf words b → AnswersTo left shelf words b
    answers_to_so words shelf true h = levels_so (get_or words 1 []) (get_or words 2 []) [] shelf h
    answers_to_so words shelf false h = answers_besides_so words shelf (asks_for_suggestions words) h

  -- what is said of the end is said of it all
  pub answers_so : (names : List (List ℕ)) (shelf : Shelved) (outcome : Outcome) → left last outcome → Answers (IsLeft last outcome) shelf names
      → Answers left shelf names
  answers_so [] shelf outcome h (inl e) = inl (left_at (manner_of []) left [] last outcome (nothing_next (manner_of []) outcome h) shelf (told usage_line s.Usage) e)
  answers_so [] shelf outcome h (inr e) = inr (left_at (manner_of []) left [] last outcome (nothing_next (manner_of []) outcome h) shelf out_of_memory e)
  answers_so (name ∷ names) shelf outcome h all = answers_to_so outcome h (name ∷ names) shelf (asks_for_levels (name ∷ names)) all

-- words of which one at least is there, and which ask for no levels
pub answers_besides : {A : Type 0} (seen : A → List ℕ) (left : Shelved → Outcome → Type 0) (names : List A) (shelf : Shelved) (none : Bool)
    → none ≡ (length names == 0) → none ≡ false → asks_for_levels (map seen names) ≡ false
    → AnswersBesides left shelf (map seen names) (asks_for_suggestions (map seen names)) → Answers left shelf (map seen names)
answers_besides seen left [] shelf none is some others h = let wrong : true ≡ false = sym is ∙ some in cc
answers_besides seen left (name ∷ names) shelf none is some others h = subst (AnswersTo left shelf (map seen (name ∷ names))) (sym others) h

-- a program and levels
pub answers_levels : {A : Type 0} (seen : A → List ℕ) (left : Shelved → Outcome → Type 0) (names : List A) (shelf : Shelved) (text name over : List ℕ) (none : Bool)
    → none ≡ (length names == 0) → none ≡ false → asks_for_levels (map seen names) ≡ true → get_or (map seen names) 1 [] ≡ name
    → get_or (map seen names) 2 [] ≡ over → text ≡ [] → TellsLevels left name over text shelf → Answers left shelf (map seen names)
answers_levels seen left [] shelf text name over none is some asks first second e h = let wrong : true ≡ false = sym is ∙ some in cc
answers_levels seen left (word ∷ words) shelf text name over none is some asks first second e h =
    subst (AnswersTo left shelf (map seen (word ∷ words))) (sym asks)
    (subst (λ n. TellsLevels left n (get_or (map seen (word ∷ words)) 2 []) [] shelf) (sym first)
    (subst (λ o. TellsLevels left name o [] shelf) (sym second) (subst (λ t. TellsLevels left name over t shelf) e h)))

-- how many words there are
pub three_words : (words : List (List ℕ)) → asks_for_levels words ≡ true → length words ≡ 3
three_words words h = eqb-true (length words) 3 (and_parts (length words == 3) (bytes_eq (get_or words 0 []) (codes "--levels")) h).0

pub two_words : (words : List (List ℕ)) → asks_for_suggestions words ≡ true → length words ≡ 2
two_words words h = eqb-true (length words) 2 (and_parts (length words == 2) (bytes_eq (get_or words 0 []) (codes "--suggest")) h).0

-- a call that ends so behind what its calls come to
pub explained : (before after : Shelved) (old new : Sunk) (names : List (List ℕ)) (result : Status) (outcome : Outcome) → Answers (IsLeft after outcome) before names
    → EndsAt old new result outcome → Explains before after old new names result
explained before after old new names result outcome h ends =
    answers_so (λ shelf other. (shelf ≡ after) × EndsAt old new result other) after names before outcome (refl, ends) h

-- calls pass on what a shelf is
module _ (last : Shelved) (outcome : Outcome) where
  left_passes : (shelf : Shelved) (other : Outcome) → IsLeft last outcome shelf other → Passes shelf last
  left_passes shelf other e = subst (Passes shelf) e.0 (passes_none shelf)

  turn_passes : (w : Manner) (name : List ℕ) (names : List (List ℕ)) (text : List ℕ) (status : Status)
      → ((after : Shelved) (t : List ℕ) (st : Status) → TellsAll (IsLeft last outcome) w after names t st → Passes after last)
      → (after : Shelved) (end : End (List ℕ))
      → FollowsFile w name (λ reply here. TellsAll (IsLeft last outcome) w after names (text ++ here) (first_status status (status_of reply)))
      (IsLeft last outcome after out_of_memory) end
      → Passes after last
  turn_passes w name names text status each after end (inl (reply, here, tells, h)) = each after (text ++ here) (first_status status (status_of reply)) h
  turn_passes w name names text status each after end (inr h) = left_passes after out_of_memory h

  tells_pass : (w : Manner) (names : List (List ℕ)) (shelf : Shelved) (text : List ℕ) (status : Status) → TellsAll (IsLeft last outcome) w shelf names text status → Passes shelf last
  tells_pass w [] shelf text status h = left_passes shelf (told text status) h
  tells_pass w (name ∷ names) shelf text status h =
      reads_pass
      (λ after end. FollowsFile w name (λ reply here. TellsAll (IsLeft last outcome) w after names (text ++ here) (first_status status (status_of reply)))
      (IsLeft last outcome after out_of_memory) end) last
      (turn_passes w name names text status (λ after t st. tells_pass w names after t st)) shelf (bytes name MOST_BYTES) h

  over_pass : (name these : List ℕ) (p : Parsed) (over text : List ℕ) (shelf : Shelved) (end : End (List ℕ))
      → FollowsOver (IsLeft last outcome) name these p over text shelf end → Passes shelf last
  over_pass name these p over text shelf end (inl (reply, here, tells, e)) = left_passes shelf (told (text ++ here) (status_of reply)) e
  over_pass name these p over text shelf end (inr e) = left_passes shelf out_of_memory e

  program_passes : (name over text : List ℕ) (shelf : Shelved) (end : End (List ℕ)) → FollowsProgram (IsLeft last outcome) name over text shelf end
      → Passes shelf last
  program_passes name over text shelf (took these) (inl (p, spells, h)) =
      reads_pass (λ after end. FollowsOver (IsLeft last outcome) name these p over text after end) last (over_pass name these p over text) shelf
      (bytes over MOST_BYTES) h
  program_passes name over text shelf (took these) (inr (inl (fault, is, e))) = left_passes shelf (told (text ++ malformed_lines name these fault) s.Malformed) e
  program_passes name over text shelf (took these) (inr (inr e)) = left_passes shelf out_of_memory e
  program_passes name over text shelf (stops reply) (inl e) = left_passes shelf (told (text ++ report_of reply) (status_of reply)) e
  program_passes name over text shelf (stops reply) (inr e) = left_passes shelf out_of_memory e
  program_passes name over text shelf lacks e = left_passes shelf out_of_memory e

  suggested_passes : (name text : List ℕ) (shelf : Shelved) (end : End (List ℕ)) → FollowsSuggested (IsLeft last outcome) name text shelf end → Passes shelf last
  suggested_passes name text shelf (took these) (inl (p, spells, e)) = left_passes shelf (told (text ++ suggested_lines name these p) (suggested_status p)) e
  suggested_passes name text shelf (took these) (inr (inl (fault, is, e))) = left_passes shelf (told (text ++ malformed_lines name these fault) s.Malformed) e
  suggested_passes name text shelf (took these) (inr (inr e)) = left_passes shelf out_of_memory e
  suggested_passes name text shelf (stops reply) (inl e) = left_passes shelf (told (text ++ report_of reply) (status_of reply)) e
  suggested_passes name text shelf (stops reply) (inr e) = left_passes shelf out_of_memory e
  suggested_passes name text shelf lacks e = left_passes shelf out_of_memory e

  answers_besides_pass : (words : List (List ℕ)) (shelf : Shelved) (b : Bool) → AnswersBesides (IsLeft last outcome) shelf words b → Passes shelf last
  answers_besides_pass words shelf true h =
      reads_pass (λ after end. FollowsSuggested (IsLeft last outcome) (get_or words 1 []) [] after end) last (suggested_passes (get_or words 1 []) []) shelf
      (bytes (get_or words 1 []) MOST_BYTES) h
  answers_besides_pass words shelf false h = tells_pass (manner_of words) (files_of words) shelf [] s.Done h

  answers_to_pass : (words : List (List ℕ)) (shelf : Shelved) (b : Bool) → AnswersTo (IsLeft last outcome) shelf words b → Passes shelf last
  answers_to_pass words shelf true h =
      reads_pass (λ after end. FollowsProgram (IsLeft last outcome) (get_or words 1 []) (get_or words 2 []) [] after end) last
      (program_passes (get_or words 1 []) (get_or words 2 []) []) shelf (bytes (get_or words 1 []) MOST_BYTES) h
  answers_to_pass words shelf false h = answers_besides_pass words shelf (asks_for_suggestions words) h

  pub answers_pass : (names : List (List ℕ)) (shelf : Shelved) → Answers (IsLeft last outcome) shelf names → Passes shelf last
  answers_pass [] shelf (inl e) = left_passes shelf (told usage_line s.Usage) e
  answers_pass [] shelf (inr e) = left_passes shelf out_of_memory e
  answers_pass (name ∷ names) shelf h = answers_to_pass (name ∷ names) shelf (asks_for_levels (name ∷ names)) h

-- The report of `check` -----------------------------------------------------------------------------------------

regrouped : (a b c d e : List ℕ) → a ++ b ++ c ++ d ++ e ≡ a ++ (b ++ c ++ d ++ e)
regrouped a b c d e = ap (λ x. x ++ d ++ e) (append_assoc a b c) ∙ ap (λ x. x ++ e) (append_assoc a (b ++ c) d) ∙ append_assoc a (b ++ c ++ d) e

has_report : (name bytes : List ℕ) (reply : Reply) (place : Option ℕ) → (front : List ℕ) × (rest : List ℕ) × (explanation_at name bytes reply place ≡ front ++ report_of reply ++ rest)
has_report name bytes reply None = ([], [], sym (append-nil (report_of reply)))
has_report name bytes reply (Some place) = (
  where_is name bytes place,
  excerpt bytes place ++ codes "  " ++ sentence_of bytes reply ++ codes "\n",
  regrouped (where_is name bytes place ++ report_of reply) (excerpt bytes place) (codes "  ") (sentence_of bytes reply) (codes "\n"),
)

abbrev pub HasReport : Reply → List ℕ → Type 0
HasReport reply text = (front : List ℕ) × (rest : List ℕ) × (text ≡ front ++ report_of reply ++ rest)

told_report : (w : Manner) (name : List ℕ) (end : End (List ℕ)) (reply : Reply) (text : List ℕ) → Tells w name end reply text → HasReport reply text
told_report w name (took these) reply text (checks, (lines, adds, is)) =
    let h = has_report name these reply (place_of reply) in
    let front = name_front w.named name reply in
    let report = report_of reply in (
      front ++ h.0,
      h.1 ++ lines,
      is ∙ ap (λ t. front ++ (t ++ lines)) h.2 ∙ ap (λ t. front ++ t) (append_assoc (h.0 ++ report) h.1 lines)
          ∙ sym (append_assoc front (h.0 ++ report) (h.1 ++ lines)) ∙ ap (λ t. t ++ (h.1 ++ lines)) (sym (append_assoc front h.0 report)),
    )
told_report w name (stops other) reply text (same, is) = ([], [], is ∙ sym (append-nil (report_of reply)))
told_report w name lacks reply text h = absurd h

-- `check` replies so, and the shelf is left as this
abbrev pub Replied : (last : Shelved) → Reply → Shelved → End Parsed → Type 0
Replied last reply left end = (left ≡ last) × RepliesAt (λ p other. other ≡ verdict p) end reply

module _ (name : List ℕ) (reply : Reply) (last shelf : Shelved) (stays : shelf ≡ last) where
  judged : (p : Parsed) (o : Option Rejection) → UnlessRejected o (λ r. r ≡ verdict p) reply → Reads (Replied last reply) shelf (tries o (gives p))
  judged p None h = inl (stays, h)
  judged p (Some rejects) h = inl (stays, h)

  bytes_checked : (these : List ℕ) → ChecksBytes name these reply
      → FollowsBytes SpellsProgram IsShownFault name (λ p. Reads (Replied last reply) shelf (tries (rejection p) (gives p))) (λ r. Replied last reply shelf (stops r))
      (Replied last reply shelf lacks) these
  bytes_checked these (inl (p, spells, judges)) = inl (p, spells, judged p (rejection p) judges)
  bytes_checked these (inr (fault, is_fault, is)) = inr (inl (fault, is_fault, (stays, is)))

module _ (w : Manner) (name : List ℕ) (reply : Reply) (text : List ℕ) (last shelf : Shelved) where
  -- what a call of the shelf says of a file of which something is told
  call_checked : (end : End (List ℕ)) → Tells w name end reply text → (answer : Result Fetched ShelfFault)
      → FollowsCall AreThese NoFault name (λ these. (shelf ≡ last) × (took these ≡ end)) (λ r. (shelf ≡ last) × (stops r ≡ end)) ((shelf ≡ last) × (lacks ≡ end)) answer
      → FollowsCall SpellsProgram IsShownFault name (λ p. Reads (Replied last reply) shelf (tries (rejection p) (gives p)))
      (λ r. Replied last reply shelf (stops r)) (Replied last reply shelf lacks) answer
  call_checked end tells (Ok (Whole read)) (inl (these, is, (stays, e))) =
      let here : Tells w name (took these) reply text = subst (λ x. Tells w name x reply text) (sym e) tells in
      bytes_checked name reply last shelf stays read (subst (λ b. ChecksBytes name b reply) is here.0)
  call_checked end tells (Ok (Whole read)) (inr (inl (fault, is, e))) = absurd is
  call_checked end tells (Ok (Whole read)) (inr (inr (stays, e))) = absurd (subst (λ x. Tells w name x reply text) (sym e) tells)
  call_checked end tells (Ok TooLong) (stays, e) = (stays, (subst (λ x. Tells w name x reply text) (sym e) tells).0)
  call_checked end tells (Err fails.Failed) (stays, e) = (stays, (subst (λ x. Tells w name x reply text) (sym e) tells).0)
  call_checked end tells (Err fails.NoMemory) (stays, e) = absurd (subst (λ x. Tells w name x reply text) (sym e) tells)

-- what is told of a file is by a reply that `check` gives to it, and has its report
pub told_checked : (before after : Shelved) (w : Manner) (name : List ℕ) (end : End (List ℕ)) (reply : Reply) (text : List ℕ) → HasRead before after (bytes name MOST_BYTES) end
    → Tells w name end reply text → IsChecked before after name reply × HasReport reply text
told_checked before after w name end reply text (between, answer, call, h) tells =
    ((between, answer, call, call_checked w name reply text after between end tells answer h), told_report w name end reply text tells)
