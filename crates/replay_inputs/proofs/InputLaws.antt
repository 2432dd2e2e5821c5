-- Laws of starts and schedules: how they are read, and what they are made of.
use Rattle.std.proofs.Common.{◌≡◌, ℕ, suc, ◌^◌, ◌<◌, ◌≤◌, nat_lt, List, [], ◌∷◌, Bool, true, false, ◌&&◌, ◌||◌, cond, length, map, Option, Some, None, Result, Ok, Err, refl, sym, ap, ◌∙◌, subst, arith}
use Rattle.std.specs.Prelude.{option_and_then, is_some}
use Rattle.std.specs.Str.{bytes_eq}
use Rattle.std.proofs.lemmas.Bool.Decides.{nat_tests}
use Rattle.cov_expr.specs.declared.limits.TheConstants.{MOST_ENTRIES}
use Rattle.cov_ast.specs.Syntax.{Parsed}
use Rattle.cov_ast.specs.View as view
use Rattle.cov_ast.specs.declared.decl.VarDecl.{VarDecl}
use Rattle.cov_expr.specs.Words.{IsMemory, IsSchedule}
use Rattle.serde_json.specs.Data.{Data, Members, no_members, member, Items, no_items, item}
use Rattle.serde_json.specs.Events.{items_len}
use Rattle.serde_json.specs.Find.{as_array, as_object, as_number, as_u64, get_member}
use Rattle.schedule_replay.specs.Json.{below, number_below, value_of}
use Rattle.schedule_replay.specs.Schedules as k
use Rattle.schedule_replay.specs.Starts as m
use Rattle.schedule_replay.specs.declared.fault.ScheduleFault.{ScheduleFault}
use Rattle.schedule_replay.specs.declared.fault.ScheduleFault.TheVariants as schedules
use Rattle.schedule_replay.specs.declared.fault.StartFault.{StartFault}
use Rattle.schedule_replay.specs.declared.fault.StartFault.TheVariants as starts
use Rattle.replay_inputs.specs.Inputs.{declaration_of, start_shown, schedule_shown, IsStart, IsStartFault, IsScheduleText, IsScheduleFault}
use Rattle.call_reports.specs.AnswerViews.{Stops}
use Rattle.call_reports.specs.Replies.{malformed}
use Rattle.call_reports.specs.declared.answers.Fault.{Fault}
use Rattle.call_reports.specs.declared.answers.Stop.{Stop}
use Rattle.call_reports.specs.declared.answers.Stop.TheVariants as stops
use Rattle.call_inputs.proofs.ReadingLaws.{IsReading}

-- Files that a function reads ----------------------------------------------------------------------------------

module _ {A E : Type 0} (given : List ℕ → Result A E) (shown : E → Option Fault) where
  abbrev pub IsGiven : List ℕ → A → Type 0
  IsGiven bytes x = given bytes ≡ Ok x

  abbrev pub IsGivenFault : List ℕ → Fault → Type 0
  IsGivenFault bytes fault = (found : E) × (given bytes ≡ Err found) × (shown found ≡ Some fault)

  given_one : (bytes : List ℕ) (x y : A) → IsGiven bytes x → IsGiven bytes y → x ≡ y
  given_one bytes x y h h' = let same : Ok x ≡ Ok y = sym h ∙ h' in cc

  given_fault : (bytes : List ℕ) (f g : Fault) → IsGivenFault bytes f → IsGivenFault bytes g → f ≡ g
  given_fault bytes f g (found, h, is) (found', h', is') =
      let same : Err found ≡ Err found' = sym h ∙ h' in
      let one : found ≡ found' = cc in
      let shows : Some f ≡ Some g = sym is ∙ ap shown one ∙ is' in cc

  given_or_fault : (bytes : List ℕ) (x : A) (f : Fault) → IsGiven bytes x → IsGivenFault bytes f → ⊥
  given_or_fault bytes x f h (found, h', is) = let wrong : Ok x ≡ Err found = sym h ∙ h' in cc

  pub given_reading : IsReading IsGiven IsGivenFault
  given_reading = record { one_value = given_one; one_fault = given_fault; not_both = given_or_fault }

  pub given_unread : (name : List ℕ) (bytes : List ℕ) (found : E) (stop : Stop) → ((fault : Fault) → shown found ≡ Some fault → given bytes ≡ Err found)
      → Stops (λ reply. (fault : Fault) × (shown found ≡ Some fault) × (reply ≡ malformed name fault)) stop
      → Stops (λ reply. (fault : Fault) × IsGivenFault bytes fault × (reply ≡ malformed name fault)) stop
  given_unread name bytes found (stops.Answer answer) said (fault, e, is) = (fault, (found, said fault e, e), is)
  given_unread name bytes found stops.NoMemory said unread = tt

-- Starts -------------------------------------------------------------------------------------------------------

pub start_fault_said : (found : StartFault) (said : Result (List ℕ) StartFault) → m.GivesStart (Err found) said → (fault : Fault) → start_shown found ≡ Some fault
    → said ≡ Err found
start_fault_said starts.NoMemory said h fault e = let wrong : None ≡ Some fault = e in cc
start_fault_said found said h fault e = h

-- a start is one of names alone
abbrev renamed : List VarDecl → List VarDecl
renamed vs = map declaration_of (map view.var vs)

same_missing : (ms : Members) (vs : List VarDecl) → m.first_missing ms (renamed vs) ≡ m.first_missing ms vs
same_missing ms [] = refl
same_missing ms (v ∷ vs) = ap (λ r. cond (is_some (get_member v.name ms)) r (Some v.name)) (same_missing ms vs)

same_declared : (vs : List VarDecl) (key : List ℕ) → m.is_declared (renamed vs) key ≡ m.is_declared vs key
same_declared [] key = refl
same_declared (v ∷ vs) key = ap (λ b. bytes_eq v.name key || b) (same_declared vs key)

all_same_declared : (vs : List VarDecl) (ms : Members) → m.are_declared (renamed vs) ms ≡ m.are_declared vs ms
all_same_declared vs no_members = refl
all_same_declared vs (member key d ms) =
    ap (λ b. b && m.are_declared (renamed vs) ms) (same_declared vs key) ∙ ap (λ b. m.is_declared vs key && b) (all_same_declared vs ms)

same_words : (ms : Members) (vs : List VarDecl) → m.words_of ms (renamed vs) ≡ m.words_of ms vs
same_words ms [] = refl
same_words ms (v ∷ vs) = ap (m.with_word v.name (m.word_of ms v.name)) (same_words ms vs)

same_in : (vs : List VarDecl) (ms : Members) → m.start_in (renamed vs) ms ≡ m.start_in vs ms
same_in vs ms =
    ap (λ o. m.unless_missing o (cond (m.are_declared (renamed vs) ms) (m.words_of ms (renamed vs)) (Err starts.Unknown))) (same_missing ms vs)
    ∙ ap (λ b. m.unless_missing (m.first_missing ms vs) (cond b (m.words_of ms (renamed vs)) (Err starts.Unknown))) (all_same_declared vs ms)
    ∙ ap (λ r. m.unless_missing (m.first_missing ms vs) (cond (m.are_declared vs ms) r (Err starts.Unknown))) (same_words ms vs)

pub same_start : (vs : List VarDecl) (d : Option Data) → m.start_of (renamed vs) d ≡ m.start_of vs d
same_start vs None = refl
same_start vs (Some d) = by (as_object d)
  where
    by : (o : Option Members) → m.start_at (renamed vs) o ≡ m.start_at vs o
    by None = refl
    by (Some ms) = same_in vs ms

number_fits : (bound : ℕ) (o : Option ℕ) (n : ℕ) → below bound o ≡ Some n → n < bound
number_fits bound None n h = cc
number_fits bound (Some m) n h = go (nat_lt m bound) refl h
  where
    go : (b : Bool) → nat_lt m bound ≡ b → cond b (Some m) None ≡ Some n → n < bound
    go false is h = cc
    go true is h = let same : m ≡ n = cc in subst (λ k. k < bound) same (grind (arith, nat_tests))

word_fits : (o : Option Data) (w : ℕ) → option_and_then (number_below (2 ^ 32)) o ≡ Some w → w < 2 ^ 32
word_fits None w h = cc
word_fits (Some d) w h = number_fits (2 ^ 32) (option_and_then as_u64 (as_number d)) w h

-- a start has a word for each variable
words_are_memory : (ms : Members) (vs : List VarDecl) (words : List ℕ) → m.words_of ms vs ≡ Ok words → IsMemory (length vs) words
words_are_memory ms [] words h = let same : [] ≡ words = cc in subst (IsMemory 0) same (record { complete = refl; words = tt })
words_are_memory ms (v ∷ vs) words h = go (m.word_of ms v.name) refl (m.words_of ms vs) (words_are_memory ms vs) h
  where
    go : (o : Option ℕ) → m.word_of ms v.name ≡ o → (r : Result (List ℕ) StartFault) → ((ws : List ℕ) → r ≡ Ok ws → IsMemory (length vs) ws)
        → m.with_word v.name o r ≡ Ok words → IsMemory (suc (length vs)) words
    go None is r rest h = cc
    go (Some w) is (Err e) rest h = cc
    go (Some w) is (Ok ws) rest h =
        let same : w ∷ ws ≡ words = cc in
        let later = rest ws refl in
        subst (IsMemory (suc (length vs))) same
        (record { complete = ap suc later.complete; words = (word_fits (get_member v.name ms) w is, later.words) })

in_is_memory : (vs : List VarDecl) (ms : Members) (words : List ℕ) → m.start_in vs ms ≡ Ok words → IsMemory (length vs) words
in_is_memory vs ms words h = go (m.first_missing ms vs) (m.are_declared vs ms) h
  where
    go : (o : Option (List ℕ)) (b : Bool) → m.unless_missing o (cond b (m.words_of ms vs) (Err starts.Unknown)) ≡ Ok words → IsMemory (length vs) words
    go (Some name) b h = cc
    go None false h = cc
    go None true h = words_are_memory ms vs words h

pub start_is_memory : (vs : List VarDecl) (d : Option Data) (words : List ℕ) → m.start_of vs d ≡ Ok words → IsMemory (length vs) words
start_is_memory vs None words h = cc
start_is_memory vs (Some d) words h = by (as_object d) h
  where
    by : (o : Option Members) → m.start_at vs o ≡ Ok words → IsMemory (length vs) words
    by None h = cc
    by (Some ms) h = in_is_memory vs ms words h

-- Schedules ----------------------------------------------------------------------------------------------------

pub schedule_fault_said : (found : ScheduleFault) (said : Result (List ℕ) ScheduleFault) → k.GivesSchedule (Err found) said → (fault : Fault)
    → schedule_shown found ≡ Some fault → said ≡ Err found
schedule_fault_said schedules.NoMemory said h fault e = let wrong : None ≡ Some fault = e in cc
schedule_fault_said found said h fault e = h

-- what a list says is a schedule, with as many entries as the list has items
pub record IsScheduleOf (threads : ℕ) (ds : Items) (entries : List ℕ) : Type 0 where
  pub threads_below : IsSchedule threads entries
  pub sized : length entries ≡ items_len ds

entries_fine : (threads i : ℕ) (ds : Items) (entries : List ℕ) → k.entries_from threads i ds ≡ Ok entries → IsScheduleOf threads ds entries
entries_fine threads i no_items entries h =
    let same : [] ≡ entries = cc in subst (IsScheduleOf threads no_items) same (record { threads_below = tt; sized = refl })
entries_fine threads i (item d ds) entries h = go (number_below threads d) refl (k.entries_from threads (suc i) ds) (entries_fine threads (suc i) ds) h
  where
    go : (o : Option ℕ) → number_below threads d ≡ o → (r : Result (List ℕ) ScheduleFault)
        → ((es : List ℕ) → r ≡ Ok es → IsScheduleOf threads ds es) → k.with_entry i o r ≡ Ok entries → IsScheduleOf threads (item d ds) entries
    go None is r rest h = cc
    go (Some e) is (Err fault) rest h = cc
    go (Some e) is (Ok es) rest h =
        let same : e ∷ es ≡ entries = cc in
        let later = rest es refl in
        subst (IsScheduleOf threads (item d ds)) same (record {
          threads_below = (number_fits threads (option_and_then as_u64 (as_number d)) e is, later.threads_below);
          sized = ap suc later.sized;
        })

pub record IsFineSchedule (threads : ℕ) (entries : List ℕ) : Type 0 where
  pub threads_below : IsSchedule threads entries
  pub few : length entries ≤ MOST_ENTRIES

pub schedule_fine : (threads : ℕ) (d : Option Data) (entries : List ℕ) → k.schedule_of threads d ≡ Ok entries → IsFineSchedule threads entries
schedule_fine threads None entries h = cc
schedule_fine threads (Some d) entries h = by (as_array d) h
  where
    go : (ds : Items) (b : Bool) → nat_lt MOST_ENTRIES (items_len ds) ≡ b → cond b (Err schedules.TooMany) (k.entries_from threads 0 ds) ≡ Ok entries
        → IsFineSchedule threads entries
    go ds true is h = cc
    go ds false is h =
        let fine = entries_fine threads 0 ds entries h in
        record { threads_below = fine.threads_below; few = subst (λ n. n ≤ MOST_ENTRIES) (sym fine.sized) (grind (arith, nat_tests)) }

    by : (o : Option Items) → k.schedule_at threads o ≡ Ok entries → IsFineSchedule threads entries
    by None h = cc
    by (Some ds) h = go ds (nat_lt MOST_ENTRIES (items_len ds)) refl h

-- Readings -----------------------------------------------------------------------------------------------------

pub start_reading : (p : Parsed) → IsReading (IsStart p) (IsStartFault p)
start_reading p = given_reading (λ bytes. m.start_of (map declaration_of p.vars) (value_of bytes)) start_shown

pub schedule_reading : (p : Parsed) → IsReading (IsScheduleText p) (IsScheduleFault p)
schedule_reading p = given_reading (λ bytes. k.schedule_of (length p.threads) (value_of bytes)) schedule_shown
