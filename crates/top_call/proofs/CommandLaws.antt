-- Laws of commands: the plan of each is sound, and which words ask for two runs side by side, or for many.
use Rattle.std.specs.Prelude.{◌==◌, codes, if◌then◌else◌}
use Rattle.std.specs.Str.{bytes_eq}
use Rattle.std.proofs.Common.{◌≡◌, ◌⊎◌, ℕ, List, [], ◌∷◌, Bool, true, false, Option, Some, None, get_or, length, map, ◌<◌, refl, sym, subst, ap, ◌∙◌, inl, inr, nat_le, arith}
use Rattle.std.proofs.lemmas.Bool.{and_parts, eqb-true}
use Rattle.std.proofs.lemmas.List.{get_or-map}
use Rattle.std.proofs.lemmas.Slice.Eq.{bytes_eq-Decides}
use Rattle.cov_expr.specs.declared.limits.TheConstants.{MOST_EXPRESSION_BYTES, MOST_ROUNDS, MOST_TRIALS}
use Rattle.thread_swap.specs.Judges.{Judging}
use Rattle.top_call.specs.Commands.{Command, command_of, is_swap, plan_of, depth_of, number_of, of_depth, of_four, of_rounds, of_trials, unjudged, check, compile, fmt, migrate, object, unobject, refute, run, run_code, run_until, pair, pair_code, big, levels, annotate, swap, nothing}
use Rattle.call_code.proofs.BigLaws.{sum_sound}
use Rattle.call_code.proofs.CodeLaws.{compile_sound}
use Rattle.call_code.proofs.ObjectLaws.{code_reading, object_sound, unobject_sound}
use Rattle.replay_inputs.proofs.ExpressionLaws.{expression_reading}
use Rattle.replay_inputs.proofs.InputLaws.{schedule_reading, start_reading}
use Rattle.call_inputs.proofs.PlanLaws.{AsksNothing, IsResult, IsSound, one_sound}
use Rattle.call_inputs.proofs.TextLaws.{program_reading}
use Rattle.call_judge.specs.Check.{verdict}
use Rattle.call_reports.specs.Replies.{spelled}
use Rattle.call_reports.specs.declared.answers.Status.{Status}
use Rattle.call_reports.specs.declared.answers.Status.TheVariants as s
use Rattle.call_run.proofs.PairLaws.{pair_sound}
use Rattle.call_run.proofs.RefuteLaws.{refute_sound}
use Rattle.call_run.proofs.RunLaws.{run_sound, until_sound}
use Rattle.call_code.proofs.CodeRunLaws.{pair_code_sound, run_code_sound}
use Rattle.call_verdicts.proofs.AnnotationsLaws.{annotations_sound}
use Rattle.call_verdicts.proofs.LevelsLaws.{levels_reading_is_one, levels_sound}
use Rattle.call_verdicts.proofs.SwapLaws.{swap_sound}
use Rattle.cov_print.specs.ReadBack.{in_second}
use Rattle.cov_print.specs.Spelling.{spelling}

-- The commands -------------------------------------------------------------------------------------------------

-- whether what is asked for may find two runs apart
abbrev pub may_differ : Command → Bool
may_differ (check name) = false
may_differ (compile name) = false
may_differ (fmt name) = false
may_differ (migrate name) = false
may_differ (object name) = false
may_differ (unobject name) = false
may_differ (refute name trials) = true
may_differ (run name start schedule) = false
may_differ (run_code name start schedule) = false
may_differ (run_until name start schedule word) = false
may_differ (pair name first second schedule) = true
may_differ (pair_code name first second schedule) = false
may_differ (big rounds schedule) = false
may_differ (levels name over) = false
may_differ (annotate name depth) = false
may_differ (swap name replacing) = false
may_differ nothing = false

-- the statuses of success: of what may find two runs apart, and else
abbrev pub IsSuccessIf : Bool → Status → Type 0
IsSuccessIf true status = (status ≡ s.Done) ⊎ (status ≡ s.Differ)
IsSuccessIf false status = status ≡ s.Done

pub results : (b : Bool) (status : Status) → IsSuccessIf b status → IsResult status
results true status (inl e) = subst IsResult (sym e) tt
results true status (inr e) = subst IsResult (sym e) tt
results false status e = subst IsResult (sym e) tt

-- the plan of each command is sound
pub sound : (j : Judging) (command : Command) → IsSound (IsSuccessIf (may_differ command)) (plan_of j command)
sound j (check name) = ((program_reading, λ p. tt), λ p. one_sound (verdict p) refl)
sound j (compile name) = ((program_reading, λ p. tt), compile_sound)
sound j (fmt name) = ((program_reading, λ p. tt), λ p. one_sound (spelled (spelling p)) refl)
sound j (migrate name) = ((program_reading, λ p. tt), λ p. one_sound (spelled (spelling (in_second p))) refl)
sound j (object name) = ((program_reading, λ p. tt), object_sound)
sound j (unobject name) = ((code_reading, λ c. tt), unobject_sound)
sound j (refute name trials) = ((program_reading, λ p. tt), refute_sound trials)
sound j (run name start schedule) = ((program_reading, λ p. (start_reading p, λ m. (schedule_reading p, λ k. tt))), run_sound)
sound j (run_code name start schedule) = ((program_reading, λ p. (start_reading p, λ m. (schedule_reading p, λ k. tt))), run_code_sound)
sound j (run_until name start schedule word) =
    ((program_reading, λ p. (start_reading p, λ m. (schedule_reading p, λ k. (expression_reading p, λ e. tt)))), until_sound)
sound j (pair name first second schedule) =
    ((program_reading, λ p. (start_reading p, λ l. (start_reading p, λ r. (schedule_reading p, λ k. tt)))), pair_sound)
sound j (pair_code name first second schedule) =
    ((program_reading, λ p. (start_reading p, λ l. (start_reading p, λ r. (schedule_reading p, λ k. tt)))), pair_code_sound)
sound j (big rounds schedule) = ((program_reading, λ p. (schedule_reading p, λ k. tt)), sum_sound rounds)
sound j (levels name over) = ((program_reading, λ p. (levels_reading_is_one p, λ l. tt)), levels_sound)
sound j (annotate name depth) = ((program_reading, λ p. tt), annotations_sound depth)
sound j (swap name replacing) = ((program_reading, λ p. (program_reading, λ e. tt)), swap_sound j)
sound j nothing = (tt, λ x. record { one = λ reply other h k. absurd h; success = λ reply h. absurd h })

-- Words ----------------------------------------------------------------------------------------------------------

one : (name : List ℕ) (a b c d e f : Bool)
    → may_differ (if a then check name else (if b then compile name else (if c then fmt name else (if d then migrate name
    else (if e then object name else (if f then unobject name else nothing)))))) ≡ true → ⊥
one name true b c d e f h = cc
one name false true c d e f h = cc
one name false false true d e f h = cc
one name false false false true e f h = cc
one name false false false false true f h = cc
one name false false false false false true h = cc
one name false false false false false false h = cc

two : (first second : List ℕ) (a b c d : Bool) (rounds trials depth : Option ℕ)
    → may_differ (if a then of_rounds rounds second else (if b then of_trials first trials
    else (if c then levels first second else (if d then of_depth first depth else nothing)))) ≡ true
    → (b ≡ true) × (n : ℕ) × (trials ≡ Some n)
two first second true b c d (Some rounds) trials depth h = cc
two first second true b c d None trials depth h = cc
two first second false true c d rounds (Some n) depth h = (refl, n, refl)
two first second false true c d rounds None depth h = cc
two first second false false true d rounds trials depth h = cc
two first second false false false true rounds trials (Some depth) h = cc
two first second false false false true rounds trials None h = cc
two first second false false false false rounds trials depth h = cc

three : (program start schedule : List ℕ) (a b : Bool)
    → may_differ (if a then run program start schedule else (if b then run_code program start schedule else nothing)) ≡ true → ⊥
three program start schedule true b h = cc
three program start schedule false true h = cc
three program start schedule false false h = cc

four : (program start next last : List ℕ) (a l b c : Bool)
    → may_differ (if a then (if l then run_until program start next last else nothing)
    else (if b then pair program start next last else (if c then pair_code program start next last else nothing))) ≡ true → b ≡ true
four program start next last true true b c h = cc
four program start next last true false b c h = cc
four program start next last false l true c h = refl
four program start next last false l false true h = cc
four program start next last false l false false h = cc

-- The words are those of `pair`.
abbrev pub ArePairWords : List (List ℕ) → Type 0
ArePairWords words = (name first second schedule : List ℕ) × (words ≡ codes "pair" ∷ name ∷ first ∷ second ∷ schedule ∷ [])

-- The words are those of `refute`, with a number of trials.
abbrev pub AreTrialWords : List (List ℕ) → Type 0
AreTrialWords words = (name number : List ℕ) × (trials : ℕ) × (number_of MOST_TRIALS number ≡ Some trials) × (words ≡ codes "refute" ∷ name ∷ number ∷ [])

unjudged_differing : (words : List (List ℕ)) → may_differ (unjudged words) ≡ true → ArePairWords words ⊎ AreTrialWords words
unjudged_differing [] h = cc
unjudged_differing (word ∷ []) h = cc
unjudged_differing (word ∷ name ∷ []) h =
    absurd (one name (bytes_eq word (codes "check")) (bytes_eq word (codes "compile")) (bytes_eq word (codes "fmt")) (bytes_eq word (codes "migrate"))
    (bytes_eq word (codes "object")) (bytes_eq word (codes "unobject")) h)
unjudged_differing (word ∷ first ∷ second ∷ []) h =
    let (is_refute, trials, some) =
    two first second (bytes_eq word (codes "big")) (bytes_eq word (codes "refute")) (bytes_eq word (codes "levels")) (bytes_eq word (codes "annotate"))
    (number_of MOST_ROUNDS first) (number_of MOST_TRIALS second) (depth_of second) h in
    inr (first, second, trials, some, ap (λ w. w ∷ first ∷ second ∷ []) ((bytes_eq-Decides word (codes "refute")).0 is_refute))
unjudged_differing (word ∷ program ∷ start ∷ schedule ∷ []) h =
    absurd (three program start schedule (bytes_eq word (codes "run")) (bytes_eq word (codes "run-code")) h)
unjudged_differing (word ∷ program ∷ start ∷ next ∷ last ∷ []) h =
    let is_pair = four program start next last (bytes_eq word (codes "run-until")) (nat_le (length last) MOST_EXPRESSION_BYTES) (bytes_eq word (codes "pair"))
    (bytes_eq word (codes "pair-code")) h in
    inl (program, start, next, last, ap (λ w. w ∷ program ∷ start ∷ next ∷ last ∷ []) ((bytes_eq-Decides word (codes "pair")).0 is_pair))
unjudged_differing (word ∷ program ∷ start ∷ next ∷ last ∷ more ∷ rest) h = cc

-- words that ask for runs of a program that may be found apart are those of `pair` and of `refute`
pub differing_words : (words : List (List ℕ)) → may_differ (command_of words) ≡ true → ArePairWords words ⊎ AreTrialWords words
differing_words words h = by (is_swap words) h
  where
    by : (b : Bool) → may_differ (if b then swap (get_or words 1 []) (get_or words 2 []) else unjudged words) ≡ true → ArePairWords words ⊎ AreTrialWords words
    by true k = cc
    by false k = unjudged_differing words k

-- words of no form, fewer or more than any has
pub few_words : (words : List (List ℕ)) → length words < 2 → unjudged words ≡ nothing
few_words [] h = refl
few_words (word ∷ []) h = refl
few_words (word ∷ name ∷ rest) h = absurd (omega (arith, h))

pub many_words : (words : List (List ℕ)) → 5 < length words → unjudged words ≡ nothing
many_words [] h = refl
many_words (a ∷ []) h = refl
many_words (a ∷ b ∷ []) h = absurd (omega (arith, h))
many_words (a ∷ b ∷ c ∷ []) h = absurd (omega (arith, h))
many_words (a ∷ b ∷ c ∷ d ∷ []) h = absurd (omega (arith, h))
many_words (a ∷ b ∷ c ∷ d ∷ e ∷ []) h = absurd (omega (arith, h))
many_words (a ∷ b ∷ c ∷ d ∷ e ∷ f ∷ rest) h = refl

-- the words of four files
pub five_words : (words : List (List ℕ)) → length words ≡ 5
    → unjudged words ≡ of_four (get_or words 0 []) (get_or words 1 []) (get_or words 2 []) (get_or words 3 []) (get_or words 4 [])
five_words [] h = absurd (omega (arith, h))
five_words (a ∷ []) h = absurd (omega (arith, h))
five_words (a ∷ b ∷ []) h = absurd (omega (arith, h))
five_words (a ∷ b ∷ c ∷ []) h = absurd (omega (arith, h))
five_words (a ∷ b ∷ c ∷ d ∷ []) h = absurd (omega (arith, h))
five_words (a ∷ b ∷ c ∷ d ∷ e ∷ []) h = refl
five_words (a ∷ b ∷ c ∷ d ∷ e ∷ f ∷ rest) h = absurd (omega (arith, h))

-- What asks no judge -----------------------------------------------------------------------------------------------

module _ (j : Judging) where
  one_unasked : (name : List ℕ) (a b c d e f : Bool)
      → AsksNothing (plan_of j (if a then check name else (if b then compile name else (if c then fmt name else (if d then migrate name
      else (if e then object name else (if f then unobject name else nothing)))))))
  one_unasked name true b c d e f = λ x. refl
  one_unasked name false true c d e f = λ x. refl
  one_unasked name false false true d e f = λ x. refl
  one_unasked name false false false true e f = λ x. refl
  one_unasked name false false false false true f = λ x. refl
  one_unasked name false false false false false true = λ x. refl
  one_unasked name false false false false false false = λ x. refl

  two_unasked : (first second : List ℕ) (a b c d : Bool) (rounds trials depth : Option ℕ)
      → AsksNothing (plan_of j (if a then of_rounds rounds second else (if b then of_trials first trials
      else (if c then levels first second else (if d then of_depth first depth else nothing)))))
  two_unasked first second true b c d (Some rounds) trials depth = λ x. refl
  two_unasked first second true b c d None trials depth = λ x. refl
  two_unasked first second false true c d rounds (Some n) depth = λ x. refl
  two_unasked first second false true c d rounds None depth = λ x. refl
  two_unasked first second false false true d rounds trials depth = λ x. refl
  two_unasked first second false false false true rounds trials (Some depth) = λ x. refl
  two_unasked first second false false false true rounds trials None = λ x. refl
  two_unasked first second false false false false rounds trials depth = λ x. refl

  three_unasked : (program start schedule : List ℕ) (a b : Bool)
      → AsksNothing (plan_of j (if a then run program start schedule else (if b then run_code program start schedule else nothing)))
  three_unasked program start schedule true b = λ x. refl
  three_unasked program start schedule false true = λ x. refl
  three_unasked program start schedule false false = λ x. refl

  four_unasked : (program start next last : List ℕ) (a l b c : Bool)
      → AsksNothing (plan_of j (if a then (if l then run_until program start next last else nothing)
      else (if b then pair program start next last else (if c then pair_code program start next last else nothing))))
  four_unasked program start next last true true b c = λ x. refl
  four_unasked program start next last true false b c = λ x. refl
  four_unasked program start next last false l true c = λ x. refl
  four_unasked program start next last false l false true = λ x. refl
  four_unasked program start next last false l false false = λ x. refl

  -- Only `swap` asks a judge.
  pub none_asked : (words : List (List ℕ)) → AsksNothing (plan_of j (unjudged words))
  none_asked [] = λ x. refl
  none_asked (word ∷ []) = λ x. refl
  none_asked (word ∷ name ∷ []) =
      one_unasked name (bytes_eq word (codes "check")) (bytes_eq word (codes "compile")) (bytes_eq word (codes "fmt")) (bytes_eq word (codes "migrate"))
      (bytes_eq word (codes "object")) (bytes_eq word (codes "unobject"))
  none_asked (word ∷ first ∷ second ∷ []) =
      two_unasked first second (bytes_eq word (codes "big")) (bytes_eq word (codes "refute")) (bytes_eq word (codes "levels")) (bytes_eq word (codes "annotate"))
      (number_of MOST_ROUNDS first) (number_of MOST_TRIALS second) (depth_of second)
  none_asked (word ∷ program ∷ start ∷ schedule ∷ []) =
      three_unasked program start schedule (bytes_eq word (codes "run")) (bytes_eq word (codes "run-code"))
  none_asked (word ∷ program ∷ start ∷ next ∷ last ∷ []) =
      four_unasked program start next last (bytes_eq word (codes "run-until")) (nat_le (length last) MOST_EXPRESSION_BYTES) (bytes_eq word (codes "pair"))
      (bytes_eq word (codes "pair-code"))
  none_asked (word ∷ program ∷ start ∷ next ∷ last ∷ more ∷ rest) = λ x. refl

-- Which one the words are ------------------------------------------------------------------------------------------

-- a word of a line, as definitions see it
pub word_at : {X : Type 0} (seen : X → List ℕ) (words : List X) (i : ℕ) (word : X) → i < length words → word ≡ get_or words i word
    → get_or (map seen words) i [] ≡ seen word
word_at seen words i word inside is = get_or-map seen words i word [] inside ∙ ap seen (sym is)

pub three_words : (words : List (List ℕ)) → is_swap words ≡ true → length words ≡ 3
three_words words h = eqb-true (length words) 3 (and_parts (length words == 3) (bytes_eq (get_or words 0 []) (codes "swap")) h).0

pub is_swapped : (words : List (List ℕ)) → is_swap words ≡ true → command_of words ≡ swap (get_or words 1 []) (get_or words 2 [])
is_swapped words h = ap (λ b. if b then swap (get_or words 1 []) (get_or words 2 []) else unjudged words) h

pub is_unjudged : (words : List (List ℕ)) → is_swap words ≡ false → command_of words ≡ unjudged words
is_unjudged words h = ap (λ b. if b then swap (get_or words 1 []) (get_or words 2 []) else unjudged words) h
