-- What trials are made of are memories and schedules; how a count of fit trials goes on; and that a secure program has no first trial.
use Rattle.std.proofs.Common.{◌≡◌, ℕ, zero, suc, ◌+◌, ◌*◌, ◌%◌, ◌<◌, ◌==◌, List, [], ◌∷◌, ◌++◌, length, map, take, get_or, Bool, true, false, cond, IsTrue, ◌↔◌, Option, Some, None, refl, sym, ap, ap₂, ◌∙◌, subst, arith, below_more, if◌then◌else◌}
use Rattle.std.specs.Prelude.{is_none, IsNone, count_by}
use Rattle.std.specs.List.{range_with_len}
use Rattle.std.proofs.lemmas.Bool.{ne_eqb}
use Rattle.std.proofs.lemmas.List.{length-map, map-id}
use Rattle.std.proofs.lemmas.List.FromFn.{length-map-range_with_len, map-range_with_len_more, sum_by-map-range_with_len_more}
use Rattle.cov_expr.specs.Words.{AreWords, IsMemory, IsSchedule, IsWord}
use Rattle.cov_expr.proofs.Values.{word_at}
use Rattle.cov_ast.specs.Plain.{Plain, class_term, plain, plain_thread}
use Rattle.cov_ast.specs.View as view
use Rattle.cov_ast.specs.declared.decl.Program.{Program}
use Rattle.cov_ast.specs.declared.decl.VarDecl.{VarDecl}
use Rattle.flow_model.specs.FirstDifference.{first_bad_start, is_low_in, is_true_in}
use Rattle.flow_model.specs.Secure.{IsSecure}
use Rattle.flow_model.proofs.Apart.{class_seen}
use Rattle.flow_model.proofs.Decided.{none_is_fit}
use Rattle.schedule_replay.specs.declared.replays.Found.{Found}
use Rattle.watch.specs.TrialWords.{drawn, raw_word}
use Rattle.refute.specs.declared.trials.Outcome.TheVariants.{Unfit, Agrees, Apart}
use Rattle.refute.specs.Inside.{Shows}
use Rattle.refute.specs.Trials.{AgreeBefore, AgreesIfFit, IsApart, IsFirstApart, IsFirstTrial, IsFit, entry, first_memory, fit_among, is_fit, schedule, second_memory, second_word, trial_steps}

-- Lists of words and of turns ----------------------------------------------------------------------------------

made_words : (f : ℕ → ℕ) (a n : ℕ) → ((x : ℕ) → IsWord (f x)) → AreWords (map f (range_with_len a n))
made_words f a zero h = tt
made_words f a (suc n) h = (h a, made_words f (a + 1) n h)

made_turns : (f : ℕ → ℕ) (count a n : ℕ) → ((j : ℕ) → f j < count) → IsSchedule count (map f (range_with_len a n))
made_turns f count a zero h = tt
made_turns f count a (suc n) h = (h a, made_turns f count (a + 1) n h)

-- and of the first of them
first_turns : (f : ℕ → ℕ) (count a n k : ℕ) → ((j : ℕ) → f j < count) → IsSchedule count (take k (map f (range_with_len a n)))
first_turns f count a n zero h = tt
first_turns f count a zero (suc k) h = tt
first_turns f count a (suc n) (suc k) h = (h a, first_turns f count (a + 1) n k h)

-- a list that is made of a function, one item after another
pub list_more : (f : ℕ → ℕ) (n w : ℕ) (old new : List ℕ) → old ≡ map f (range_with_len 0 n) → w ≡ f n → new ≡ old ++ w ∷ [] → new ≡ map f (range_with_len 0 (n + 1))
list_more f n w old new kept made pushed = pushed ∙ (λ k. kept k ++ made k ∷ []) ∙ sym (map-range_with_len_more f 0 n n (omega arith))

pub list_whole : (f : ℕ → ℕ) (n count : ℕ) (made : List ℕ) → made ≡ map f (range_with_len 0 n) → n ≡ count → made ≡ map f (range_with_len 0 count)
list_whole f n count made kept e = kept ∙ ap (λ k. map f (range_with_len 0 k)) e

-- Memories -----------------------------------------------------------------------------------------------------

either_rest : (b : Bool) (m n : ℕ) → IsWord (if b then m % 4 else n % 4)
either_rest true m n = omega arith
either_rest false m n = omega arith

raw_is_word : (i side x : ℕ) → IsWord (raw_word i side x)
raw_is_word i side x = either_rest (side == 1) (drawn (512 * i + x)) (drawn (512 * i + 256 + x))

either_word : (b : Bool) (m n : ℕ) → IsWord m → IsWord n → IsWord (if b then m else n)
either_word true m n h k = h
either_word false m n h k = k

module _ (p : Plain) (i : ℕ) where
  pub first_is_memory : IsMemory (length p.vars) (first_memory p i)
  first_is_memory = record {
    complete = length-map-range_with_len (raw_word i 1) 0 (length p.vars);
    words = made_words (raw_word i 1) 0 (length p.vars) (raw_is_word i 1);
  }

  second_is_word : (x : ℕ) → IsWord (second_word p i x)
  second_is_word x =
      either_word (is_low_in p (first_memory p i) x) (get_or (first_memory p i) x 0) (raw_word i 2 x)
      (word_at (first_memory p i) x first_is_memory.words) (raw_is_word i 2 x)

  pub second_is_memory : IsMemory (length p.vars) (second_memory p i)
  second_is_memory = record {
    complete = length-map-range_with_len (second_word p i) 0 (length p.vars);
    words = made_words (second_word p i) 0 (length p.vars) second_is_word;
  }

-- Schedules ----------------------------------------------------------------------------------------------------

some_threads : (n : ℕ) → (n == 0) ≡ false → 0 < n
some_threads zero h = absurd cc
some_threads (suc n) h = omega arith

module _ (p : Plain) (i : ℕ) where
  entry_below : 0 < length p.threads → (j : ℕ) → entry p i j < length p.threads
  entry_below some j = omega arith

  turns_if : (b : Bool) → (length p.threads == 0) ≡ b → IsSchedule (length p.threads) (if b then [] else map (entry p i) (range_with_len 0 trial_steps))
  turns_if true e = tt
  turns_if false e = made_turns (entry p i) (length p.threads) 0 trial_steps (entry_below (some_threads (length p.threads) e))

  pub schedule_turns : IsSchedule (length p.threads) (schedule p i)
  schedule_turns = turns_if (length p.threads == 0) refl

  first_turns_if : (b : Bool) (k : ℕ) → (length p.threads == 0) ≡ b → IsSchedule (length p.threads) (take k (if b then [] else map (entry p i) (range_with_len 0 trial_steps)))
  first_turns_if true zero e = tt
  first_turns_if true (suc k) e = tt
  first_turns_if false k e = first_turns (entry p i) (length p.threads) 0 trial_steps k (entry_below (some_threads (length p.threads) e))

  pub schedule_first_turns : (k : ℕ) → IsSchedule (length p.threads) (take k (schedule p i))
  schedule_first_turns k = first_turns_if (length p.threads == 0) k refl

-- Of a program of the code --------------------------------------------------------------------------------------

module _ (p : Program) (i : ℕ) where
  pub first_of_program : IsMemory (length p.vars) (first_memory (plain (view.program p)) i)
  first_of_program = subst (λ n. IsMemory n (first_memory (plain (view.program p)) i)) (length-map p.vars view.var) (first_is_memory (plain (view.program p)) i)

  pub second_of_program : IsMemory (length p.vars) (second_memory (plain (view.program p)) i)
  second_of_program = subst (λ n. IsMemory n (second_memory (plain (view.program p)) i)) (length-map p.vars view.var) (second_is_memory (plain (view.program p)) i)

  pub as_long : (left : List ℕ) → left ≡ first_memory (plain (view.program p)) i → length left ≡ length p.vars
  as_long left e = ap length e ∙ first_of_program.complete

  -- the word that is made for a variable of the second memory
  pub second_made : (x word : ℕ) (v : VarDecl) (left : List ℕ) → x < length p.vars → v ≡ get_or p.vars x v → left ≡ first_memory (plain (view.program p)) i
      → word ≡ (if is_true_in (class_term (view.class v.class)) left then get_or left x 0 else raw_word i 2 x) → word ≡ second_word (plain (view.program p)) i x
  second_made x word v left inside is e made =
      made ∙ ap₂ (λ c m. if is_true_in c m then get_or m x 0 else raw_word i 2 x) (class_seen p x v inside is) e

  as_many_threads : length (plain (view.program p)).threads ≡ length p.threads
  as_many_threads = length-map (map view.thread p.threads) plain_thread ∙ length-map p.threads view.thread

  pub turn_made : (j draw count : ℕ) → draw ≡ drawn (1000000 + 256 * i + j) → count ≡ length p.threads → draw % count ≡ entry (plain (view.program p)) i j
  turn_made j draw count e k = ap₂ (λ d n. d % n) e (k ∙ sym as_many_threads)

  all_turns : 200 ≡ trial_steps
  unfolding trial_steps
  all_turns = refl

  pub schedule_made : (n count : ℕ) (made : List ℕ) → count ≡ length p.threads → (count ≡ 0 → ⊥) → made ≡ map (entry (plain (view.program p)) i) (range_with_len 0 n) → n ≡ 200
      → made ≡ schedule (plain (view.program p)) i
  schedule_made n count made k some kept e =
      list_whole (entry (plain (view.program p)) i) n trial_steps made kept (e ∙ all_turns)
      ∙ sym (ap (λ b. if b then [] else map (entry (plain (view.program p)) i) (range_with_len 0 trial_steps))
      (ap (λ c. c == 0) (as_many_threads ∙ sym k) ∙ ne_eqb count 0 some))

  pub turns_of_program : IsSchedule (length p.threads) (schedule (plain (view.program p)) i)
  turns_of_program = subst (λ n. IsSchedule n (schedule (plain (view.program p)) i)) as_many_threads (schedule_turns (plain (view.program p)) i)

-- Fit trials ---------------------------------------------------------------------------------------------------

none_tested : {X : Type 0} (o : Option X) → IsTrue (is_none o) ↔ IsNone o
none_tested None = (λ _. refl, λ _. refl)
none_tested (Some x) = (λ h. absurd cc, λ h. absurd cc)

pub fit_tested : (p : Plain) (i : ℕ) → IsTrue (is_fit p i) ↔ IsFit p i
fit_tested p i =
    let tested = none_tested (first_bad_start p (first_memory p i) (second_memory p i)) in
    let fits = none_is_fit p (first_memory p i) (second_memory p i) _ refl in
    (λ h. fits.0 (tested.0 h), λ h. tested.1 (fits.1 h))

count_more : (test : ℕ → Bool) (n : ℕ) → count_by test (range_with_len 1 (n + 1)) ≡ count_by test (range_with_len 1 n) + cond (test (n + 1)) 1 0
count_more test n =
    sym (ap (count_by test) (map-id (range_with_len 1 (n + 1))))
    ∙ sum_by-map-range_with_len_more (λ x. cond (test x) 1 0) (λ k. k) 1 n (n + 1) (omega arith)
    ∙ ap (λ ks. count_by test ks + cond (test (n + 1)) 1 0) (map-id (range_with_len 1 n))

pub counts_fit : (p : Plain) (n : ℕ) → is_fit p (n + 1) ≡ true → fit_among p n + 1 ≡ fit_among p (n + 1)
counts_fit p n fit = sym (count_more (is_fit p) n ∙ ap (λ b. fit_among p n + cond b 1 0) fit)

pub counts_unfit : (p : Plain) (n : ℕ) → is_fit p (n + 1) ≡ false → fit_among p n ≡ fit_among p (n + 1)
counts_unfit p n unfit = let e = count_more (is_fit p) n ∙ ap (λ b. fit_among p n + cond b 1 0) unfit in omega (arith, e)

-- One more trial -----------------------------------------------------------------------------------------------

module _ (p : Plain) (n : ℕ) (before : AgreeBefore p (n + 1)) where
  pub past_unfit : Shows p (n + 1) Unfit → AgreeBefore p (n + 1 + 1)
  past_unfit shown =
      below_more (λ i. 0 < i → AgreesIfFit p i) (n + 1) before
      (λ some fit. let wrong : true ≡ false = sym ((fit_tested p (n + 1)).1 fit) ∙ shown in absurd cc)

  pub past_agreeing : Shows p (n + 1) Agrees → AgreeBefore p (n + 1 + 1)
  past_agreeing shown = below_more (λ i. 0 < i → AgreesIfFit p i) (n + 1) before (λ some fit. shown.1)

  pub is_first : (most : ℕ) (found : Found) → n < most → Shows p (n + 1) (Apart found) → IsFirstApart p most (n + 1) found
  is_first most found inside shown = record {
    some = omega arith;
    within = omega arith;
    before = before;
    apart = ((fit_tested p (n + 1)).0 shown.0, shown.1);
  }

-- Trials of a secure program -----------------------------------------------------------------------------------

secure_not_apart : (p : Plain) → IsSecure p → (i : ℕ) (found : Found) → IsApart p i found → ⊥
secure_not_apart p secure i found h =
    h.1.apart
    (secure (first_memory p i) (second_memory p i) (first_is_memory p i) (second_is_memory p i) h.0 (take found.step (schedule p i)) (schedule_first_turns p i found.step))

pub secure_not_found : (p : Plain) → IsSecure p → (n : ℕ) (found : Option (ℕ × Found)) → IsFirstTrial p n found → found ≡ None
secure_not_found p secure n None h = refl
secure_not_found p secure n (Some r) h = absurd (secure_not_apart p secure r.0 r.1 h.apart)
