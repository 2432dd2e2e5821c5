-- A loop over the threads of a program, of which each is judged unless an answer is kept.
use Rattle.std.proofs.Common.{◌≡◌, ℕ, ◌+◌, ◌<◌, ◌≤◌, List, [], ◌∷◌, ◌++◌, length, map, get_or, take, sum_by, sym, ◌∙◌, ap, subst, arith, zero-add, Result, Ok, Err, IsTrue}
use Rattle.std.specs.Prelude.{IsErrAnd}
use Rattle.std.proofs.lemmas.List.{length-map, take_all, map_more}
use Rattle.std.proofs.lemmas.List.FromFn.{length-range_with_len, get_or-range_with_len, get_or-map-range_with_len, length-map-range_with_len}
use Rattle.std.proofs.lemmas.List.Sums.{sum_by_more, sum_by-take-le}
use Rattle.cov_ast.specs.Obligations.{all_hold}
use Rattle.cov_ast.specs.View as view
use Rattle.cov_ast.specs.WellFormed.{IsWellFormed}
use Rattle.cov_ast.specs.declared.decl.Program.{Program}
use Rattle.mode_compat.specs.Compatible.{threads_of}
use Rattle.mode_compat.specs.Declared.{declaration_obligations}
use Rattle.thread_swap.specs.Judges.{IsLawful, IsSound, Judging, Said, most_said, risen, says_of}
use Rattle.thread_swap.specs.Inside.Sums.{AreSmall}
use Rattle.thread_swap.specs.Swaps.{Asks, all_said, entailments_said, statements_said}
use Rattle.thread_swap.proofs.SwapLaws.{risen_more}

module _ (p : Program) where
  abbrev seen : List ℕ
  seen = threads_of (view.program p)

  pub thread_count : length (threads_of (view.program p)) ≡ length p.threads
  thread_count = length-range_with_len 0 (length (map view.thread p.threads)) ∙ length-map p.threads view.thread

  pub thread_is : (t : ℕ) → t < length p.threads → get_or (threads_of (view.program p)) t t ≡ t
  thread_is t inside =
      get_or-range_with_len 0 (length (map view.thread p.threads)) t t (omega (arith, inside, length-map p.threads view.thread)) ∙ zero-add t

  module _ {X : Type 0} (f : ℕ → X) where
    -- one more item
    pub made_more : (t : ℕ) (made new : List X) (x : X) → t < length p.threads → new ≡ made ++ x ∷ [] → made ≡ map f (take t (threads_of (view.program p))) → x ≡ f t
        → new ≡ map f (take (t + 1) (threads_of (view.program p)))
    made_more t made new x inside pushed e is =
        pushed ∙ (λ i. e i ++ (is ∙ ap f (sym (thread_is t inside))) i ∷ [])
        ∙ sym (map_more f (threads_of (view.program p)) t t (omega (arith, inside, thread_count)))

    pub made_all : (t : ℕ) (made : List X) → length p.threads ≤ t → made ≡ map f (take t (threads_of (view.program p))) → made ≡ map f (threads_of (view.program p))
    made_all t made past e = e ∙ ap (map f) (take_all t (threads_of (view.program p)) (omega (arith, past, thread_count)))

  module _ (f : ℕ → ℕ) (start : ℕ) where
    -- of one more thread
    pub asked_more : (t count new : ℕ) → t < length p.threads → count ≡ risen start (sum_by f (take t (threads_of (view.program p)))) → new ≡ risen count (f t)
        → new ≡ risen start (sum_by f (take (t + 1) (threads_of (view.program p))))
    asked_more t count new inside before more =
        more ∙ ap (λ c. risen c (f t)) before ∙ risen_more start (sum_by f (take t (threads_of (view.program p)))) (f t)
        ∙ ap (risen start)
        (ap (λ n. sum_by f (take t (threads_of (view.program p))) + f n) (sym (thread_is t inside))
        ∙ sym (sum_by_more f (threads_of (view.program p)) t t (omega (arith, inside, thread_count))))

    pub asked_all : (t count : ℕ) → length p.threads ≤ t → count ≡ risen start (sum_by f (take t (threads_of (view.program p))))
        → count ≡ risen start (sum_by f (threads_of (view.program p)))
    asked_all t count past e = e ∙ ap (λ ts. risen start (sum_by f ts)) (take_all t (threads_of (view.program p)) (omega (arith, past, thread_count)))

    -- of some threads
    pub asked_some : (t count : ℕ) → count ≡ risen start (sum_by f (take t (threads_of (view.program p))))
        → (n : ℕ) × (n ≤ sum_by f (threads_of (view.program p))) × (count ≡ risen start n)
    asked_some t count e = (sum_by f (take t (threads_of (view.program p))), sum_by-take-le f (threads_of (view.program p)) t, e)

  -- What is said is small -------------------------------------------------------------------------------------------------

  small_from : (t : ℕ) (said : Said) → IsLawful t said → (statements_said said < most_said) × (entailments_said said < most_said)
  small_from t (Ok count) h = h
  small_from t (Err refusal) h = (omega arith, omega arith)

  pub all_small : (j : Judging) → IsSound j → IsWellFormed (view.program p) → IsTrue (all_hold (declaration_obligations (view.program p)))
      → (all : List Said) → all ≡ all_said j (view.program p) → AreSmall all
  all_small j sound fine declared all e k d inside =
      let count : length (map view.thread p.threads) ≡ length p.threads = length-map p.threads view.thread in
      let same : get_or all k d ≡ says_of j (view.program p) k =
      ap (λ xs. get_or xs k d) e
      ∙ get_or-map-range_with_len (says_of j (view.program p)) 0 (length (map view.thread p.threads)) k k d
      (omega (arith, inside, ap length e, length-map-range_with_len (says_of j (view.program p)) 0 (length (map view.thread p.threads)))) (zero-add k) in
      subst (λ said. (statements_said said < most_said) × (entailments_said said < most_said)) (sym same)
      (small_from k (says_of j (view.program p) k)
      (sound.lawful (view.program p) fine declared k
      (omega (arith, inside, ap length e, length-map-range_with_len (says_of j (view.program p)) 0 (length (map view.thread p.threads))))))

  pub few_said : (all : List Said) (j : Judging) → all ≡ all_said j (view.program p) → length all ≡ length p.threads
  few_said all j e =
      ap length e ∙ length-map-range_with_len (says_of j (view.program p)) 0 (length (map view.thread p.threads)) ∙ length-map p.threads view.thread

-- a call that handed on that memory ran out
pub asks_failed : {X E : Type 0} (r : Result X E) (fault : E) → IsErrAnd r (λ f. f ≡ fault) → (before after due : ℕ)
    → ((n : ℕ) × (n ≤ due) × (after ≡ risen before n)) → Asks before after due r
asks_failed (Ok x) fault e before after due h = absurd e
asks_failed (Err f) fault e before after due h = h
