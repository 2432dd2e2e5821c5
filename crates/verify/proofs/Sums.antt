-- Sums over the threads of a program, one thread after another.
use Rattle.std.proofs.Common.{◌≡◌, ℕ, ◌+◌, ◌<◌, ◌≤◌, length, map, take, get_or, sum_by, sym, ◌∙◌, ap, arith, zero-add}
use Rattle.std.proofs.lemmas.List.{length-map, take_all}
use Rattle.std.proofs.lemmas.List.FromFn.{length-range_with_len, get_or-range_with_len}
use Rattle.std.proofs.lemmas.List.Sums.{sum_by_more}
use Rattle.cov_ast.specs.View as view
use Rattle.cov_ast.specs.declared.decl.Program.{Program}
use Rattle.mode_compat.specs.Compatible.{threads_of}

module _ (p : Program) where
  pub thread_count : length (threads_of (view.program p)) ≡ length p.threads
  thread_count = length-range_with_len 0 (length (map view.thread p.threads)) ∙ length-map p.threads view.thread

  pub thread_is : (t : ℕ) → t < length p.threads → get_or (threads_of (view.program p)) t t ≡ t
  thread_is t inside =
      get_or-range_with_len 0 (length (map view.thread p.threads)) t t (omega (arith, inside, length-map p.threads view.thread)) ∙ zero-add t

  module _ (f : ℕ → ℕ) where
    pub sum_step : (t total more : ℕ) → t < length p.threads → total ≡ sum_by f (take t (threads_of (view.program p))) → more ≡ f t
        → total + more ≡ sum_by f (take (t + 1) (threads_of (view.program p)))
    sum_step t total more inside e h =
        (λ i. e i + (h ∙ ap f (sym (thread_is t inside))) i)
        ∙ sym (sum_by_more f (threads_of (view.program p)) t t (omega (arith, inside, thread_count)))

    pub sum_end : (t total : ℕ) → length p.threads ≤ t → total ≡ sum_by f (take t (threads_of (view.program p)))
        → total ≡ sum_by f (threads_of (view.program p))
    sum_end t total past e = e ∙ ap (sum_by f) (take_all t (threads_of (view.program p)) (omega (arith, past, thread_count)))
