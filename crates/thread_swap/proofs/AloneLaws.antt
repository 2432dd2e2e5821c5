-- Where an answer is kept of each thread and one is replaced, its statements alone are to be judged.
use Rattle.std.proofs.Common.{◌≡◌, ◌≢◌, ℕ, zero, suc, ◌+◌, ◌<◌, ◌≤◌, List, length, map, set, sum_by, refl, sym, ◌∙◌, ap, subst, arith, inl, inr, Option, Some, None, Ok, if◌then◌else◌}
use Rattle.std.specs.Prelude.{is_none}
use Rattle.std.specs.List.{range_with_len}
use Rattle.std.proofs.lemmas.Bool.{cases_eq}
use Rattle.std.proofs.lemmas.List.{get_or-map, get_or-set_other, get_or-set_same, length-map, length-set}
use Rattle.std.proofs.lemmas.List.Sums.{sum_by-cons}
use Rattle.cov_ast.specs.Obligations.{first_false}
use Rattle.cov_ast.specs.Syntax.{Thread, Program}
use Rattle.cov_ast.specs.View as view
use Rattle.cov_ast.specs.WellFormed.{places}
use Rattle.cov_ast.specs.declared.refusal.Refusal.{Refusal}
use Rattle.mode_compat.specs.Compatible.{no_thread, threads_of}
use Rattle.mode_compat.specs.Declared.{declaration_obligations}
use Rattle.typing_law.specs.Counts.{counts}
use Rattle.thread_swap.specs.Judges.{Said}
use Rattle.thread_swap.specs.Swaps.{IsStanding, IsVerdictOf, RisesByAtMost, Swapping, due, open_at, swapped, unless_undeclared}

-- Sums of which one item alone counts ------------------------------------------------------------------------------------

none_counts : (f : ℕ → ℕ) (a n last : ℕ) → a + n ≤ last → ((u : ℕ) → a ≤ u → u < last → f u ≡ 0) → sum_by f (range_with_len a n) ≡ 0
none_counts f a zero last within h = refl
none_counts f a (suc n) last within h =
    let parts : sum_by f (range_with_len a (suc n)) ≡ f a + sum_by f (range_with_len (a + 1) n) = sum_by-cons f a (range_with_len (a + 1) n) in
    let rest : sum_by f (range_with_len (a + 1) n) ≡ 0 = none_counts f (a + 1) n last (omega (arith, within)) (λ u le lt. h u (omega (arith, le)) lt) in
    let first : f a ≡ 0 = h a (omega arith) (omega (arith, within)) in
    omega (arith, parts, rest, first)

one_counts : (f : ℕ → ℕ) (t a n last : ℕ) → a + n ≤ last → ((u : ℕ) → u < last → u ≢ t → f u ≡ 0) → sum_by f (range_with_len a n) ≤ f t
one_counts f t a zero last within h = omega arith
one_counts f t a (suc n) last within h =
    let parts : sum_by f (range_with_len a (suc n)) ≡ f a + sum_by f (range_with_len (a + 1) n) = sum_by-cons f a (range_with_len (a + 1) n) in
    elim (cases_eq a t) [
      | inl e ↦
          let rest : sum_by f (range_with_len (a + 1) n) ≡ 0 =
          none_counts f (a + 1) n last (omega (arith, within)) (λ u le lt. h u lt (λ same. omega (arith, le, same, e))) in
          let first : f a ≡ f t = ap f e in
          omega (arith, parts, rest, first)
      | inr other ↦
          let rest : sum_by f (range_with_len (a + 1) n) ≤ f t = one_counts f t (a + 1) n last (omega (arith, within)) h in
          let first : f a ≡ 0 = h a (omega (arith, within)) other in
          omega (arith, parts, rest, first)
    ]

-- One open thread ---------------------------------------------------------------------------------------------------------

module _ (p : Program) (t : ℕ) (d : Thread) (inside : t < length p.threads) where
  statements_are : (answers : List (Option Said)) → length answers ≡ length p.threads → open_at (swapped p t d) (set answers t None) t ≡ length (places d.body)
  statements_are answers complete =
      ap (λ o. if is_none o then (counts (swapped p t d) t).statements else 0) (get_or-set_same answers t None None (omega (arith, complete, inside)))
      ∙ ap (λ u. length (places u.body)) (get_or-set_same p.threads t d no_thread inside)

  others_are_closed : (all : List Said) → length all ≡ length p.threads → (u : ℕ) → u < length p.threads → u ≢ t
      → open_at (swapped p t d) (set (map Some all) t None) u ≡ 0
  others_are_closed all complete u within other =
      let nothing : Said = Ok (record { statements = 0; entailments = 0 }) in
      ap (λ o. if is_none o then (counts (swapped p t d) u).statements else 0)
      (get_or-set_other (map Some all) t u None None other ∙ get_or-map Some all u nothing None (omega (arith, complete, within)))

  alone_due : (all : List Said) → length all ≡ length p.threads → due (swapped p t d) (set (map Some all) t None) ≤ length (places d.body)
  alone_due all complete = go (first_false (declaration_obligations (swapped p t d)))
    where
      go : (o : Option Refusal) → unless_undeclared o (sum_by (open_at (swapped p t d) (set (map Some all) t None)) (threads_of (swapped p t d))) ≤ length (places d.body)
      go (Some r) = omega arith
      go None =
          let f = open_at (swapped p t d) (set (map Some all) t None) in
          let n = length (set p.threads t d) in
          let sum : sum_by f (range_with_len 0 n) ≤ f t =
          one_counts f t 0 n n (omega arith) (λ u lt other. others_are_closed all complete u (omega (arith, lt, length-set p.threads t d)) other) in
          let here : f t ≡ length (places d.body) = statements_are (map Some all) (length-map all Some ∙ complete) in
          subst (λ m. sum_by f (range_with_len 0 n) ≤ m) here sum

-- A count that rises by it --------------------------------------------------------------------------------------------------

pub alone_rises : (s : Swapping) → IsStanding (view.program s.program) s.answers s.verdict → first_false (declaration_obligations (view.program s.program)) ≡ None
    → (t : ℕ) (d : Thread) → t < length s.program.threads → (before after : ℕ)
    → RisesByAtMost before after (due (swapped (view.program s.program) t d) (set s.answers t None)) → RisesByAtMost before after (length (places d.body))
alone_rises s stands none t d within before after rises =
    let p = view.program s.program in
    let most : due (swapped p t d) (set s.answers t None) ≤ length (places d.body) =
    alone p (omega (arith, within, length-map s.program.threads view.thread)) (first_false (declaration_obligations p)) none stands.verdict_is in
    let some : rises.0 ≤ due (swapped p t d) (set s.answers t None) = rises.1 in
    (rises.0, omega (arith, some, most), rises.2)
  where
    alone : (p : Program) → t < length p.threads → (o : Option Refusal) → o ≡ None → IsVerdictOf o (length p.threads) s.answers s.verdict
        → due (swapped p t d) (set s.answers t None) ≤ length (places d.body)
    alone p inside (Some r) e h = cc
    alone p inside None e h = subst (λ o. due (swapped p t d) (set o t None) ≤ length (places d.body)) (sym h.2) (alone_due p t d inside h.0 h.1)
