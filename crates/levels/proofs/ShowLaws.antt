-- One step of the walks that change a plain program into what an observer is shown.
use Rattle.std.proofs.Common.{◌≡◌, ℕ, ◌+◌, ◌<◌, List, [], ◌∷◌, ◌++◌, length, map, take, drop, set, get_or, Bool, Option, sym, ap, ap₂, ◌∙◌, arith, add-one, append_assoc}
use Rattle.std.proofs.lemmas.List.{at_drop_more, drop_more, drop-set-lt, take_more_set}
use Rattle.cov_ast.specs.Plain.{bare_thread}
use Rattle.cov_ast.specs.Syntax.{Var, Thread}
use Rattle.level_text.specs.Lattice.{Levels}
use Rattle.levels.specs.Projection.{marked_thread, shown_var, shown_vars}

-- one more variable with its class
module _ (seen : List Bool) (l : Levels) where
  pub classes_more : (vars : List Var) (x : ℕ) (d v : Var) → x < length vars → v ≡ shown_var seen l x (get_or vars x d)
      → take (x + 1) (set vars x v) ++ shown_vars seen l (x + 1) (drop (x + 1) (set vars x v)) ≡ take x vars ++ shown_vars seen l x (drop x vars)
  classes_more vars x d v inside is =
      let rest = shown_vars seen l (x + 1) (drop (x + 1) vars) in
      ap₂ (λ us ws. us ++ shown_vars seen l (x + 1) ws) (take_more_set vars x v inside) (drop-set-lt (x + 1) vars x v (omega arith))
      ∙ append_assoc (take x vars) (v ∷ []) rest
      ∙ (λ i. take x vars ++ is i ∷ shown_vars seen l (add-one x i) (drop (x + 1) vars))
      ∙ sym (at_drop_more (λ vs. take x vars ++ shown_vars seen l x vs) vars x d inside)

-- one more thread with its annotations
module _ (marks : List (Option ℕ)) where
  pub threads_more : (threads annotated : List Thread) (t : ℕ) (d e v : Thread) → t < length threads → t < length annotated → v ≡ marked_thread marks (get_or annotated t e)
      → take (t + 1) (set threads t v) ++ map (marked_thread marks) (drop (t + 1) annotated) ≡ take t threads ++ map (marked_thread marks) (drop t annotated)
  threads_more threads annotated t d e v inside within is =
      let rest = map (marked_thread marks) (drop (t + 1) annotated) in
      ap (λ us. us ++ rest) (take_more_set threads t v inside)
      ∙ append_assoc (take t threads) (v ∷ []) rest
      ∙ ap (λ u. take t threads ++ u ∷ rest) is
      ∙ sym (at_drop_more (λ vs. take t threads ++ map (marked_thread marks) vs) annotated t e within)

-- a plain thread and those behind it are those of annotated ones
pub threads_left : (threads annotated : List Thread) (t : ℕ) (d e : Thread) → t < length threads → t < length annotated → drop t threads ≡ map bare_thread (drop t annotated)
    → (get_or threads t d ≡ bare_thread (get_or annotated t e)) × (drop (t + 1) threads ≡ map bare_thread (drop (t + 1) annotated))
threads_left threads annotated t d e inside within left = (ap (head d) whole, ap (drop 1) whole)
  where
    whole : get_or threads t d ∷ drop (t + 1) threads ≡ bare_thread (get_or annotated t e) ∷ map bare_thread (drop (t + 1) annotated)
    whole = sym (drop_more threads t d inside) ∙ left ∙ ap (map bare_thread) (drop_more annotated t e within)

    head : Thread → List Thread → Thread
    head d [] = d
    head d (x ∷ xs) = x
