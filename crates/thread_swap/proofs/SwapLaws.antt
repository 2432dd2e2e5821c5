-- What a judge says of all threads, what is kept of that, and the verdict.
use Rattle.std.proofs.Common.{◌≡◌, ℕ, zero, suc, ◌+◌, ◌<◌, List, [], ◌∷◌, length, map, get_or, set, sum_by, refl, sym, ◌∙◌, ap, subst, arith, inl, inr, Option, Some, None, Ok, IsTrue}
use Rattle.std.specs.Prelude.{IfSome, slice_get}
use Rattle.std.specs.List.{flat_map, range_with_len}
use Rattle.std.specs.Option.{option_or}
use Rattle.std.proofs.lemmas.Bool.{cases_eq}
use Rattle.std.proofs.lemmas.Option.{get_or_from_slice_get}
use Rattle.std.proofs.lemmas.List.{set-set, set-get_or, length-map, length-set, get_or-map, get_or-set_same, get_or-set_other, same_lists, get_or-replicate, map-set}
use Rattle.std.proofs.lemmas.List.FromFn.{get_or-map-range_with_len, length-map-range_with_len}
use Rattle.std.proofs.lemmas.List.Sums.{sum_by-cons}
use Rattle.cov_ast.specs.Obligations.{first_false}
use Rattle.cov_ast.specs.Syntax.{Thread, Program}
use Rattle.cov_ast.specs.WellFormed.{IsWellFormed}
use Rattle.cov_ast.specs.View as view
use Rattle.cov_ast.specs.declared.decl.Program as decl
use Rattle.cov_ast.specs.declared.decl.ThreadDecl.{ThreadDecl}
use Rattle.cov_ast.specs.declared.refusal.Refusal.{Refusal}
use Rattle.cov_ast.proofs.ObligationLaws.{first_false-append, append_held, none_refused}
use Rattle.mode_compat.specs.Compatible.{no_thread, numbered, threads_of}
use Rattle.mode_compat.specs.Declared.{declaration_obligations}
use Rattle.typing_law.specs.Counts as thread
use Rattle.typing_law.specs.ThreadObligations.{thread_obligations}
use Rattle.typing_law.specs.declared.count.Count.{Count}
use Rattle.typing_law.specs.Accepted.{program_obligations}
use Rattle.thread_swap.specs.Judges.{Judging, IsSound, Passes, Said, risen, said_by, says_of, thread_part}
use Rattle.thread_swap.specs.Swaps.{AreSaid, IsRight, IsStanding, IsVerdictOf, all_open, all_said, entailments_said, first_refusal, judged_by, judged_together, kept, settled, settled_by, statements_said, swapped, total_said, unless_refused, verdict_on}
use Rattle.thread_swap.specs.declared.judged.Judged.{Judged}

-- Counts -------------------------------------------------------------------------------------------------------------

pub risen_none : (count : ℕ) → count ≡ risen count 0
risen_none count = omega arith

pub risen_more : (count a b : ℕ) → risen (risen count a) b ≡ risen count (a + b)
risen_more count a b = grind arith

-- Calls of a judge -----------------------------------------------------------------------------------------------------

pub passes_none : (j : Judging) → Passes j j
passes_none j = record { says = refl; exact = refl }

pub passes_more : (i j k : Judging) → Passes i j → Passes j k → Passes i k
passes_more i j k h more = record { says = more.says ∙ h.says; exact = more.exact ∙ h.exact }

pub still_says : (j k : Judging) → Passes j k → (p : Program) (t : ℕ) → says_of k p t ≡ says_of j p t
still_says j k h p t = ap (λ says. says p.vars p.locks t (numbered p t)) h.says

pub still_said : (j k : Judging) → Passes j k → (p : Program) (answers : List (Option Said)) → AreSaid j p answers → AreSaid k p answers
still_said j k h p answers said t inside = go (kept answers t) (said t inside)
  where
    go : (o : Option Said) → IfSome o (λ a. a ≡ says_of j p t) → IfSome o (λ a. a ≡ says_of k p t)
    go None e = tt
    go (Some a) e = e ∙ sym (still_says j k h p t)

-- What is kept -------------------------------------------------------------------------------------------------------

module _ (p : Program) where
  pub length_all : (j : Judging) → length (all_said j p) ≡ length p.threads
  length_all j = length-map-range_with_len (says_of j p) 0 (length p.threads)

  all_at : (j : Judging) (t : ℕ) (d : Said) → t < length p.threads → get_or (all_said j p) t d ≡ says_of j p t
  all_at j t d inside = get_or-map-range_with_len (says_of j p) 0 (length p.threads) t t d inside (omega arith)

  kept_at : (all : List Said) (t : ℕ) (d : Said) → t < length all → kept (map Some all) t ≡ Some (get_or all t d)
  kept_at all t d inside = get_or-map Some all t d None inside

  pub fits_settled : (j : Judging) (answers : List (Option Said)) → AreSaid j p answers → AreSaid j p (settled j p answers)
  fits_settled j answers said = go (first_false (declaration_obligations p))
    where
      go : (o : Option Refusal) → AreSaid j p (settled_by o answers (all_said j p))
      go (Some r) = said
      go None = λ t inside.
          let d = says_of j p t in
          subst (λ o. IfSome o (λ a. a ≡ d)) (sym (kept_at (all_said j p) t d (subst (λ n. t < n) (sym (length_all j)) inside)))
          (all_at j t d inside)

  pub fits_open : (j : Judging) → AreSaid j p (all_open p)
  fits_open j t inside = subst (λ o. IfSome o (λ a. a ≡ says_of j p t)) (sym (get_or-replicate (length p.threads) t None None inside)) tt

  pub standing : (j : Judging) (answers : List (Option Said)) → IsWellFormed p → length answers ≡ length p.threads
      → IsStanding p (settled j p answers) (verdict_on j p)
  standing j answers fine complete = go (first_false (declaration_obligations p)) refl
    where
      both : (o : Option Refusal) → (length (settled_by o answers (all_said j p)) ≡ length p.threads)
          × IsVerdictOf o (length p.threads) (settled_by o answers (all_said j p)) (unless_refused o (judged_together (all_said j p)))
      both None = (length-map (all_said j p) Some ∙ length_all j, (all_said j p, length_all j, refl, refl))
      both (Some r) = (complete, refl)

      go : (o : Option Refusal) → first_false (declaration_obligations p) ≡ o → IsStanding p (settled j p answers) (verdict_on j p)
      go o e = record {
        formed = fine;
        complete = (both (first_false (declaration_obligations p))).0;
        verdict_is = (both (first_false (declaration_obligations p))).1;
      }

  -- the answers that are kept of all threads are what a judge says that they fit
  all_are_said : (j : Judging) (all : List Said) → length all ≡ length p.threads → AreSaid j p (map Some all) → all ≡ all_said j p
  all_are_said j all complete said =
      same_lists all (all_said j p) (complete ∙ sym (length_all j))
      (λ t d inside.
      let within : t < length p.threads = subst (λ n. t < n) complete inside in
      let at = subst (λ o. IfSome o (λ a. a ≡ says_of j p t)) (kept_at all t d inside) (said t within) in
      at ∙ sym (all_at j t d within))

  pub from_scratch : (j : Judging) (answers : List (Option Said)) (verdict : Judged) → IsStanding p answers verdict → AreSaid j p answers
      → verdict ≡ verdict_on j p
  from_scratch j answers verdict stands said = go (first_false (declaration_obligations p)) stands.verdict_is
    where
      go : (o : Option Refusal) → IsVerdictOf o (length p.threads) answers verdict → verdict ≡ unless_refused o (judged_together (all_said j p))
      go (Some r) h = h
      go None h = h.3 ∙ ap judged_together (all_are_said j h.0 h.1 (subst (AreSaid j p) h.2 said))

-- A thread replaced -------------------------------------------------------------------------------------------------

-- the answers that are kept of the other threads are still what the judge says
pub still_fits : (j : Judging) (p : Program) (t : ℕ) (d : Thread) (answers : List (Option Said)) → length answers ≡ length p.threads → t < length p.threads
    → AreSaid j p answers → AreSaid j (swapped p t d) (set answers t None)
still_fits j p t d answers complete within said u inside =
    elim (cases_eq u t) [
      | inl e ↦
          subst (λ o. IfSome o (λ a. a ≡ says_of j (swapped p t d) u))
          (sym (ap (kept (set answers t None)) e ∙ get_or-set_same answers t None None (omega (arith, complete, within)))) tt
      | inr other ↦
          let same : says_of j p u ≡ says_of j (swapped p t d) u = ap (λ n. j.says p.vars p.locks u n) (sym (get_or-set_other p.threads t u d no_thread other)) in
          subst (λ o. IfSome o (λ a. a ≡ says_of j (swapped p t d) u)) (sym (get_or-set_other answers t u None None other))
          (subst (λ s. IfSome (kept answers u) (λ a. a ≡ s)) same (said u (omega (arith, inside, length-set p.threads t d))))
    ]

module _ (p : decl.Program) (t : ℕ) where
  abbrev pub put_in : ThreadDecl → decl.Program
  put_in d = record p { threads = set p.threads t d }

  pub put_is : (d : ThreadDecl) → view.program (put_in d) ≡ swapped (view.program p) t (view.thread d)
  put_is d = λ i. record (view.program p) { threads = map-set view.thread p.threads t d i }

  pub put_back : (d old : ThreadDecl) → slice_get p.threads t ≡ Some old → set (set p.threads t d) t old ≡ p.threads
  put_back d old is =
      set-set p.threads t d old ∙ ap (set p.threads t) (sym (get_or_from_slice_get p.threads t old old is)) ∙ set-get_or p.threads t old

-- An exact judge -----------------------------------------------------------------------------------------------------

same_from : {X : Type 0} (f g : ℕ → X) (a n : ℕ) → ((t : ℕ) → t < a + n → f t ≡ g t) → map f (range_with_len a n) ≡ map g (range_with_len a n)
same_from f g a zero h = refl
same_from f g a (suc n) h = λ i. h a (omega arith) i ∷ same_from f g (a + 1) n (λ t inside. h t (omega arith)) i

module _ (p : Program) where
  parts_first : (ts : List ℕ) → first_refusal (map (thread_part p) ts) ≡ first_false (flat_map (thread_obligations p) ts)
  parts_first [] = refl
  parts_first (t ∷ ts) =
      go (parts_first ts) (first_false (thread_obligations p t))
      ∙ sym (first_false-append (thread_obligations p t) (flat_map (thread_obligations p) ts))
    where
      go : first_refusal (map (thread_part p) ts) ≡ first_false (flat_map (thread_obligations p) ts) → (o : Option Refusal)
          → first_refusal (said_by o (thread.counts p t) ∷ map (thread_part p) ts) ≡ option_or o (first_false (flat_map (thread_obligations p) ts))
      go rest None = rest
      go rest (Some r) = refl

  abbrev total_of : List ℕ → Count
  total_of ts = record { statements = sum_by (λ t. (thread.counts p t).statements) ts; entailments = sum_by (λ t. (thread.counts p t).entailments) ts }

  parts_total : (ts : List ℕ) → first_refusal (map (thread_part p) ts) ≡ None → total_said (map (thread_part p) ts) ≡ total_of ts
  parts_total [] h = refl
  parts_total (t ∷ ts) h = go (λ e. parts_total ts e) (first_false (thread_obligations p t)) h
    where
      go : (first_refusal (map (thread_part p) ts) ≡ None → total_said (map (thread_part p) ts) ≡ total_of ts) → (o : Option Refusal)
          → first_refusal (said_by o (thread.counts p t) ∷ map (thread_part p) ts) ≡ None
          → total_said (said_by o (thread.counts p t) ∷ map (thread_part p) ts) ≡ total_of (t ∷ ts)
      go rest None e =
          let more = rest e in
          λ i. record {
            statements = (sum_by-cons statements_said (Ok (thread.counts p t)) (map (thread_part p) ts)
                ∙ ap (λ k. (thread.counts p t).statements + k.statements) more
                ∙ sym (sum_by-cons (λ u. (thread.counts p u).statements) t ts)) i;
            entailments = (sum_by-cons entailments_said (Ok (thread.counts p t)) (map (thread_part p) ts)
                ∙ ap (λ k. (thread.counts p t).entailments + k.entailments) more
                ∙ sym (sum_by-cons (λ u. (thread.counts p u).entailments) t ts)) i;
          }
      go rest (Some r) e = cc

  pub exactly_right : (j : Judging) → IsSound j → IsTrue j.exact → IsWellFormed p → IsRight p (verdict_on j p)
  exactly_right j sound exact fine = go (first_false (declaration_obligations p)) refl
    where
      together : first_false (declaration_obligations p) ≡ None → (all : List Said) → all ≡ map (thread_part p) (threads_of p) → (o : Option Refusal) → first_refusal all ≡ o
          → IsRight p (judged_by o (total_said all))
      together none all same None e =
          let held : first_false (program_obligations p) ≡ None =
          append_held (declaration_obligations p) (flat_map (thread_obligations p) (threads_of p)) none ∙ sym (parts_first (threads_of p)) ∙ sym (ap first_refusal same) ∙ e in
          (none_refused (program_obligations p) held, ap total_said same ∙ parts_total (threads_of p) (sym (ap first_refusal same) ∙ e))
      together none all same (Some r) e =
          append_held (declaration_obligations p) (flat_map (thread_obligations p) (threads_of p)) none ∙ sym (parts_first (threads_of p)) ∙ sym (ap first_refusal same) ∙ e

      go : (o : Option Refusal) → first_false (declaration_obligations p) ≡ o → IsRight p (unless_refused o (judged_together (all_said j p)))
      go (Some r) e =
          first_false-append (declaration_obligations p) (flat_map (thread_obligations p) (threads_of p))
          ∙ ap (λ o. option_or o (first_false (flat_map (thread_obligations p) (threads_of p)))) e
      go None e =
          let declared = none_refused (declaration_obligations p) e in
          let same : all_said j p ≡ map (thread_part p) (threads_of p) =
          same_from (says_of j p) (thread_part p) 0 (length p.threads) (λ t inside. sound.exactly exact p fine declared t (omega (arith, inside))) in
          together e (all_said j p) same (first_refusal (all_said j p)) refl
