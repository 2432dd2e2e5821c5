-- A thread of a program as the code has it, and its obligations as a walk decides them.
use Rattle.std.proofs.Common.{◌≡◌, ℕ, ◌^◌, ◌<◌, ◌++◌, List, [], ◌∷◌, length, map, get_or, refl, sym, ap, ◌∙◌, subst, arith, None, Result, Ok, Err, IsTrue}
use Rattle.std.specs.Prelude.{filter}
use Rattle.std.proofs.lemmas.List.{append-nil, get_or-map}
use Rattle.std.proofs.lemmas.List.Elements.{filter-append}
use Rattle.cov_ast.specs.Obligations.{Decides, Obligation, all_hold, first_false}
use Rattle.cov_ast.specs.Plain.{plain}
use Rattle.cov_ast.specs.Syntax.{Program, Block}
use Rattle.cov_ast.specs.View as view
use Rattle.cov_ast.specs.WellFormed.{IsBlockInRange, IsBodyFine, IsWellFormed, block_size, most_size}
use Rattle.cov_ast.specs.declared.decl.Program as decl
use Rattle.cov_ast.specs.declared.decl.ThreadDecl.{ThreadDecl}
use Rattle.cov_ast.specs.declared.refusal.CheckFault.{CheckFault}
use Rattle.cov_ast.specs.declared.refusal.CheckFault.TheVariants.{Refused, NoMemory}
use Rattle.cov_ast.specs.declared.refusal.Refusal.{Refusal}
use Rattle.cov_ast.proofs.ObligationLaws.{append_decided, append_held, append_refused}
use Rattle.cov_ast.proofs.WellFormedLaws.{seen_item, thread_in_range}
use Rattle.mode_compat.specs.Compatible.{no_thread, numbered}
use Rattle.mode_compat.specs.Declared.{declaration_obligations}
use Rattle.point_law.specs.After.{start}
use Rattle.typing_law.specs.Counts.{counts, entailment_count}
use Rattle.typing_law.specs.Blocks.{after_block}
use Rattle.point_law.specs.Point.{Point}
use Rattle.typing_law.specs.ThreadEntailments.{PlacedEntailment, all_entailments, block_entailments}
use Rattle.typing_law.specs.ThreadObligations.{block_obligations, end_obligation, end_point, thread_obligations}
use Rattle.typing_rules.specs.declared.kept.Kept.{Kept}
use Rattle.typing_law.proofs.Bounds.{few_entailments, few_places}
use Rattle.typing_law.proofs.Counting.{block_counted, count_append}
use Rattle.typing_rules.specs.Keeping.{is_other, asked_among, asked_in_thread, kept_for, view_kept}
use Rattle.typing_rules.specs.Inside.Passing.{Adds, Passes, Stops}
use Rattle.typing_rules.specs.declared.purpose.Purpose.{Purpose}
use Rattle.typing_rules.specs.declared.purpose.Purpose.TheVariants.{Collect}
use Rattle.typing_rules.specs.declared.purpose.Wanted.{Wanted}
use Rattle.typing_rules.proofs.Reaching.{adds_none, adds_stop, adds_then, no_entailments}

-- Obligations ----------------------------------------------------------------------------------------------------

-- a body and a place that are those of the numbered thread
module _ (p : Program) (t : ℕ) (b : Block) (place : ℕ) (body : b ≡ (numbered p t).body) (end : place ≡ (numbered p t).end) where
  abbrev obligations : List Obligation
  obligations = block_obligations (plain p) t b (start (plain p) t)

  abbrev last : List Obligation
  last = end_obligation (plain p) t place (after_block (plain p) t b (start (plain p) t)).held ∷ []

  whole : obligations ++ last ≡ thread_obligations p t
  whole i = block_obligations (plain p) t (body i) (start (plain p) t) ++ end_obligation (plain p) t (end i) (after_block (plain p) t (body i) (start (plain p) t)).held ∷ []

  pub body_refused : (fault : CheckFault) → Decides (block_obligations (plain p) t b (start (plain p) t)) (Err fault)
      → Decides (thread_obligations p t) (Err fault)
  body_refused fault h = subst (λ es. Decides es (Err fault)) whole (append_refused obligations last fault h)

  module _ (none : first_false (block_obligations (plain p) t b (start (plain p) t)) ≡ None) where
    pub end_refused : (fault : CheckFault) → Decides (end_obligation (plain p) t place (after_block (plain p) t b (start (plain p) t)).held ∷ []) (Err fault)
        → Decides (thread_obligations p t) (Err fault)
    end_refused fault h = subst (λ es. Decides es (Err fault)) whole (append_decided obligations last (Err fault) none h)

    pub thread_held : first_false (end_obligation (plain p) t place (after_block (plain p) t b (start (plain p) t)).held ∷ []) ≡ None
        → first_false (thread_obligations p t) ≡ None
    thread_held h = subst (λ es. first_false es ≡ None) whole (append_held obligations last none ∙ h)

  -- the end asks for no entailment
  pub thread_counted : (n : ℕ) → n ≡ entailment_count (block_obligations (plain p) t b (start (plain p) t)) → n ≡ (counts p t).entailments
  thread_counted n h =
      let same : n ≡ entailment_count (obligations ++ last) = omega (arith, count_append obligations last, h) in
      subst (λ es. n ≡ entailment_count es) whole same

-- The obligations that aren't about certificates -----------------------------------------------------------------

module _ (p : Program) (t : ℕ) (b : Block) (place : ℕ) (body : b ≡ (numbered p t).body) (end : place ≡ (numbered p t).end) where
  abbrev others : List Obligation
  others = filter is_other (block_obligations (plain p) t b (start (plain p) t))

  abbrev last_other : List Obligation
  last_other = end_obligation (plain p) t place (after_block (plain p) t b (start (plain p) t)).held ∷ []

  all_others : others ++ last_other ≡ filter is_other (thread_obligations p t)
  all_others =
      sym (filter-append is_other (block_obligations (plain p) t b (start (plain p) t)) last_other) ∙ ap (filter is_other) (whole p t b place body end)

  pub others_refused : (fault : CheckFault) → Decides (filter is_other (block_obligations (plain p) t b (start (plain p) t))) (Err fault)
      → Decides (filter is_other (thread_obligations p t)) (Err fault)
  others_refused fault h = subst (λ es. Decides es (Err fault)) all_others (append_refused others last_other fault h)

  pub others_at_end : first_false (filter is_other (block_obligations (plain p) t b (start (plain p) t))) ≡ None → (r : Result (Unit {0}) CheckFault)
      → Decides (end_obligation (plain p) t place (after_block (plain p) t b (start (plain p) t)).held ∷ []) r → Decides (filter is_other (thread_obligations p t)) r
  others_at_end none (Ok done) h = subst (λ es. first_false es ≡ None) all_others (append_held others last_other none ∙ h)
  others_at_end none (Err fault) h = subst (λ es. Decides es (Err fault)) all_others (append_decided others last_other (Err fault) none h)

-- a walk that collects stops at one of these
pub others_stopped : (wanted : Wanted) (o : List Obligation) (a : List PlacedEntailment) (k0 k1 : List Kept) (fault : CheckFault) → Stops (Collect wanted) o a k0 k1 fault
    → Decides (filter is_other o) (Err fault)
others_stopped wanted o a k0 k1 (Refused refusal) h = h.0
others_stopped wanted o a k0 k1 NoMemory h = tt

-- What is kept ------------------------------------------------------------------------------------------------------

module _ (u : Purpose) (p : Program) (t : ℕ) (b : Block) (body : b ≡ (numbered p t).body) (k0 k1 : List Kept) (none : k0 ≡ []) where
  abbrev from : Point
  from = start (plain p) t

  abbrev of_body : List Obligation
  of_body = block_obligations (plain p) t (numbered p t).body from

  abbrev of_end : List Obligation
  of_end = end_obligation (plain p) t (numbered p t).end (end_point p t).held ∷ []

  -- the end of a thread asks nothing to follow
  at_end : Adds u (of_body ++ of_end) (all_entailments p t ++ []) k0 k1 → map view_kept k1 ≡ kept_for u (asked_in_thread p t)
  at_end h =
      h ∙ ap (λ k. map view_kept k ++ kept_for u (asked_among (of_body ++ of_end) (all_entailments p t ++ []))) none
      ∙ ap (λ gs. kept_for u (asked_among (of_body ++ of_end) gs)) (append-nil (all_entailments p t))

  pub kept_held : Passes u (block_obligations (plain p) t b (start (plain p) t)) (block_entailments (plain p) t b (start (plain p) t)) k0 k1
      → map view_kept k1 ≡ kept_for u (asked_in_thread p t)
  kept_held h =
      at_end
      (adds_then u of_body of_end (all_entailments p t) [] (block_counted (plain p) t (numbered p t).body from) k0 k1 k1
      (subst (λ c. Passes u (block_obligations (plain p) t c from) (block_entailments (plain p) t c from) k0 k1) body h)
      (adds_none u of_end [] k1 (no_entailments u of_end)))

  pub kept_refused : (r : Refusal) → Stops u (block_obligations (plain p) t b (start (plain p) t)) (block_entailments (plain p) t b (start (plain p) t)) k0 k1 (Refused r)
      → map view_kept k1 ≡ kept_for u (asked_in_thread p t)
  kept_refused r h =
      let same = subst (λ c. Stops u (block_obligations (plain p) t c from) (block_entailments (plain p) t c from) k0 k1 (Refused r)) body h in
      at_end (adds_stop u of_body of_end (all_entailments p t) [] (block_counted (plain p) t (numbered p t).body from) k0 k1 r same.0 same.1)

-- Threads of the code ----------------------------------------------------------------------------------------------

pub thread_seen : (p : decl.Program) (i : ℕ) (t : ThreadDecl) → i < length p.threads → t ≡ get_or p.threads i t → view.thread t ≡ numbered (view.program p) i
thread_seen p i t inside is = ap view.thread is ∙ sym (get_or-map view.thread p.threads i t no_thread inside)

module _ (p : decl.Program) (fine : IsWellFormed (view.program p)) (i : ℕ) (t : ThreadDecl) (inside : i < length p.threads) (is : t ≡ get_or p.threads i t) where
  pub body_in_range : IsBlockInRange (length p.vars) (length p.locks) (view.block t.body)
  body_in_range = (thread_in_range p fine i t inside is).body

  pub body_small : block_size (view.block t.body) < most_size
  body_small = (seen_item view.thread (λ s. IsBodyFine s.body) p.threads i t fine.bodies inside is).small

-- Bounds -----------------------------------------------------------------------------------------------------------

module _ (p : Program) (fine : IsWellFormed p) (t : ℕ) (inside : t < length p.threads) where
  small : block_size (numbered p t).body < most_size
  small = (fine.bodies t no_thread inside).small

  pub statements_bounded : (counts p t).statements < 2 ^ 21
  statements_bounded = omega (arith, few_places (numbered p t).body, small)

  pub entailments_bounded : IsTrue (all_hold (declaration_obligations p)) → (counts p t).entailments < 2 ^ 31
  entailments_bounded h =
      let body = (numbered p t).body in
      omega (
        arith,
        thread_counted p t body (numbered p t).end refl refl (entailment_count (block_obligations (plain p) t body (start (plain p) t))) refl,
        few_entailments p t fine h body (start (plain p) t) (fine.ids.of_threads t no_thread inside).body,
        small,
      )
