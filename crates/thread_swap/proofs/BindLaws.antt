-- The first of four kinds of faults, and the threads where there is none.
use Rattle.std.proofs.Common.{◌≡◌, ℕ, List, [], ◌∷◌, Bool, true, false, not, cond, map, get_or, refl, sym, ap, subst, ◌∙◌, inl, inr, ◌⊎◌, ◌==◌, Some, None, Result, Ok, Err, All}
use Rattle.std.specs.Prelude.{option_map, ◌&&◌, IfOk, MatchResult}
use Rattle.std.specs.List.{find}
use Rattle.std.specs.Option.{option_or}
use Rattle.std.proofs.lemmas.Bool.{and_from, eq-eqb, true≢false}
use Rattle.std.proofs.lemmas.List.Elements.{All-cons, All-head, All-nil, All-same, All-tail}
use Rattle.cov_ast.specs.Syntax.{Thread, Program, Parsed}
use Rattle.cov_ast.specs.View as view
use Rattle.cov_ast.specs.declared.decl.ThreadDecl.{ThreadDecl}
use Rattle.policy_class.specs.Resolved.{is_among, resolved_thread}
use Rattle.thread_swap.specs.Binding.{IsFault, bound, declares_fault, first_fault, lock_of, thread_fault, unknown_fault, var_of, version_fault}
use Rattle.thread_swap.specs.Inside.Over.{AreBound}
use Rattle.thread_swap.specs.Replacements.{IsNamed, IsReplacement, thread_names}
use Rattle.thread_swap.specs.declared.swap_fault.SwapFault.{SwapFault}
use Rattle.thread_swap.specs.declared.swap_fault.SwapFault.TheVariants.{NoThread, Version}
use Rattle.thread_swap.proofs.NameLaws.{AreAmong}
use Rattle.thread_swap.proofs.Replacing.{replacement}

-- Versions ---------------------------------------------------------------------------------------------------------------

same_version : (version other : ℕ) → (version ≡ 1) ⊎ (version ≡ 2) → (version == 2 && other == 1) ≡ false → other ≡ 1 → version ≡ 1
same_version version other (inl one) h first = one
same_version version other (inr two) h first =
    absurd (true≢false (sym (and_from (version == 2) (other == 1) (eq-eqb version 2 two) (eq-eqb other 1 first)) ∙ h))

-- a text that doesn't clash is of version 1 where the program is
pub silent_text : (p : Program) (e : Parsed) → version_fault p e ≡ None → (e.version ≡ 1) ⊎ (e.version ≡ 2) → p.version ≡ 1 → e.version ≡ 1
silent_text p e h known one = same_version e.version p.version known (go (e.version == 2 && p.version == 1) h) one
  where
    go : (b : Bool) → cond b (Some Version) None ≡ None → b ≡ false
    go true k = cc
    go false k = refl

-- Names of threads ---------------------------------------------------------------------------------------------------------

-- each thread has the name of one of the program, where none is at fault
pub all_named : (p : Program) (ts : List Thread) → thread_fault p ts ≡ None → All (IsNamed p) ts
all_named p [] h = All-nil (IsNamed p)
all_named p (t ∷ ts) h =
    let parts = go (is_among (thread_names p) t.name) h in
    All-cons (IsNamed p) t ts parts.0 (all_named p ts parts.1)
  where
    go : (b : Bool) → option_map (λ (d : Thread). NoThread d.at) (cond (not b) (Some t) (find (λ (d : Thread). not (is_among (thread_names p) d.name)) ts)) ≡ None
        → (b ≡ true) × (thread_fault p ts ≡ None)
    go true k = (refl, k)
    go false k = cc

pub names_among : (p : Program) (ts : List Thread) → thread_fault p ts ≡ None → AreAmong (thread_names p) (map (λ (t : Thread). t.name) ts)
names_among p [] h = tt
names_among p (t ∷ ts) h =
    let named = all_named p (t ∷ ts) h in (All-head (IsNamed p) t ts named, names_from ts (All-tail (IsNamed p) t ts named))
  where
    names_from : (us : List Thread) → All (IsNamed p) us → AreAmong (thread_names p) (map (λ (u : Thread). u.name) us)
    names_from [] k = tt
    names_from (u ∷ us) k = (All-head (IsNamed p) u us k, names_from us (All-tail (IsNamed p) u us k))

-- and by ids its name is the same
named_by_ids : (p : Program) (v l : ℕ → ℕ) (ts : List Thread) → All (IsNamed p) ts → All (IsNamed p) (map (resolved_thread v l) ts)
named_by_ids p v l [] h = All-nil (IsNamed p)
named_by_ids p v l (t ∷ ts) h =
    All-cons (IsNamed p) (resolved_thread v l t) (map (resolved_thread v l) ts) (All-head (IsNamed p) t ts h)
    (named_by_ids p v l ts (All-tail (IsNamed p) t ts h))

-- Answers ------------------------------------------------------------------------------------------------------------------

module _ (p : Program) (e : Parsed) (version : version_fault p e ≡ None) (declares : declares_fault e.vars e.locks ≡ None) (threads : thread_fault p e.threads ≡ None) where
  first_is : first_fault p e ≡ unknown_fault p e
  first_is =
      ap (λ o. option_or o (option_or (declares_fault e.vars e.locks) (option_or (thread_fault p e.threads) (unknown_fault p e)))) version
      ∙ ap (λ o. option_or o (option_or (thread_fault p e.threads) (unknown_fault p e))) declares
      ∙ ap (λ o. option_or o (unknown_fault p e)) threads

  pub binds_from : (r : Result (List ThreadDecl) SwapFault)
      → MatchResult r (λ made. (unknown_fault p e ≡ None) × AreBound p e e.threads (map view.thread made)) (IsFault (unknown_fault p e))
      → MatchResult r (λ made. (first_fault p e ≡ None) × (map view.thread made ≡ bound p e)) (IsFault (first_fault p e))
  binds_from (Ok made) h = (first_is ∙ h.0, h.1.0)
  binds_from (Err fault) h = subst (λ o. IsFault o fault) (sym first_is) h

  pub fit_from : (r : Result (List ThreadDecl) SwapFault)
      → MatchResult r (λ made. (unknown_fault p e ≡ None) × AreBound p e e.threads (map view.thread made)) (IsFault (unknown_fault p e))
      → IfOk r (λ made. All (IsReplacement p) (map view.thread made))
  fit_from (Ok made) h =
      let named = All-same (IsNamed p) (map view.thread made) (map (resolved_thread (var_of p e) (lock_of p e)) e.threads) h.1.0
      (named_by_ids p (var_of p e) (lock_of p e) e.threads (all_named p e.threads threads)) in
      λ k d inside. replacement p (get_or (map view.thread made) k d) (h.1.1 k d inside) (named k d inside)
  fit_from (Err fault) h = tt
