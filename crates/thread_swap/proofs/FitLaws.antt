-- The threads of a text for the places of those of a program: where there is no fault, each may stand there.
use Rattle.std.proofs.Common.{◌≡◌, ℕ, ◌<◌, ◌≤◌, ◌==◌, ◌&&◌, Bool, true, false, cond, not, List, [], ◌∷◌, ◌++◌, length, map, get_or, refl, sym, subst, ◌∙◌, arith, Option, Some, None, All}
use Rattle.std.specs.Prelude.{option_map}
use Rattle.std.specs.List.{find}
use Rattle.std.specs.Option.{option_or}
use Rattle.std.specs.Str.{bytes_eq}
use Rattle.std.proofs.lemmas.List.{get_or-map, length-map}
use Rattle.std.proofs.lemmas.List.Elements.{All-cons, All-head, All-nil}
use Rattle.cov_expr.specs.Words.{HasWords}
use Rattle.cov_expr.specs.declared.expr.TheConstants.{HOLE}
use Rattle.cov_ast.specs.Obligations.{first_false}
use Rattle.cov_ast.specs.Declarations.{invariant_term}
use Rattle.cov_ast.specs.Plain.{class_term}
use Rattle.cov_ast.specs.Ready.{IsReady}
use Rattle.cov_ast.specs.Syntax.{Var, Lock, Thread, Program, Parsed}
use Rattle.cov_ast.specs.WellFormed.{AreOfWords, BlockHasWords, IsWellFormed, are_distinct, names_of}
use Rattle.cov_ast.specs.declared.parsed.NameUse.{NameUse}
use Rattle.cov_ast.specs.declared.refusal.Refusal.{Refusal}
use Rattle.mode_compat.specs.Compatible.{no_thread}
use Rattle.policy_class.specs.Resolved.{is_among, lock_id, resolved, resolved_lock, resolved_thread, resolved_variable, use_obligation, var_id}
use Rattle.policy_class.proofs.ResolvedLaws.{resolved_formed}
use Rattle.thread_swap.specs.Binding.{bound, declares_fault, first_fault, is_known, lock_of, thread_fault, unknown_fault, var_of, version_fault}
use Rattle.thread_swap.specs.Inside.Over.{IsFitting, bare_lock, bare_var, over, threads_in}
use Rattle.thread_swap.specs.Replacements.{IsNamed, IsReplacement, thread_names}
use Rattle.thread_swap.specs.declared.swap_fault.SwapFault.{SwapFault}
use Rattle.thread_swap.specs.declared.swap_fault.SwapFault.TheVariants.{NoMemory, NoThread, Unknown, Version}
use Rattle.thread_swap.proofs.BindLaws.{all_named, silent_text}
use Rattle.thread_swap.proofs.OverLaws.{alone_ready, bound_is, fitting, locks_same, one_differs, one_ready, over_ready, uses_first, vars_same}
use Rattle.thread_swap.proofs.Replacing.{replacement}

-- where neither of two is there, none is
neither : {X : Type 0} (a b : Option X) → option_or a b ≡ None → (a ≡ None) × (b ≡ None)
neither None b h = (refl, h)
neither (Some x) b h = cc

not_mapped : {X Y : Type 0} (f : X → Y) (o : Option X) → option_map f o ≡ None → o ≡ None
not_mapped f None h = refl
not_mapped f (Some x) h = cc

-- A fault of a text isn't want of memory.
neither_lacks : (a b : Option SwapFault) → (a ≡ Some NoMemory → ⊥) → (b ≡ Some NoMemory → ⊥) → option_or a b ≡ Some NoMemory → ⊥
neither_lacks None b first second h = second h
neither_lacks (Some x) b first second h = first h

pub never_lacks : (p : Program) (e : Parsed) → first_fault p e ≡ Some NoMemory → ⊥
never_lacks p e h =
    neither_lacks (version_fault p e) (option_or (declares_fault e.vars e.locks) (option_or (thread_fault p e.threads) (unknown_fault p e)))
    (version (e.version == 2 && p.version == 1))
    (neither_lacks (declares_fault e.vars e.locks) (option_or (thread_fault p e.threads) (unknown_fault p e)) (declares e.vars e.locks)
    (neither_lacks (thread_fault p e.threads) (unknown_fault p e) (thread (find (λ (t : Thread). not (is_among (thread_names p) t.name)) e.threads))
    (unknown (find (λ (u : NameUse). not (is_known p e u)) e.uses)))) h
  where
    version : (b : Bool) → cond b (Some Version) None ≡ Some NoMemory → ⊥
    version true k = cc
    version false k = cc

    declares : (vs : List Var) (ls : List Lock) → declares_fault vs ls ≡ Some NoMemory → ⊥
    declares (v ∷ vs) ls k = cc
    declares [] (l ∷ ls) k = cc
    declares [] [] k = cc

    thread : (o : Option Thread) → option_map (λ (t : Thread). NoThread t.at) o ≡ Some NoMemory → ⊥
    thread None k = cc
    thread (Some t) k = cc

    unknown : (o : Option NameUse) → option_map (λ (u : NameUse). Unknown u.at) o ≡ Some NoMemory → ⊥
    unknown None k = cc
    unknown (Some u) k = cc

-- Declarations of which the names alone are kept are of words.
classes_of_words : (v l : ℕ → ℕ) (vs : List Var) → All (λ (w : Var). HasWords (class_term w.class)) (map (resolved_variable v l) (map bare_var vs))
classes_of_words v l [] = All-nil (λ (w : Var). HasWords (class_term w.class))
classes_of_words v l (x ∷ vs) =
    All-cons (λ (w : Var). HasWords (class_term w.class)) (resolved_variable v l (bare_var x)) (map (resolved_variable v l) (map bare_var vs)) (omega arith)
    (classes_of_words v l vs)

invariants_of_words : (v l : ℕ → ℕ) (ls : List Lock) → All (λ (w : Lock). HasWords (invariant_term w.inv)) (map (resolved_lock v l) (map bare_lock ls))
invariants_of_words v l [] = All-nil (λ (w : Lock). HasWords (invariant_term w.inv))
invariants_of_words v l (x ∷ ls) =
    All-cons (λ (w : Lock). HasWords (invariant_term w.inv)) (resolved_lock v l (bare_lock x)) (map (resolved_lock v l) (map bare_lock ls)) (omega arith)
    (invariants_of_words v l ls)

module _ (p : Program) (e : Parsed) (fine : IsWellFormed p) (ready : IsReady e) (few : length e.names ≤ HOLE)
    (words : All (λ (t : Thread). BlockHasWords t.body) (bound p e)) (none : first_fault p e ≡ None) where
  abbrev made : Thread → Thread
  made t = resolved_thread (var_of p e) (lock_of p e) t

  faults : (version_fault p e ≡ None) × (thread_fault p e.threads ≡ None) × (unknown_fault p e ≡ None)
  faults =
      let first = neither (version_fault p e) (option_or (declares_fault e.vars e.locks) (option_or (thread_fault p e.threads) (unknown_fault p e))) none in
      let second = neither (declares_fault e.vars e.locks) (option_or (thread_fault p e.threads) (unknown_fault p e)) first.1 in
      let third = neither (thread_fault p e.threads) (unknown_fault p e) second.1 in
      (first.0, third.0, third.1)

  module _ (t : Thread) (one : IsReady (threads_in e (t ∷ []))) (named : IsNamed p t) (of_words : BlockHasWords (made t).body) where
    abbrev text : Parsed
    text = over p (threads_in e (t ∷ []))

    differ : are_distinct bytes_eq (names_of text.vars text.locks text.threads) ≡ true
    differ =
        (λ i. are_distinct bytes_eq (vars_same p.vars i ++ locks_same p.locks i ++ map (λ (u : Thread). u.name) (t ∷ [])))
        ∙ one_differs p fine t named

    known : first_false (map (use_obligation text) e.uses) ≡ None
    known =
        not_mapped (λ (r : Refusal). Unknown r.place) (first_false (map (use_obligation text) e.uses))
        (uses_first p e (t ∷ []) e.uses ∙ faults.2)

    are_words : AreOfWords (resolved text).vars (resolved text).locks (resolved text).threads
    are_words = record {
      classes = classes_of_words (var_id text) (lock_id text) p.vars;
      invariants = invariants_of_words (var_id text) (lock_id text) p.locks;
      bodies =
          subst (All (λ (u : Thread). BlockHasWords u.body)) (sym (bound_is p e (t ∷ [])))
          (All-cons (λ (u : Thread). BlockHasWords u.body) (made t) [] of_words (All-nil (λ (u : Thread). BlockHasWords u.body)));
    }

    fits : IsFitting p (made t)
    fits =
        let formed = resolved_formed text (over_ready p e (t ∷ []) fine one) few differ known are_words in
        All-head (IsFitting p) (made t) []
        (subst (All (IsFitting p)) (bound_is p e (t ∷ []))
        (fitting p e (t ∷ []) (resolved text) refl formed (silent_text p e faults.0 ready.version.known)))

  -- Each thread of the text may stand in the place of the thread of its name.
  pub bound_replace : All (IsReplacement p) (bound p e)
  bound_replace k d inside =
      let there : k < length e.threads = omega (arith, inside, length-map e.threads made) in
      let t = get_or e.threads k no_thread in
      let named : IsNamed p t = all_named p e.threads faults.1 k no_thread there in
      let at : get_or (bound p e) k d ≡ made t = get_or-map made e.threads k no_thread d there in
      subst (IsReplacement p) (sym at)
      (replacement p (made t)
      (fits t (one_ready e e.threads (alone_ready e ready) k no_thread there) named (subst (λ (u : Thread). BlockHasWords u.body) at (words k d inside))) named)
