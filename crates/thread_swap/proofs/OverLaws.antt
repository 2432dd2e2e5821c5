-- What names mean in a text of threads with the variables and locks of a program.
use Rattle.std.proofs.Common.{◌≡◌, ℕ, zero, suc, ◌<◌, List, [], ◌∷◌, ◌++◌, Bool, true, false, not, cond, length, map, get_or, refl, sym, ap, subst, ◌∙◌, arith, Some, All}
use Rattle.std.specs.Prelude.{flat_map, option_map}
use Rattle.std.specs.List.{Contains, find, position_or_len}
use Rattle.std.specs.Str.{bytes_eq}
use Rattle.std.proofs.lemmas.List.{append-nil, length-map, map-append}
use Rattle.std.proofs.lemmas.List.Elements.{All-cons, All-map, All-nil, Contains-append_left, Contains-append_right}
use Rattle.cov_expr.specs.Words.{HasVarsBelow}
use Rattle.cov_ast.specs.Obligations.{first_false}
use Rattle.cov_ast.specs.Plain.{class_term}
use Rattle.cov_ast.specs.Ready.{IsReady, Use, uses_in_class, uses_in_lock, uses_in_thread}
use Rattle.cov_ast.specs.Syntax.{Var, Lock, Thread, Program, Parsed}
use Rattle.cov_ast.specs.WellFormed.{IsBodyFine, IsLockInRange, IsSilent, IsThreadInRange, IsWellFormed, are_distinct, names_of}
use Rattle.cov_ast.specs.declared.parsed.NameUse.{NameUse}
use Rattle.cov_ast.specs.declared.refusal.Refusal.{Refusal}
use Rattle.cov_ast.proofs.ObligationLaws.{append_held}
use Rattle.policy_class.specs.Resolved.{Named, declared_names, is_among, is_declared, lock_id, lock_named, name_obligations, resolved, resolved_lock, resolved_thread, resolved_variable, text_of, thread_named, use_obligation, var_id, var_named, w1_from}
use Rattle.thread_swap.specs.Binding.{is_known, lock_of, unknown_fault, var_of}
use Rattle.thread_swap.specs.Inside.Over.{IsFitting, bare_lock, bare_var, over, threads_in}
use Rattle.thread_swap.specs.declared.swap_fault.SwapFault.TheVariants.{Unknown}
use Rattle.thread_swap.proofs.NameLaws.{AreAmong, distinct_among, texts, w1_holds}

-- Texts of threads ------------------------------------------------------------------------------------------------------

-- what is used in one of several is used in all
used_in_all : (ts : List Thread) (k : ℕ) (d : Thread) → k < length ts → (u : Use) → Contains (uses_in_thread (get_or ts k d)) u
    → Contains (flat_map uses_in_thread ts) u
used_in_all [] k d inside u has = absurd (omega (arith, inside))
used_in_all (t ∷ ts) zero d inside u has = Contains-append_left (uses_in_thread t) (flat_map uses_in_thread ts) u has
used_in_all (t ∷ ts) (suc k) d inside u has =
    Contains-append_right (uses_in_thread t) (flat_map uses_in_thread ts) u (used_in_all ts k d (omega (arith, inside)) u has)

module _ (e : Parsed) where
  pub alone_ready : IsReady e → IsReady (threads_in e e.threads)
  alone_ready ready = record {
    ids = record { classes = All-nil _; of_locks = All-nil _; of_threads = ready.ids.of_threads };
    used_ids = ready.used_ids;
    limits = record { variables = omega arith; declared_locks = omega arith; declared_threads = ready.limits.declared_threads };
    bodies = ready.bodies;
    version = ready.version;
    uses = λ u has.
        ready.uses u (Contains-append_right (flat_map (λ (v : Var). uses_in_class v.class) e.vars ++ flat_map uses_in_lock e.locks)
        (flat_map uses_in_thread e.threads) u has);
  }

  module _ (ts : List Thread) (ready : IsReady (threads_in e ts)) where
    -- without threads
    pub none_ready : IsReady (threads_in e [])
    none_ready = record {
      ids = record { classes = All-nil _; of_locks = All-nil _; of_threads = All-nil (IsThreadInRange (length e.names) (length e.names)) };
      used_ids = ready.used_ids;
      limits = record { variables = omega arith; declared_locks = omega arith; declared_threads = omega arith };
      bodies = All-nil (λ (t : Thread). IsBodyFine t.body);
      version = record { known = ready.version.known; silent = λ one. All-nil (λ (t : Thread). IsSilent t.body) };
      uses = λ u has. let none : has.0 < 0 = has.1 in absurd (omega (arith, none));
    }

    -- with one of the threads
    pub one_ready : (k : ℕ) (d : Thread) → k < length ts → IsReady (threads_in e (get_or ts k d ∷ []))
    one_ready k d inside =
        let t = get_or ts k d in
        record {
          ids = record {
            classes = All-nil _;
            of_locks = All-nil _;
            of_threads =
                All-cons (IsThreadInRange (length e.names) (length e.names)) t [] (ready.ids.of_threads k d inside)
                (All-nil (IsThreadInRange (length e.names) (length e.names)));
          };
          used_ids = ready.used_ids;
          limits = record { variables = omega arith; declared_locks = omega arith; declared_threads = omega (arith, ready.limits.declared_threads, inside) };
          bodies = All-cons (λ (u : Thread). IsBodyFine u.body) t [] (ready.bodies k d inside) (All-nil (λ (u : Thread). IsBodyFine u.body));
          version = record {
            known = ready.version.known;
            silent = λ one.
                All-cons (λ (u : Thread). IsSilent u.body) t [] (ready.version.silent one k d inside) (All-nil (λ (u : Thread). IsSilent u.body));
          };
          uses = λ u has. ready.uses u (used_in_all ts k d inside u (subst (λ us. Contains us u) (append-nil (uses_in_thread t)) has));
        }

-- Names of declarations -------------------------------------------------------------------------------------------------

pub vars_same : (vs : List Var) → map (λ (v : Var). v.name) (map bare_var vs) ≡ map (λ (v : Var). v.name) vs
vars_same [] = refl
vars_same (v ∷ vs) = ap (λ ns. v.name ∷ ns) (vars_same vs)

pub locks_same : (ls : List Lock) → map (λ (l : Lock). l.name) (map bare_lock ls) ≡ map (λ (l : Lock). l.name) ls
locks_same [] = refl
locks_same (l ∷ ls) = ap (λ ns. l.name ∷ ns) (locks_same ls)

no_uses_vars : (vs : List Var) → flat_map (λ (v : Var). uses_in_class v.class) (map bare_var vs) ≡ []
no_uses_vars [] = refl
no_uses_vars (v ∷ vs) = no_uses_vars vs

no_uses_locks : (ls : List Lock) → flat_map uses_in_lock (map bare_lock ls) ≡ []
no_uses_locks [] = refl
no_uses_locks (l ∷ ls) = no_uses_locks ls

texts_vars : (vs : List Var) → texts (map var_named (map bare_var vs)) ≡ map (λ (v : Var). v.name) vs
texts_vars [] = refl
texts_vars (v ∷ vs) = ap (λ ns. v.name ∷ ns) (texts_vars vs)

texts_locks : (ls : List Lock) → texts (map lock_named (map bare_lock ls)) ≡ map (λ (l : Lock). l.name) ls
texts_locks [] = refl
texts_locks (l ∷ ls) = ap (λ ns. l.name ∷ ns) (texts_locks ls)

texts_threads : (ts : List Thread) → texts (map thread_named ts) ≡ map (λ (t : Thread). t.name) ts
texts_threads [] = refl
texts_threads (t ∷ ts) = ap (λ ns. t.name ∷ ns) (texts_threads ts)

-- of a program, with threads of the names of some of its own, which differ
pub all_differ : (p : Program) → IsWellFormed p → (ts : List Thread) → AreAmong (map (λ (t : Thread). t.name) p.threads) (map (λ (t : Thread). t.name) ts)
    → are_distinct bytes_eq (map (λ (t : Thread). t.name) ts) ≡ true → are_distinct bytes_eq (names_of p.vars p.locks ts) ≡ true
all_differ p fine ts named differ =
    distinct_among (map (λ (v : Var). v.name) p.vars ++ map (λ (l : Lock). l.name) p.locks) (map (λ (t : Thread). t.name) p.threads)
    (map (λ (t : Thread). t.name) ts) fine.names_differ named differ

-- with none
pub declared_differ : (p : Program) → IsWellFormed p → are_distinct bytes_eq (names_of p.vars p.locks []) ≡ true
declared_differ p fine = all_differ p fine [] tt refl

-- with one
pub one_differs : (p : Program) → IsWellFormed p → (d : Thread) → is_among (map (λ (t : Thread). t.name) p.threads) d.name ≡ true
    → are_distinct bytes_eq (names_of p.vars p.locks (d ∷ [])) ≡ true
one_differs p fine d named = all_differ p fine (d ∷ []) (named, tt) refl

-- Threads over a program -------------------------------------------------------------------------------------------------

module _ (p : Program) (e : Parsed) where
  pub over_ready : (ts : List Thread) → IsWellFormed p → IsReady (threads_in e ts) → IsReady (over p (threads_in e ts))
  over_ready ts fine ready = record {
    ids = record {
      classes = All-map (λ (v : Var). HasVarsBelow (class_term v.class) (length e.names)) bare_var p.vars (λ k d h. tt);
      of_locks =
          All-map (IsLockInRange (length e.names) (length e.names)) bare_lock p.locks
          (λ k d h. record { nowrite = All-nil _; hide = All-nil _; invariant = tt });
      of_threads = ready.ids.of_threads;
    };
    used_ids = ready.used_ids;
    limits = record {
      variables = omega (arith, length-map p.vars bare_var, fine.limits.variables);
      declared_locks = omega (arith, length-map p.locks bare_lock, fine.limits.declared_locks);
      declared_threads = ready.limits.declared_threads;
    };
    bodies = ready.bodies;
    version = ready.version;
    uses = λ u has.
        ready.uses u (subst (λ us. Contains us u) (λ i. no_uses_vars p.vars i ++ no_uses_locks p.locks i ++ flat_map uses_in_thread ts) has);
  }

  pub bound_is : (ts : List Thread) → (resolved (over p (threads_in e ts))).threads ≡ map (resolved_thread (var_of p e) (lock_of p e)) ts
  bound_is ts = λ i.
      map (resolved_thread (λ n. position_or_len (bytes_eq (text_of e n)) (vars_same p.vars i))
      (λ n. position_or_len (bytes_eq (text_of e n)) (locks_same p.locks i))) ts

  module _ (ts : List Thread) where
    known_is : (u : NameUse) → is_declared (over p (threads_in e ts)) u ≡ is_known p e u
    known_is u = λ i. is_among (cond u.lock (locks_same p.locks i) (vars_same p.vars i)) (text_of e u.name)

    pub uses_first : (us : List NameUse) → option_map (λ (r : Refusal). Unknown r.place) (first_false (map (use_obligation (over p (threads_in e ts))) us))
        ≡ option_map (λ (u : NameUse). Unknown u.at) (find (λ u. not (is_known p e u)) us)
    uses_first [] = refl
    uses_first (u ∷ us) =
        go (uses_first us) (is_declared (over p (threads_in e ts)) u)
        ∙ ap (λ b. option_map (λ (v : NameUse). Unknown v.at) (cond (not b) (Some u) (find (λ v. not (is_known p e v)) us))) (known_is u)
      where
        go : option_map (λ (r : Refusal). Unknown r.place) (first_false (map (use_obligation (over p (threads_in e ts))) us))
            ≡ option_map (λ (v : NameUse). Unknown v.at) (find (λ v. not (is_known p e v)) us)
            → (b : Bool) → option_map (λ (r : Refusal). Unknown r.place)
            (cond b (first_false (map (use_obligation (over p (threads_in e ts))) us)) (Some (use_obligation (over p (threads_in e ts)) u).refusal))
            ≡ option_map (λ (v : NameUse). Unknown v.at) (cond (not b) (Some u) (find (λ v. not (is_known p e v)) us))
        go rest true = rest
        go rest false = refl

    names_same : texts (declared_names (over p (threads_in e ts))) ≡ names_of p.vars p.locks ts
    names_same =
        let vars = map var_named (map bare_var p.vars) in
        let locks = map lock_named (map bare_lock p.locks) in
        let threads = map thread_named ts in
        map-append (λ (n : Named). n.name) (vars ++ locks) threads
        ∙ ap (λ ns. ns ++ texts threads) (map-append (λ (n : Named). n.name) vars locks)
        ∙ (λ i. texts_vars p.vars i ++ texts_locks p.locks i ++ texts_threads ts i)

    -- where the names of the threads differ, the first fault is the first use of an unknown name
    pub unknown_is : are_distinct bytes_eq (names_of p.vars p.locks ts) ≡ true
        → unknown_fault p e ≡ option_map (λ (r : Refusal). Unknown r.place) (first_false (name_obligations (over p (threads_in e ts))))
    unknown_is differ =
        let names = declared_names (over p (threads_in e ts)) in
        let held = w1_holds names (ap (are_distinct bytes_eq) names_same ∙ differ) in
        sym (ap (option_map (λ (r : Refusal). Unknown r.place)) (append_held (w1_from [] names) (map (use_obligation (over p (threads_in e ts))) e.uses) held)
        ∙ uses_first e.uses)

    -- what the resolver gives fits the program
    pub fitting : (q : Program) → q ≡ resolved (over p (threads_in e ts)) → IsWellFormed q → (p.version ≡ 1 → e.version ≡ 1) → All (IsFitting p) q.threads
    fitting q is fine same = λ k d inside. record {
      in_range =
          subst (λ n. IsThreadInRange n (length p.locks) (get_or q.threads k d)) var_count
          (subst (λ n. IsThreadInRange (length q.vars) n (get_or q.threads k d)) lock_count (fine.ids.of_threads k d inside));
      words = fine.words.bodies k d inside;
      body = fine.bodies k d inside;
      silent = λ one. fine.version.silent (ap (λ (r : Program). r.version) is ∙ same one) k d inside;
    }
      where
        var_count : length q.vars ≡ length p.vars
        var_count =
            ap (λ (r : Program). length r.vars) is ∙ length-map (map bare_var p.vars) (resolved_variable (var_id (over p (threads_in e ts))) (lock_id (over p (threads_in e ts))))
            ∙ length-map p.vars bare_var

        lock_count : length q.locks ≡ length p.locks
        lock_count =
            ap (λ (r : Program). length r.locks) is ∙ length-map (map bare_lock p.locks) (resolved_lock (var_id (over p (threads_in e ts))) (lock_id (over p (threads_in e ts))))
            ∙ length-map p.locks bare_lock
