-- Code whose lines stand for the bodies matches the program and is secure.
use Rattle.std.proofs.Common.{◌≡◌, ℕ, zero, suc, ◌<◌, ◌≤◌, List, [], ◌∷◌, ◌++◌, length, get_or, map, replicate, false, Some, None, refl, sym, ◌∙◌, ap, subst, subst₂, arith}
use Rattle.std.proofs.Math.Decide.{dec_lt}
use Rattle.std.proofs.Math.ListN.{get_or-map}
use Rattle.std.proofs.lemmas.List.{get_or_past, get_or-replicate, length-map, length-replicate}
use Rattle.std.proofs.lemmas.List.Elements.{All-get_or}
use Rattle.std.proofs.lemmas.Option.{slice_get_past}
use Rattle.cov_expr.specs.Words.{AreWords, IsSchedule}
use Rattle.cov_ast.specs.Declarations.{thread_at, no_thread}
use Rattle.cov_ast.specs.LocksAlong.{no_locks}
use Rattle.cov_ast.specs.Plain.{Plain}
use Rattle.cov_ast.specs.Tables.{has}
use Rattle.flow_model.specs.Agreement.{StatesAgree}
use Rattle.flow_model.specs.Composable.{HasCompatibleModes}
use Rattle.flow_model.specs.Secure.{IsSecure}
use Rattle.flow_model.specs.Source.{Item, Run, holder, is_held_by, run_from, items_of, begin, after, items_then}
use Rattle.regalloc.specs.Plan.{start}
use Rattle.compiled_code.specs.Matches.{AreRegisters, IsFinished, MatchesAfter, entries_of}
use Rattle.compiled_code.specs.SecureCode.{IsSecureCode}
use Rattle.risc_machine.specs.CodeAgreement.{CodeStatesAgree}
use Rattle.compiled_code.proofs.Cores.{core_of, core_step, core_from, core_lifted, same_from, same_lifted}
use Rattle.compiled_code.proofs.Coupling.{src, Coupled, lifted, Lifted}
use Rattle.compiled_code.proofs.Ends.{nothing_left}
use Rattle.compiled_code.proofs.Forward.{Forward}
use Rattle.compiled_code.proofs.Plans.{start_below}
use Rattle.compiled_code.proofs.Progress.{count_of, counts_entries, IsPast, none_past, finishes, no_spin, idle}
use Rattle.compiled_code.proofs.SecureRuns.{twins_run}
use Rattle.compiled_code.proofs.Shape.{ItemsCode}
use Rattle.compiled_code.proofs.Steps.{AreSets, ready}
use Rattle.risc_machine.specs.Machine.{CodeState, code_begin, code_after, lines_of, position}
use Rattle.risc_machine.specs.Machine as machine
use Rattle.risc_machine.specs.declared.parts.Parts.{Parts}

-- at the start no lock is held, and none is told of
nobody_holds : (t n m l : ℕ) → has (replicate m false) l ≡ is_held_by (holder (replicate n None) l) t
nobody_holds t zero zero l = refl
nobody_holds t (suc n) zero zero = refl
nobody_holds t (suc n) zero (suc l) = nobody_holds t n zero l
nobody_holds t zero (suc m) zero = refl
nobody_holds t zero (suc m) (suc l) = nobody_holds t zero m l
nobody_holds t (suc n) (suc m) zero = refl
nobody_holds t (suc n) (suc m) (suc l) = nobody_holds t n m l

-- each thread's lines stand for its body
pub record IsLaidOut (p : Plain) (c : Parts) : Type 0 where
  pub locks : length c.locks ≡ length p.locks
  pub threads : length c.threads ≡ length p.threads
  pub each : (t : ℕ) → t < length p.threads → ItemsCode p t (lines_of c t) (items_then (thread_at p t).body []) (no_locks p) start 0

module _ (p : Plain) (sets : (t : ℕ) → AreSets p t) (apart : HasCompatibleModes p) (c : Parts) (k : IsLaidOut p c) where
  pub first_items : List (List Item)
  first_items = map (λ t. items_then t.body []) p.threads

  module _ (m : List ℕ) (R : List (List ℕ)) (regs : AreRegisters (length p.threads) R) (wide : length m ≡ length p.vars) where
    pub coupled_start : Coupled p sets apart c (code_begin c m R) first_items
    unfolding first_items
    coupled_start = record {
      locks = length-replicate (length c.locks) None ∙ k.locks;
      items = length-map p.threads _;
      wide = wide;
      registers = regs.complete;
      positions = length-replicate (length c.threads) 0 ∙ k.threads;
      stands = λ t t_in.
          ready (record {
            H = no_locks p;
            plan = start;
            keeps = λ j x e. absurd (let n : None ≡ Some x = start_below [] j x e in cc);
            sized = length-replicate (length p.locks) false;
            held = λ l. nobody_holds t (length c.locks) (length p.locks) l;
            locks = length-replicate (length c.locks) None ∙ k.locks;
            eight = (All-get_or (λ row. (length row ≡ 8) × AreWords row) R t [] (rw regs.complete t_in) regs.eight).0;
            code = subst₂ (λ is i. ItemsCode p t (lines_of c t) is (no_locks p) start i) (sym (get_or-map (λ t. items_then t.body []) p.threads t no_thread))
                (sym (get_or-replicate (length c.threads) t 0 0 (rw k.threads t_in))) (k.each t t_in);
          });
    }

    begins : src (code_begin c m R) first_items ≡ begin p m
    unfolding first_items
    begins = ap (λ n. let r : Run = record { memory = m; holders = replicate n None; outputs = []; items = map (λ t. items_then t.body []) p.threads } in r) k.locks

    module _ (s : List ℕ) (s_in : IsSchedule (length p.threads) s) where
      at_end : Lifted p sets apart c (code_begin c m R) first_items s
      at_end = lifted p sets apart c s (code_begin c m R) first_items s_in coupled_start

      lands : src (core_from c (code_begin c m R) s) at_end.items ≡ after p m (core_lifted c (code_begin c m R) s)
      lands = sym at_end.runs ∙ ap (λ r. run_from r (core_lifted c (code_begin c m R) s)) begins

      no_early_end : (t : ℕ) → t < length p.threads → IsPast c (core_from c (code_begin c m R) s) t → items_of (after p m (core_lifted c (code_begin c m R) s)) t ≡ []
      no_early_end t t_in f =
          sym (ap (λ (r : Run). items_of r t) lands)
          ∙ nothing_left p t (lines_of c t) (core_of (core_from c (code_begin c m R) s) t) (get_or at_end.items t []) (at_end.coupled.stands t t_in)
          (slice_get_past (lines_of c t) (position (core_from c (code_begin c m R) s) t) f)

  -- The parts of matching -----------------------------------------------------------------------------------------

  module _ (forward : (t : ℕ) → t < length p.threads → Forward (lines_of c t)) where
    append_from : (a b : List ℕ) (s : CodeState) → core_from c s (a ++ b) ≡ core_from c (core_from c s a) b
    append_from [] b s = refl
    append_from (u ∷ a) b s = append_from a b (core_step c s u)

    threads_append : (n t : ℕ) (a : List ℕ) → IsSchedule n a → t < n → IsSchedule n (a ++ t ∷ [])
    threads_append n t [] h k = (k, tt)
    threads_append n t (u ∷ a) h k = (h.0, threads_append n t a h.1 k)

    -- threads past the end have no line and no item
    no_code : (t : ℕ) → length p.threads ≤ t → lines_of c t ≡ []
    no_code t h = get_or_past (map (λ thread. thread.lines) c.threads) t [] (rw (length-map c.threads (λ thread. thread.lines), k.threads) h)

    module _ (m : List ℕ) (R : List (List ℕ)) (regs : AreRegisters (length p.threads) R) (wide : length m ≡ length p.vars) (s : List ℕ) (s_in : IsSchedule (length p.threads) s) where
      ends_at : (t : ℕ) → t < length p.threads → (s' : List ℕ) → IsSchedule (length p.threads) s' → items_of (after p m (core_lifted c (code_begin c m R) s)) t ≡ []
          → length (lines_of c t) ≤ count_of t s' → IsPast c (core_from c (code_begin c m R) (s ++ s')) t
      ends_at t t_in s' h e n =
          subst (λ r. IsPast c r t) (sym (append_from s s' (code_begin c m R)))
          (finishes c t (forward t t_in) s' (core_from c (code_begin c m R) s) (rw (at_end m R regs wide s s_in).coupled.positions t_in)
          (idle p sets apart c t t_in (s' ++ t ∷ []) (core_from c (code_begin c m R) s) (at_end m R regs wide s s_in).items (threads_append (length p.threads) t s' h t_in)
          (at_end m R regs wide s s_in).coupled (ap (λ (r : Run). items_of r t) (lands m R regs wide s s_in) ∙ e)) n)

      spins_not : (t : ℕ) → t < length p.threads → (s' : List ℕ) → count_of t s' ≡ length (lines_of c t) → ¬ IsPast c (core_from c (code_begin c m R) (s ++ s')) t
          → 1 ≤ count_of t (core_lifted c (core_from c (code_begin c m R) s) (s' ++ t ∷ []))
      spins_not t t_in s' n f =
          no_spin c t (forward t t_in) s' (core_from c (code_begin c m R) s) (rw (at_end m R regs wide s s_in).coupled.positions t_in) n
          (subst (λ r. ¬ IsPast c r t) (append_from s s' (code_begin c m R)) f)

      past_finished : (t : ℕ) → length p.threads ≤ t → (r : CodeState) → IsPast c r t
      past_finished t h r = subst (λ ls. length ls ≤ position r t) (sym (no_code t h)) (omega arith)

      early : (t : ℕ) → IsPast c (core_from c (code_begin c m R) s) t → Dec (t < length p.threads) → items_of (after p m (core_lifted c (code_begin c m R) s)) t ≡ []
      early t f (yes i) = no_early_end m R regs wide s s_in t i f
      early t f (no i) =
          sym (ap (λ (r : Run). items_of r t) (lands m R regs wide s s_in))
          ∙ get_or_past (at_end m R regs wide s s_in).items t [] (rw (at_end m R regs wide s s_in).coupled.items (omega arith))

      spin : (s' : List ℕ) (t : ℕ) → count_of t s' ≡ length (lines_of c t) → ¬ IsPast c (core_from c (code_begin c m R) (s ++ s')) t
          → Dec (t < length p.threads) → 1 ≤ count_of t (core_lifted c (core_from c (code_begin c m R) s) (s' ++ t ∷ []))
      spin s' t n f (yes i) = spins_not t i s' n f
      spin s' t n f (no i) = absurd (f (past_finished t (omega arith) (core_from c (code_begin c m R) (s ++ s'))))

      end : (s' : List ℕ) (t : ℕ) → IsSchedule (length p.threads) s' → items_of (after p m (core_lifted c (code_begin c m R) s)) t ≡ [] → length (lines_of c t) ≤ count_of t s'
          → Dec (t < length p.threads) → IsPast c (core_from c (code_begin c m R) (s ++ s')) t
      end s' t h e n (yes i) = ends_at t i s' h e n
      end s' t h e n (no i) = past_finished t (omega arith) (core_from c (code_begin c m R) (s ++ s'))

      -- The same of the machine's own runs ------------------------------------------------------------------------

      run_is : (us : List ℕ) → code_after c m R us ≡ core_from c (code_begin c m R) us
      run_is us = same_from c us (code_begin c m R)

      schedule_is : machine.lifted c m R s ≡ core_lifted c (code_begin c m R) s
      schedule_is = same_lifted c s (code_begin c m R)

      past_is_finished : (us : List ℕ) (t : ℕ) → IsPast c (core_from c (code_begin c m R) us) t → IsFinished c (code_after c m R us) t
      past_is_finished us t h =
          subst (λ r. IsFinished c r t) (sym (run_is us)) (slice_get_past (lines_of c t) (position (core_from c (code_begin c m R) us) t) h)

      finished_is_past : (us : List ℕ) (t : ℕ) → IsFinished c (code_after c m R us) t → IsPast c (core_from c (code_begin c m R) us) t
      finished_is_past us t h = none_past (lines_of c t) (position (core_from c (code_begin c m R) us) t) (subst (λ r. IsFinished c r t) (run_is us) h)

      source_is : after p m (machine.lifted c m R s) ≡ after p m (core_lifted c (code_begin c m R) s)
      source_is = ap (after p m) schedule_is

      one_run : src (code_after c m R s) (at_end m R regs wide s s_in).items ≡ after p m (machine.lifted c m R s)
      one_run = ap (λ r. src r (at_end m R regs wide s s_in).items) (run_is s) ∙ lands m R regs wide s s_in ∙ sym source_is

      steps_are : (t : ℕ) (s' : List ℕ) → count_of t (core_lifted c (core_from c (code_begin c m R) s) (s' ++ t ∷ []))
          ≡ entries_of t (machine.lifted_from c (code_after c m R s) (s' ++ t ∷ []))
      steps_are t s' =
          counts_entries t (core_lifted c (core_from c (code_begin c m R) s) (s' ++ t ∷ []))
          ∙ ap (entries_of t) (sym (same_lifted c (s' ++ t ∷ []) (core_from c (code_begin c m R) s)) ∙ ap (λ r. machine.lifted_from c r (s' ++ t ∷ [])) (sym (run_is s)))

      pub matches_after : MatchesAfter p c m R s
      matches_after = record {
        memory = ap (λ (r : Run). r.memory) one_run;
        holders = ap (λ (r : Run). r.holders) one_run;
        outputs = ap (λ (r : Run). r.outputs) one_run;
        ended = λ t f. ap (λ (r : Run). items_of r t) source_is ∙ early t (finished_is_past s t f) (dec_lt t (length p.threads));
        progress = λ t s' h n f.
            subst (λ n. 1 ≤ n) (steps_are t s')
            (spin s' t (counts_entries t s' ∙ n) (λ b. f (past_is_finished (s ++ s') t b)) (dec_lt t (length p.threads)));
        ends = λ t s' h e n.
            past_is_finished (s ++ s') t
            (end s' t h (ap (λ (r : Run). items_of r t) (sym source_is) ∙ e) (subst (λ n. length (lines_of c t) ≤ n) (sym (counts_entries t s')) n) (dec_lt t (length p.threads)));
      }

  pub secure_code : IsSecure p → IsSecureCode p c
  secure_code secure m1 m2 i1 i2 st rows1 rows2 r1 r2 s s_in =
      let e = twins_run p sets apart c s (code_begin c m1 rows1) (code_begin c m2 rows2) first_items first_items s_in
      (record {
        left = coupled_start m1 rows1 r1 i1.complete;
        right = coupled_start m2 rows2 r2 i2.complete;
        positions = refl;
        future = λ us h.
            subst₂ (λ a b. StatesAgree p (run_from a us) (run_from b us)) (sym (begins m1 rows1 r1 i1.complete)) (sym (begins m2 rows2 r2 i2.complete)) (secure m1 m2 i1 i2 st us h);
      }) in
      subst₂ (CodeStatesAgree p) (sym (same_from c s (code_begin c m1 rows1))) (sym (same_from c s (code_begin c m2 rows2)))
      (record { memories = (e.twins.future [] tt).memories; outputs = (e.twins.future [] tt).outputs; threads = λ t. ap (λ (ps : List ℕ). get_or ps t 0) e.twins.positions })
