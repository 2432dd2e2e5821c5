-- Whole runs of code against runs of the source under the lifted schedule.
use Rattle.std.proofs.Common.{◌≡◌, ◌≢◌, ℕ, zero, suc, ◌<◌, List, [], ◌∷◌, ◌++◌, length, get_or, set, replicate, Bool, refl, sym, ◌∙◌, ap, ap₂, subst, length-set, get_or-set_same, get_or-set_other}
use Rattle.std.proofs.lemmas.List.{set-get_or, set-set}
use Rattle.std.proofs.Math.Decide.{ℕ_discrete}
use Rattle.cov_expr.specs.Words.{IsSchedule}
use Rattle.cov_ast.specs.Plain.{Plain}
use Rattle.flow_model.specs.Agreement.{SameAt}
use Rattle.flow_model.specs.Composable.{HasCompatibleModes}
use Rattle.flow_model.specs.Holdings.{IsStableNow}
use Rattle.flow_model.specs.Source.{Item, Holders, holder, Outputs, is_held_by, Local, local, turn, Run, run_from, step}
use Rattle.mode_compat.specs.HeldSets.{AreHeldBy}
use Rattle.regalloc.specs.Plan.{Plan}
use Rattle.compiled_code.proofs.Cores.{Core, core, core_line, core_of, core_step, core_from, core_lifted, exec, exec_same}
use Rattle.compiled_code.proofs.Shape.{IsStable, Record, Yields}
use Rattle.compiled_code.proofs.Steps.{turned, AreSets, Evaluating, StoreAt, BranchAt, OutAt, Stands, ready, storing, testing, emitting, Matched, matched}
use Rattle.risc_machine.specs.Machine.{CodeState, line_of, lines_of, weight_of}
use Rattle.risc_machine.specs.declared.parts.Line.{Line}
use Rattle.risc_machine.specs.declared.parts.Parts.{Parts}

module _ (p : Plain) (t : ℕ) (sets : AreSets p t) (lines : List Line) where
  -- What others may do --------------------------------------------------------------------------------------------

  module _ (c : Core) (m : List ℕ) (h : Holders) (o : Outputs) (long : length h ≡ length p.locks) (same_held : (l : ℕ) → is_held_by (holder h l) t ≡ is_held_by (holder c.holders l) t)
      (kept : (x : ℕ) → IsStableNow p c.holders t x → SameAt m c.memory x) where
    still : (H : List Bool) → AreHeldBy c.holders t H → AreHeldBy h t H
    still H k l = k l ∙ sym (same_held l)

    record_left : (H : List Bool) → AreHeldBy c.holders t H → (P : Plan) (r : List ℕ) → Record p t P H r c.memory → Record p t P H r m
    record_left H held P r k j x e = let q = k j x e in (q.0, q.1 ∙ sym (kept x (((sets c.holders H held).stable x).0 q.0)))

    evaluating_left : (H : List Bool) (v : ℕ) (N : Plan → ℕ → ℕ → Type 0) → Evaluating p t lines c H v N → Evaluating p t lines (core m h o c.registers c.position) H v N
    evaluating_left H v N g =
        let same : exec c.registers m g.cs ≡ exec c.registers c.memory g.cs =
        exec_same (IsStable p t H) c.registers m c.memory (λ x s. kept x (((sets c.holders H g.held).stable x).0 s)) g.cs g.straight in
        record {
          cs = g.cs;
          after = g.after;
          result = g.result;
          sized = g.sized;
          held = still H g.held;
          locks = long;
          eight = g.eight;
          at_rest = g.at_rest;
          straight = g.straight;
          gives = subst (λ r. Yields p t H g.after g.result v r m) (sym same)
              (record { result = g.gives.result; keeps = record_left H g.held g.after (exec c.registers c.memory g.cs) g.gives.keeps });
        }

    stands_left : (is : List Item) → Stands p t lines c is → Stands p t lines (core m h o c.registers c.position) is
    stands_left is (ready r) = ready (record {
      H = r.H;
      plan = r.plan;
      sized = r.sized;
      held = still r.H r.held;
      locks = long;
      eight = r.eight;
      keeps = record_left r.H r.held r.plan c.registers r.keeps;
      code = r.code;
    })
    stands_left is (storing {x = x} {v = v} {is = js} H w g) = storing H w (evaluating_left H v (StoreAt p t lines H x js 1) g)
    stands_left is (testing {v = v} {a = a} {b = b} {is = js} H g) = testing H (evaluating_left H v (BranchAt p t lines H a b js 1) g)
    stands_left is (emitting {v = v} {is = js} H g) = emitting H (evaluating_left H v (OutAt p t lines H js) g)

-- Some turns of one thread ----------------------------------------------------------------------------------------

abbrev pub src : CodeState → List (List Item) → Run
src s js = record { memory = s.memory; holders = s.holders; outputs = s.outputs; items = js }

-- the run with thread u at c
abbrev pub with_local : List (List Item) → ℕ → Local → Run
with_local js u c = record { memory = c.memory; holders = c.holders; outputs = c.outputs; items = set js u c.items }

same_items : (m : List ℕ) (h : Holders) (o : Outputs) (is js : List (List Item)) → is ≡ js
    → ◌≡◌ {A = Run} (record { memory = m; holders = h; outputs = o; items = is }) (record { memory = m; holders = h; outputs = o; items = js })
same_items m h o is js e = ap (λ (is : List (List Item)). let r : Run = record { memory = m; holders = h; outputs = o; items = is } in r) e

same_run : (m n : List ℕ) (h k : Holders) (o q : Outputs) (js : List (List Item)) → m ≡ n → h ≡ k → o ≡ q
    → ◌≡◌ {A = Run} (record { memory = m; holders = h; outputs = o; items = js }) (record { memory = n; holders = k; outputs = q; items = js })
same_run m n h k o q js a b c = λ i. record { memory = a i; holders = b i; outputs = c i; items = js }

pub run_turns : (w u : ℕ) (m : List ℕ) (h : Holders) (o : Outputs) (js : List (List Item)) → u < length js
    → run_from (record { memory = m; holders = h; outputs = o; items = js }) (replicate w u) ≡ with_local js u (turned u w (local m h o (get_or js u [])))
run_turns zero u m h o js n = same_items m h o js (set js u (get_or js u [])) (sym (set-get_or js u []))
run_turns (suc w) u m h o js n =
    let c = turn u m h o (get_or js u []) in
    run_turns w u c.memory c.holders c.outputs (set js u c.items) (rw length-set n)
    ∙ ap (λ is. with_local (set js u c.items) u (turned u w (local c.memory c.holders c.outputs is))) (get_or-set_same js u c.items [] n)
    ∙ same_items _ _ _ _ _ (set-set js u c.items (turned u w c).items)

-- Whole runs ------------------------------------------------------------------------------------------------------

module _ (p : Plain) (sets : (t : ℕ) → AreSets p t) (apart : HasCompatibleModes p) (c : Parts) where
  pub record Coupled (s : CodeState) (js : List (List Item)) : Type 0 where
    pub locks : length s.holders ≡ length p.locks
    pub wide : length s.memory ≡ length p.vars
    pub items : length js ≡ length p.threads
    pub registers : length s.registers ≡ length p.threads
    pub positions : length s.positions ≡ length p.threads
    pub stands : (t : ℕ) → t < length p.threads → Stands p t (lines_of c t) (core_of s t) (get_or js t [])

  module _ (s : CodeState) (js : List (List Item)) (u : ℕ) (u_in : u < length p.threads) (k : Coupled s js) where
    pub now : Matched p u (lines_of c u) (core_of s u) (get_or js u []) (line_of c s u)
    now = matched p u (sets u) (lines_of c u) (core_of s u) (get_or js u []) k.wide (k.stands u u_in)

    after_u : Core
    after_u = core_line u (core_of s u) (line_of c s u)

    pub next_items : List (List Item)
    next_items = set js u now.next.items

    pub next_is : get_or next_items u [] ≡ now.next.items
    unfolding next_items
    next_is = get_or-set_same js u now.next.items [] (rw k.items u_in)

    pub next_other : (t : ℕ) → t ≢ u → get_or next_items t [] ≡ get_or js t []
    unfolding next_items
    next_other t n = get_or-set_other js u t now.next.items [] n

    locks_after : length after_u.holders ≡ length p.locks
    unfolding after_u
    locks_after = ap length now.holders ∙ now.leaves.locks ∙ k.locks

    wide_after : length after_u.memory ≡ length p.vars
    unfolding after_u
    wide_after = ap length now.memory ∙ now.leaves.wide ∙ k.wide

    other : (t : ℕ) → t < length p.threads → t ≢ u → Stands p t (lines_of c t) (core_of (core_step c s u) t) (get_or next_items t [])
    unfolding after_u next_items
    other t t_in n =
        subst (λ is. Stands p t (lines_of c t) (core_of (core_step c s u) t) is) (sym (get_or-set_other js u t now.next.items [] n))
        (subst (λ x. Stands p t (lines_of c t) x (get_or js t []))
        (sym (ap₂ (core after_u.memory after_u.holders after_u.outputs) (get_or-set_other s.registers u t after_u.registers [] n) (get_or-set_other s.positions u t after_u.position 0 n)))
        (stands_left p t (sets t) (lines_of c t) (core_of s t) after_u.memory after_u.holders after_u.outputs locks_after
        (λ l. ap (λ (h : Holders). is_held_by (holder h l) t) now.holders ∙ now.leaves.others t n l)
        (λ x st. ap (λ m. get_or m x 0) now.memory ∙ now.leaves.words x (λ w. apart s.holders t u x u_in n w st))
        (get_or js t []) (k.stands t t_in)))

    same : Stands p u (lines_of c u) (core_of (core_step c s u) u) (get_or next_items u [])
    unfolding after_u next_items
    same =
        subst (λ is. Stands p u (lines_of c u) (core_of (core_step c s u) u) is) (sym (get_or-set_same js u now.next.items [] (rw k.items u_in)))
        (subst (λ x. Stands p u (lines_of c u) x now.next.items)
        (sym (ap₂ (core after_u.memory after_u.holders after_u.outputs)
        (get_or-set_same s.registers u after_u.registers [] (rw k.registers u_in)) (get_or-set_same s.positions u after_u.position 0 (rw k.positions u_in))))
        now.stands)

    pub coupled_step : Coupled (core_step c s u) next_items
    unfolding after_u next_items
    coupled_step = record {
      locks = locks_after;
      wide = wide_after;
      items = length-set js u now.next.items ∙ k.items;
      registers = length-set s.registers u after_u.registers ∙ k.registers;
      positions = length-set s.positions u after_u.position ∙ k.positions;
      stands = λ t t_in. at t t_in (ℕ_discrete t u);
    }
      where
        at : (t : ℕ) → t < length p.threads → Dec (t ≡ u) → Stands p t (lines_of c t) (core_of (core_step c s u) t) (get_or next_items t [])
        at t t_in (yes e) = subst (λ t. Stands p t (lines_of c t) (core_of (core_step c s u) t) (get_or next_items t [])) (sym e) same
        at t t_in (no n) = other t t_in n

    -- the source makes as many steps as the weight
    pub follows_step : run_from (src s js) (replicate (weight_of (line_of c s u)) u) ≡ src (core_step c s u) next_items
    unfolding after_u next_items
    follows_step =
        run_turns (weight_of (line_of c s u)) u s.memory s.holders s.outputs js (rw k.items u_in)
        ∙ ap (with_local js u) (sym now.turns)
        ∙ same_run _ _ _ _ _ _ _ (sym now.memory) (sym now.holders) (sym now.outputs)

  pub run_append : (s : Run) (a b : List ℕ) → run_from s (a ++ b) ≡ run_from (run_from s a) b
  run_append s [] b = refl
  run_append s (t ∷ a) b = run_append (step s t) a b

  -- the source under the lifted schedule
  pub record Lifted (s : CodeState) (js : List (List Item)) (us : List ℕ) : Type 0 where
    pub items : List (List Item)
    pub runs : run_from (src s js) (core_lifted c s us) ≡ src (core_from c s us) items
    pub coupled : Coupled (core_from c s us) items

  pub lifted : (us : List ℕ) (s : CodeState) (js : List (List Item)) → IsSchedule (length p.threads) us → Coupled s js → Lifted s js us
  lifted [] s js h k = record { items = js; runs = refl; coupled = k }
  lifted (u ∷ us) s js h k =
      let l = lifted us (core_step c s u) (next_items s js u h.0 k) h.1 (coupled_step s js u h.0 k) in
      record {
        items = l.items;
        runs = run_append (src s js) (replicate (weight_of (line_of c s u)) u) (core_lifted c (core_step c s u) us)
            ∙ ap (λ r. run_from r (core_lifted c (core_step c s u) us)) (follows_step s js u h.0 k) ∙ l.runs;
        coupled = l.coupled;
      }
