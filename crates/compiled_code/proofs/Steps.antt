-- One instruction against the source steps that it stands for.
use Rattle.std.proofs.Common.{◌≡◌, ◌≢◌, ℕ, zero, suc, ◌<◌, List, [], ◌∷◌, ◌++◌, length, get_or, set, Bool, true, false, if◌then◌else◌, Option, Some, None, IfSome, refl, sym, ◌∙◌, ap, subst, IsTrue, inl, inr, ⊎_elim, slice_get, is_some, length-set, get_or-set_same, get_or-set_other, eq-eqb, le_refl}
use Rattle.std.specs.Option.{option_map_or}
use Rattle.std.proofs.Math.Decide.{ℕ_discrete}
use Rattle.std.proofs.lemmas.Bool.{ne_eqb}
use Rattle.std.proofs.lemmas.Option.{slice_get_past}
use Rattle.cov_expr.specs.Term.{Term, value, is_set}
use Rattle.cov_ast.specs.LocksAlong.{locks_after}
use Rattle.cov_ast.specs.Plain.{Cmd, assign, lock, branch, loop, output, Cmds, none, next, ◌then_all◌, Plain}
use Rattle.cov_ast.specs.Tables.{has}
use Rattle.flow_model.specs.Agreement.{SameAt}
use Rattle.flow_model.specs.Game.{turn_of}
use Rattle.flow_model.specs.Holdings.{IsWritableNow}
use Rattle.flow_model.specs.Source.{Item, run, put, test, emit, Holders, holder, Outputs, Local, local, items_then, turn, is_held_by, after_lock}
use Rattle.flow_model.proofs.Holders.{held_is}
use Rattle.mode_compat.specs.HeldSets.{AreHeldBy, AreSetsOf}
use Rattle.mode_state.specs.Sets.{is_stable, may_write}
use Rattle.regalloc.specs.Plan.{Plan, start}
use Rattle.statement_parts.specs.PlainParts.{parts}
use Rattle.compiled_code.proofs.Cores.{Core, core, core_instr, core_line, exec_one, exec, IsStraight, Straight, exec_long, straight_step}
use Rattle.compiled_code.proofs.Plans.{start_below}
use Rattle.compiled_code.proofs.Shape.{LineIs, Reach, here, hop, LinesFrom, reach_map, IsStable, Record, AfterStore, Yields, ExprCode, EvalCode, LineCode, CmdCode, BlockCode, ItemsCode, items_map, expr_map, eval_map, cmd_map, block_map, block_then, block_append}
use Rattle.risc_machine.specs.Machine.{weight_of}
use Rattle.risc_machine.specs.declared.parts.Instr.{Instr}
use Rattle.risc_machine.specs.declared.parts.Instr.TheVariants.{Store, Jump, Jz, Acquire, Out}
use Rattle.risc_machine.specs.declared.parts.Line.{Line}

-- some turns of t
abbrev pub turned : ℕ → ℕ → Local → Local
turned t zero c = c
turned t (suc w) c = turned t w (turn_of t c)

-- what is told of the locks that thread t holds says what is stable and writable for it
abbrev pub AreSets : Plain → ℕ → Type 0
AreSets p t = (h : Holders) (H : List Bool) → AreHeldBy h t H → AreSetsOf p h t H

-- What turns of a thread leave as it was: words that aren't writable for it, the locks of others, and lengths.
pub record Leaves (p : Plain) (t : ℕ) (m : List ℕ) (h : Holders) (r : Local) : Type 0 where
  pub words : (x : ℕ) → ¬ IsWritableNow p h t x → SameAt r.memory m x
  pub others : (u : ℕ) → u ≢ t → (l : ℕ) → is_held_by (holder r.holders l) u ≡ is_held_by (holder h l) u
  pub locks : length r.holders ≡ length h
  pub wide : length r.memory ≡ length m

quiet : (p : Plain) (t : ℕ) (m : List ℕ) (h : Holders) (o : Outputs) (is : List Item) → Leaves p t m h (local m h o is)
quiet p t m h o is = record { words = λ x n. refl; others = λ u d l. refl; locks = refl; wide = refl }

-- a lock is taken or given back
switched : (p : Plain) (t : ℕ) (m : List ℕ) (h : Holders) (said : Outputs) (l : ℕ) (o : Option ℕ) (is : List Item) → l < length h
    → ((u : ℕ) → u ≢ t → is_held_by (holder h l) u ≡ false) → ((u : ℕ) → u ≢ t → is_held_by o u ≡ false) → Leaves p t m h (local m (set h l o) said is)
switched p t m h said l o is inside before after = record {
  words = λ x n. refl;
  others = λ u d j. go u d j (ℕ_discrete j l);
  locks = length-set h l o;
  wide = refl;
}
  where
    go : (u : ℕ) → u ≢ t → (j : ℕ) → Dec (j ≡ l) → is_held_by (holder (set h l o) j) u ≡ is_held_by (holder h j) u
    go u d j (yes i) =
        ap (λ (q : Option ℕ). is_held_by q u) (ap (holder (set h l o)) i ∙ get_or-set_same h l o None inside)
        ∙ after u d ∙ sym (before u d) ∙ ap (λ k. is_held_by (holder h k) u) (sym i)
    go u d j (no n) = ap (λ (q : Option ℕ). is_held_by q u) (get_or-set_other h l j o None n)

module _ (p : Plain) (t : ℕ) where
  -- a lock that is taken or given back, with what is told of it
  held_switched : (h : Holders) (l : ℕ) (o : Option ℕ) (H : List Bool) (b : Bool) → length h ≡ length p.locks → length H ≡ length p.locks → l < length p.locks
      → b ≡ is_held_by o t → AreHeldBy h t H → AreHeldBy (set h l o) t (set H l b)
  held_switched h l o H b nh nH inside e held j = go (ℕ_discrete j l)
    where
      go : Dec (j ≡ l) → has (set H l b) j ≡ is_held_by (holder (set h l o) j) t
      go (yes i) =
          ap (has (set H l b)) i ∙ get_or-set_same H l b false (rw nH inside) ∙ e
          ∙ sym (ap (λ (q : Option ℕ). is_held_by q t) (ap (holder (set h l o)) i ∙ get_or-set_same h l o None (rw nh inside)))
      go (no n) =
          get_or-set_other H l j b false n ∙ held j ∙ sym (ap (λ (q : Option ℕ). is_held_by q t) (get_or-set_other h l j o None n))

  -- One instruction -----------------------------------------------------------------------------------------------

  module _ (lines : List Line) where
    pub record Ready (c : Core) (is : List Item) : Type 0 where
      pub H : List Bool
      pub plan : Plan
      pub sized : length H ≡ length p.locks
      pub held : AreHeldBy c.holders t H
      pub locks : length c.holders ≡ length p.locks
      pub eight : length c.registers ≡ 8
      pub keeps : Record p t plan H c.registers c.memory
      pub code : ItemsCode p t lines is H plan c.position

    -- the rest of the code of an expression, whose value is v, and N behind it
    pub record Evaluating (c : Core) (H : List Bool) (v : ℕ) (N : Plan → ℕ → ℕ → Type 0) : Type 0 where
      pub cs : List Instr
      pub after : Plan
      pub result : ℕ
      pub sized : length H ≡ length p.locks
      pub held : AreHeldBy c.holders t H
      pub locks : length c.holders ≡ length p.locks
      pub eight : length c.registers ≡ 8
      pub at_rest : LinesFrom lines cs c.position (N after result)
      pub straight : Straight (IsStable p t H) cs
      pub gives : Yields p t H after result v (exec c.registers c.memory cs) c.memory

    abbrev pub StoreAt : List Bool → ℕ → List Item → ℕ → Plan → ℕ → ℕ → Type 0
    StoreAt H x is w P d j = LineIs lines j w (Store x d) × (R : Plan) × AfterStore p t H P x d R × ItemsCode p t lines is H R (suc j)

    abbrev pub BranchAt : List Bool → Cmds → Cmds → List Item → ℕ → Plan → ℕ → ℕ → Type 0
    BranchAt H a b is w P d j = (z : ℕ) × LineIs lines j w (Jz d z) × ItemsCode p t lines (items_then a is) H P (suc j) × ItemsCode p t lines (items_then b is) H P z

    abbrev pub OutAt : List Bool → List Item → Plan → ℕ → ℕ → Type 0
    OutAt H is P d j = LineIs lines j 1 (Out d) × ItemsCode p t lines is H P (suc j)

    -- code at c against the items of t
    pub data Stands (c : Core) : List Item → Type 0 where
      ready : {is : List Item} → Ready c is → Stands c is
      storing : {at x v : ℕ} {is : List Item} (H : List Bool) → IsTrue (may_write p t H x) → Evaluating c H v (StoreAt H x is 1) → Stands c (put at x v ∷ is)
      testing : {at v : ℕ} {a b : Cmds} {is : List Item} (H : List Bool) → Evaluating c H v (BranchAt H a b is 1) → Stands c (test at v a b ∷ is)
      emitting : {at v : ℕ} {is : List Item} (H : List Bool) → Evaluating c H v (OutAt H is) → Stands c (emit at v ∷ is)

    -- the instruction of line o from c, against as many turns as its weight from the same memory, holders and outputs
    pub record Matched (c : Core) (is : List Item) (o : Option Line) : Type 0 where
      pub next : Local
      pub turns : next ≡ turned t (weight_of o) (local c.memory c.holders c.outputs is)
      pub leaves : Leaves p t c.memory c.holders next
      pub memory : (core_line t c o).memory ≡ next.memory
      pub holders : (core_line t c o).holders ≡ next.holders
      pub outputs : (core_line t c o).outputs ≡ next.outputs
      pub stands : Stands (core_line t c o) next.items

  stored_record : (H : List Bool) (P R : Plan) (r m : List ℕ) (x d v : ℕ) → length m ≡ length p.vars → get_or r d 0 ≡ v → Record p t P H r m → AfterStore p t H P x d R
      → Record p t R H r (set m x v)
  stored_record H P R r m x d v wide g k a j y e = ⊎_elim
      (λ n. (
        subst (λ y. IsTrue (is_stable p t H y)) (sym n.1) n.2,
        ap (λ j. get_or r j 0) n.0 ∙ g ∙ sym (get_or-set_same m x v 0 (rw wide n.3)) ∙ ap (λ y. get_or (set m x v) y 0) (sym n.1),
      ))
      (λ n. let q = k j y n.1 in (q.0, q.1 ∙ sym (get_or-set_other m x y v 0 n.0))) (a j y e)

module _ (p : Plain) (t : ℕ) (sets : AreSets p t) (lines : List Line) where
  module _ (m : List ℕ) (h : Holders) (o : Outputs) (r : List ℕ) (H : List Bool) (wide : length m ≡ length p.vars) (sized : length H ≡ length p.locks)
      (held : AreHeldBy h t H) (locks : length h ≡ length p.locks) (eight : length r ≡ 8) where
    go_on : (P : Plan) (is : List Item) (i : ℕ) → Record p t P H r m → ItemsCode p t lines is H P i → Stands p t lines (core m h o r i) is
    go_on P is i keeps k =
        ready (record { H = H; plan = P; sized = sized; held = held; locks = locks; eight = eight; keeps = keeps; code = k })

    hop_matched : (is : List Item) (i k : ℕ) → LineIs lines i 0 (Jump k) → Stands p t lines (core m h o r k) is → Matched p t lines (core m h o r i) is (slice_get lines i)
    hop_matched is i k e s =
        subst (λ l. Matched p t lines (core m h o r i) is l) (sym e)
        (record { next = local m h o is; turns = refl; leaves = quiet p t m h o is; memory = refl; holders = refl; outputs = refl; stands = s })

    end_matched : (P : Plan) {i : ℕ} → Record p t P H r m → Reach lines (λ j. j ≡ length lines) i → Matched p t lines (core m h o r i) [] (slice_get lines i)
    end_matched P keeps (here {i = i} e) =
        subst (λ l. Matched p t lines (core m h o r i) [] l) (sym (ap (slice_get lines) e ∙ slice_get_past lines (length lines) (le_refl _)))
        (record {
          next = local m h o [];
          turns = refl;
          leaves = quiet p t m h o [];
          memory = refl;
          holders = refl;
          outputs = refl;
          stands = go_on P [] i keeps (here e);
        })
    end_matched P keeps (hop {i = i} {k = k} e s) = hop_matched [] i k e (go_on P [] k keeps s)

    -- the first instruction of an expression
    first_matched : (P : Plan) (i : ℕ) (e : Term) (N : Plan → ℕ → ℕ → Type 0) → Record p t P H r m → ExprCode p t lines H P i e N → (c : Item) (is : List Item) (g : Item)
        → turn t m h o (c ∷ is) ≡ local m h o (g ∷ is)
        → ((c : Core) → Evaluating p t lines c H (value e m) N → Stands p t lines c (g ∷ is))
        → Matched p t lines (core m h o r i) (c ∷ is) (slice_get lines i)
    first_matched P i e N keeps k c is g turned_is f =
        subst (λ l. Matched p t lines (core m h o r i) (c ∷ is) l) (sym k.at_first)
        (record {
          next = local m h o (g ∷ is);
          turns = sym turned_is;
          leaves = quiet p t m h o (g ∷ is);
          memory = ap (λ (c : Core). c.memory) now;
          holders = ap (λ (c : Core). c.holders) now;
          outputs = ap (λ (c : Core). c.outputs) now;
          stands = subst (λ c. Stands p t lines c (g ∷ is)) (sym now)
              (f (core m h o (exec_one r m k.first) (suc i))
              (record {
                cs = k.rest;
                after = k.after;
                result = k.result;
                sized = sized;
                held = held;
                locks = locks;
                eight = exec_long r m k.first eight;
                at_rest = k.at_rest;
                straight = k.rest_straight;
                gives = k.right r m eight keeps;
              }));
        })
      where
        now : core_instr t (core m h o r i) k.first ≡ core m h o (exec_one r m k.first) (suc i)
        now = straight_step t (core m h o r i) k.first k.first_straight

    -- a store or a branch, which stands for w turns
    store_matched : (P : Plan) (items : List Item) (w i x d' v : ℕ) (is : List Item) → turned t w (local m h o items) ≡ local (set m x v) h o is → IsTrue (may_write p t H x)
        → StoreAt p t lines H x is w P d' i → get_or r d' 0 ≡ v → Record p t P H r m → Matched p t lines (core m h o r i) items (slice_get lines i)
    store_matched P items w i x d' v is turns may n g keeps =
        subst (λ l. Matched p t lines (core m h o r i) items l) (sym n.0)
        (record {
          next = local (set m x v) h o is;
          turns = sym turns;
          leaves = record { words = λ y n. stored y n (ℕ_discrete y x); others = λ u d l. refl; locks = refl; wide = length-set m x v };
          memory = ap (set m x) g;
          holders = refl;
          outputs = refl;
          stands = subst (λ v. Stands p t lines (core (set m x v) h o r (suc i)) is) (sym g)
              (ready (record {
                H = H;
                plan = n.1;
                sized = sized;
                held = held;
                locks = locks;
                eight = eight;
                keeps = stored_record p t H P n.1 r m x d' v wide g keeps n.2;
                code = n.3;
              }));
        })
      where
        stored : (y : ℕ) → ¬ IsWritableNow p h t y → Dec (y ≡ x) → SameAt (set m x v) m y
        stored y n (yes e) = absurd (n (subst (IsWritableNow p h t) (sym e) (((sets h H held).writable x).0 may)))
        stored y n (no d) = get_or-set_other m x y v 0 d

    branch_to : (P : Plan) (i z : ℕ) (a b : Cmds) (is : List Item) → Record p t P H r m → ItemsCode p t lines (items_then a is) H P (suc i) → ItemsCode p t lines (items_then b is) H P z
        → (v w : ℕ) → w ≡ v → Stands p t lines (core m h o r (if is_set w then suc i else z)) (items_then (if is_set v then a else b) is)
    branch_to P i z a b is keeps k n zero w e =
        subst (λ w. Stands p t lines (core m h o r (if is_set w then suc i else z)) (items_then b is)) (sym e) (go_on P (items_then b is) z keeps n)
    branch_to P i z a b is keeps k n (suc v) w e =
        subst (λ w. Stands p t lines (core m h o r (if is_set w then suc i else z)) (items_then a is)) (sym e) (go_on P (items_then a is) (suc i) keeps k)

    jz_matched : (P : Plan) (items : List Item) (w i d' v : ℕ) (a b : Cmds) (is : List Item) → turned t w (local m h o items) ≡ local m h o (items_then (if is_set v then a else b) is)
        → BranchAt p t lines H a b is w P d' i → get_or r d' 0 ≡ v → Record p t P H r m → Matched p t lines (core m h o r i) items (slice_get lines i)
    jz_matched P items w i d' v a b is turns n g keeps =
        subst (λ l. Matched p t lines (core m h o r i) items l) (sym n.1)
        (record {
          next = local m h o (items_then (if is_set v then a else b) is);
          turns = sym turns;
          leaves = quiet p t m h o (items_then (if is_set v then a else b) is);
          memory = refl;
          holders = refl;
          outputs = refl;
          stands = branch_to P i n.0 a b is keeps n.2 n.3 v (get_or r d' 0) g;
        })

    out_matched : (P : Plan) (at v i d' : ℕ) (is : List Item) → OutAt p t lines H is P d' i → get_or r d' 0 ≡ v → Record p t P H r m
        → Matched p t lines (core m h o r i) (emit at v ∷ is) (slice_get lines i)
    out_matched P at v i d' is n g keeps =
        subst (λ l. Matched p t lines (core m h o r i) (emit at v ∷ is) l) (sym n.0)
        (record {
          next = local m h (o ++ v ∷ []) is;
          turns = refl;
          leaves = record { words = λ x n. refl; others = λ u d l. refl; locks = refl; wide = refl };
          memory = refl;
          holders = refl;
          outputs = ap (λ w. o ++ w ∷ []) g;
          stands = ready (record { H = H; plan = P; sized = sized; held = held; locks = locks; eight = eight; keeps = keeps; code = n.1 });
        })

    -- the holders g, with the locks K that t holds of them, in place of h and H
    record Switched (g : Holders) (K : List Bool) : Type 0 where
      leaves : (is : List Item) → Leaves p t m h (local m g o is)
      are_held : AreHeldBy g t K
      all_told : length K ≡ length p.locks
      all_there : length g ≡ length p.locks

    unswitched : Switched h H
    unswitched = record { leaves = λ is. quiet p t m h o is; are_held = held; all_told = sized; all_there = locks }

    -- a lock with another holder
    lock_switched : (l : ℕ) (q : Option ℕ) (b : Bool) → l < length p.locks → ((u : ℕ) → u ≢ t → is_held_by (holder h l) u ≡ false) → ((u : ℕ) → u ≢ t → is_held_by q u ≡ false)
        → b ≡ is_held_by q t → Switched (set h l q) (set H l b)
    lock_switched l q b inside before after same = record {
      leaves = λ is. switched p t m h o l q is (rw locks inside) before after;
      are_held = held_switched p t h l q H b locks sized inside same held;
      all_told = length-set H l b ∙ sized;
      all_there = length-set h l q ∙ locks;
    }

    -- a lock that t may give back is held by it
    still_mine : (l : Option ℕ) → IfSome l (λ l. (l < length p.locks) × IsTrue (has H l)) → IfSome l (λ l. is_held_by (holder h l) t ≡ true)
    still_mine None k = tt
    still_mine (Some l) k = sym (held l) ∙ k.1

    -- without the lock that is given back, if there is one
    freed : (l : Option ℕ) → IfSome l (λ l. (l < length p.locks) × IsTrue (has H l)) → Switched (option_map_or (λ l. set h l None) l h) (option_map_or (λ l. set H l false) l H)
    freed None k = unswitched
    freed (Some l) k =
        lock_switched l None false k.0 (λ u d. ap (λ (q : Option ℕ). is_held_by q u) (held_is (holder h l) t (still_mine (Some l) k)) ∙ ne_eqb t u (λ i. d (sym i)))
        (λ u d. refl) refl

    module _ (P : Plan) (keeps : Record p t P H r m) where
      -- a line that leaves words and outputs, against the step of a statement that evaluates nothing
      line_matched : (c : Cmd) (at i : ℕ) (is : List Item) → LineCode p t lines c H P i (ItemsCode p t lines is) → (x : Instr) (g : Holders) → LineIs lines i 1 x
          → core_instr t (core m h o r i) x ≡ core m g o r (suc i) → turn t m h o (run at c ∷ is) ≡ local m g o is → Switched g (locks_after c H)
          → Matched p t lines (core m h o r i) (run at c ∷ is) (slice_get lines i)
      line_matched c at i is k x g n now turns w =
          subst (λ l. Matched p t lines (core m h o r i) (run at c ∷ is) l) (sym n)
          (record {
            next = local m g o is;
            turns = sym turns;
            leaves = w.leaves is;
            memory = ap (λ (c : Core). c.memory) now;
            holders = ap (λ (c : Core). c.holders) now;
            outputs = ap (λ (c : Core). c.outputs) now;
            stands = subst (λ c. Stands p t lines c is) (sym now)
                (ready (record {
                  H = locks_after c H;
                  plan = k.after;
                  sized = w.all_told;
                  held = w.are_held;
                  locks = w.all_there;
                  eight = eight;
                  keeps = λ j x e. let q = k.left j x e in let s = keeps j x q.0 in (q.1 s.0, s.1);
                  code = k.follows;
                }));
          })

      lock_matched : (i at l : ℕ) (is : List Item) → CmdCode p t lines (lock l) H P i (ItemsCode p t lines is) → (q : Option ℕ) → holder h l ≡ q
          → Matched p t lines (core m h o r i) (run at (lock l) ∷ is) (slice_get lines i)
      lock_matched i at l is k None j =
          line_matched (lock l) at i is k (Acquire l) (set h l (Some t)) k.stands.0
          (ap (λ (q : Option ℕ). if is_some q then core m h o r i else core m (set h l (Some t)) o r (suc i)) j) (ap (after_lock t m h o at l is) j)
          (lock_switched l (Some t) true k.locks.taken (λ u d. ap (λ (q : Option ℕ). is_held_by q u) j) (λ u d. ne_eqb t u (λ i. d (sym i))) (sym (eq-eqb t t refl)))
      lock_matched i at l is k (Some u) j =
          let now : core_instr t (core m h o r i) (Acquire l) ≡ core m h o r i =
          ap (λ (q : Option ℕ). if is_some q then core m h o r i else core m (set h l (Some t)) o r (suc i)) j in
          subst (λ q. Matched p t lines (core m h o r i) (run at (lock l) ∷ is) q) (sym k.stands.0)
          (record {
            next = local m h o (run at (lock l) ∷ is);
            turns = sym (ap (after_lock t m h o at l is) j);
            leaves = quiet p t m h o (run at (lock l) ∷ is);
            memory = ap (λ (c : Core). c.memory) now;
            holders = ap (λ (c : Core). c.holders) now;
            outputs = ap (λ (c : Core). c.outputs) now;
            stands = subst (λ c. Stands p t lines c (run at (lock l) ∷ is)) (sym now) (go_on P (run at (lock l) ∷ is) i keeps (here k));
          })

      -- the loop again, where its body ends
      again : (at : ℕ) (e : Term) (a : Cmds) (is : List Item) (K : List Bool) (Q : Plan) (i k : ℕ) → CmdCode p t lines (loop e a) H P i (ItemsCode p t lines is) → K ≡ H
          → Reach lines (λ j. j ≡ i) k → BlockCode p t lines (next at (loop e a) none) K Q k (ItemsCode p t lines is)
      again at e a is K Q i k code s u =
          reach_map lines (λ j. j ≡ i) (λ j. CmdCode p t lines (loop e a) K Q j (λ L R k. BlockCode p t lines none L R k (ItemsCode p t lines is)))
          (λ j q. subst (λ j. CmdCode p t lines (loop e a) K Q j (λ L R k. BlockCode p t lines none L R k (ItemsCode p t lines is))) (sym q)
          (subst (λ K. CmdCode p t lines (loop e a) K Q i (λ L R k. BlockCode p t lines none L R k (ItemsCode p t lines is))) (sym s)
          (cmd_map p t lines (loop e a) H start Q i (ItemsCode p t lines is) (λ L R k. BlockCode p t lines none L R k (ItemsCode p t lines is)) (start_below Q)
          (λ L R S k x w. here (items_map p t lines is L R S k x w)) code))) u

      eval_store : (i at x : ℕ) (e : Term) (is : List Item) → IsTrue (may_write p t H x) → EvalCode p t lines H P i e (StoreAt p t lines H x is)
          → Matched p t lines (core m h o r i) (run at (assign x e) ∷ is) (slice_get lines i)
      eval_store i at x e is w (inl k) =
          first_matched P i e (StoreAt p t lines H x is 1) keeps k (run at (assign x e)) is (put at x (value e m)) refl (λ c g. storing H w g)
      eval_store i at x e is w (inr k) =
          store_matched P (run at (assign x e) ∷ is) 2 i x k.result (value e m) is refl w k.follows (k.right r m eight keeps) keeps

      eval_branch : (i at : ℕ) (e : Term) (a b : Cmds) (is : List Item) → EvalCode p t lines H P i e (BranchAt p t lines H a b is)
          → Matched p t lines (core m h o r i) (run at (branch e a b) ∷ is) (slice_get lines i)
      eval_branch i at e a b is (inl k) =
          first_matched P i e (BranchAt p t lines H a b is 1) keeps k (run at (branch e a b)) is (test at (value e m) a b) refl (λ c g. testing H g)
      eval_branch i at e a b is (inr k) =
          jz_matched P (run at (branch e a b) ∷ is) 2 i k.result (value e m) a b is refl k.follows (k.right r m eight keeps) keeps

      cmd_matched : (c : Cmd) (at : ℕ) (is : List Item) (i : ℕ) → CmdCode p t lines c H P i (ItemsCode p t lines is)
          → Matched p t lines (core m h o r i) (run at c ∷ is) (slice_get lines i)
      cmd_matched (assign x e) at is i k = eval_store i at x e is k.0 k.1
      cmd_matched (lock l) at is i k = lock_matched i at l is k (holder h l) refl
      cmd_matched (branch e a b) at is i k =
          eval_branch i at e a b is
          (eval_map p t lines H P P i e
          (λ w Q d j. (z : ℕ) × LineIs lines j w (Jz d z) × BlockCode p t lines a H Q (suc j) (ItemsCode p t lines is) × BlockCode p t lines b H Q z (ItemsCode p t lines is))
          (BranchAt p t lines H a b is) (λ i x e. e)
          (λ w A B d' j u n. (
            n.0,
            n.1,
            items_map p t lines (items_then a is) H A B (suc j) u (block_then p t lines a is H A (suc j) n.2),
            items_map p t lines (items_then b is) H A B n.0 u (block_then p t lines b is H A n.0 n.3),
          )) k)
      cmd_matched (loop e a) at is i k =
          let whole : Cmds = ◌then_all◌ a (next at (loop e a) none) in
          first_matched P i e (BranchAt p t lines H whole none is 1) keeps
          (expr_map p t lines H start P i e
          (λ Q d j. (z : ℕ) × LineIs lines j 1 (Jz d z) × BlockCode p t lines a H Q (suc j) (λ K R k. (K ≡ H) × Reach lines (λ j. j ≡ i) k) × ItemsCode p t lines is H Q z)
          (BranchAt p t lines H whole none is 1) (start_below P)
          (λ A d' j n. (
            n.0,
            n.1,
            block_then p t lines whole is H A (suc j)
                (block_append p t lines a (next at (loop e a) none) H A (suc j) (ItemsCode p t lines is) (λ L R S k x v. items_map p t lines is L R S k x v)
                (block_map p t lines a H A A (suc j) (λ K R k. (K ≡ H) × Reach lines (λ j. j ≡ i) k)
                (λ K R k. BlockCode p t lines (next at (loop e a) none) K R k (ItemsCode p t lines is)) (λ i x e. e)
                (λ L R S k' x v. again at e a is L S i k' k v.0 v.1) n.2)),
            n.3,
          )) k)
          (run at (loop e a)) is (test at (value e m) whole none) refl (λ c g. testing H g)
      cmd_matched (output e) at is i k =
          first_matched P i e (OutAt p t lines H is) keeps k (run at (output e)) is (emit at (value e m)) refl (λ c g. emitting H g)
      cmd_matched c at is i k =
          let mine = still_mine (parts c).returned k.locks.returned in
          line_matched c at i is k _ (option_map_or (λ l. set h l None) (parts c).returned h) k.stands.0 (first_of (assumption, simp mine)) (first_of (assumption, simp mine))
          (freed (parts c).returned k.locks.returned)

      ready_matched : (is : List Item) (i : ℕ) → ItemsCode p t lines is H P i → Matched p t lines (core m h o r i) is (slice_get lines i)
      ready_matched [] i k = end_matched P keeps k
      ready_matched (run at c ∷ is) i k = ready_run k
        where
          ready_run : {i : ℕ} → Reach lines (λ j. CmdCode p t lines c H P j (ItemsCode p t lines is)) i → Matched p t lines (core m h o r i) (run at c ∷ is) (slice_get lines i)
          ready_run (here {i = i} k) = cmd_matched c at is i k
          ready_run (hop {i = i} {k = k} e s) = hop_matched (run at c ∷ is) i k e (go_on P (run at c ∷ is) k keeps s)
      ready_matched (put at x v ∷ is) i k = absurd k
      ready_matched (test at v a b ∷ is) i k = absurd k
      ready_matched (emit at v ∷ is) i k = absurd k

    -- Inside an expression ----------------------------------------------------------------------------------------

    straight_matched : (g : Item) (is : List Item) (i : ℕ) (c : Instr) → LineIs lines i 0 c → IsStraight c
        → Stands p t lines (core m h o (exec_one r m c) (suc i)) (g ∷ is) → Matched p t lines (core m h o r i) (g ∷ is) (slice_get lines i)
    straight_matched g is i c n s k =
        let now = straight_step t (core m h o r i) c s in
        subst (λ l. Matched p t lines (core m h o r i) (g ∷ is) l) (sym n)
        (record {
          next = local m h o (g ∷ is);
          turns = refl;
          leaves = quiet p t m h o (g ∷ is);
          memory = ap (λ (c : Core). c.memory) now;
          holders = ap (λ (c : Core). c.holders) now;
          outputs = ap (λ (c : Core). c.outputs) now;
          stands = subst (λ c. Stands p t lines c (g ∷ is)) (sym now) k;
        })

    -- the rest of the code, one instruction later
    evaluating_next : (i : ℕ) (P : Plan) (d' v : ℕ) (N : Plan → ℕ → ℕ → Type 0) (c : Instr) (cs : List Instr) → LinesFrom lines cs (suc i) (N P d') → Straight (IsStable p t H) cs
        → Yields p t H P d' v (exec (exec_one r m c) m cs) m → Evaluating p t lines (core m h o (exec_one r m c) (suc i)) H v N
    evaluating_next i P d' v N c cs n s g = record {
      cs = cs;
      after = P;
      result = d';
      sized = sized;
      held = held;
      locks = locks;
      eight = exec_long r m c eight;
      at_rest = n;
      straight = s;
      gives = g;
    }

    storing_matched : (at x v : ℕ) (is : List Item) (i : ℕ) (P : Plan) (d' : ℕ) → IsTrue (may_write p t H x) → (cs : List Instr) → LinesFrom lines cs i (StoreAt p t lines H x is 1 P d')
        → Straight (IsStable p t H) cs → Yields p t H P d' v (exec r m cs) m → Matched p t lines (core m h o r i) (put at x v ∷ is) (slice_get lines i)
    storing_matched at x v is i P d' w [] n s g = store_matched P (put at x v ∷ is) 1 i x d' v is refl w n g.result g.keeps
    storing_matched at x v is i P d' w (c ∷ cs) n s g =
        straight_matched (put at x v) is i c n.0 s.0 (storing H w (evaluating_next i P d' v (StoreAt p t lines H x is 1) c cs n.1 s.2 g))

    testing_matched : (at v : ℕ) (a b : Cmds) (is : List Item) (i : ℕ) (P : Plan) (d' : ℕ) (cs : List Instr) → LinesFrom lines cs i (BranchAt p t lines H a b is 1 P d')
        → Straight (IsStable p t H) cs → Yields p t H P d' v (exec r m cs) m → Matched p t lines (core m h o r i) (test at v a b ∷ is) (slice_get lines i)
    testing_matched at v a b is i P d' [] n s g = jz_matched P (test at v a b ∷ is) 1 i d' v a b is refl n g.result g.keeps
    testing_matched at v a b is i P d' (c ∷ cs) n s g =
        straight_matched (test at v a b) is i c n.0 s.0 (testing H (evaluating_next i P d' v (BranchAt p t lines H a b is 1) c cs n.1 s.2 g))

    emitting_matched : (at v : ℕ) (is : List Item) (i : ℕ) (P : Plan) (d' : ℕ) (cs : List Instr) → LinesFrom lines cs i (OutAt p t lines H is P d')
        → Straight (IsStable p t H) cs → Yields p t H P d' v (exec r m cs) m → Matched p t lines (core m h o r i) (emit at v ∷ is) (slice_get lines i)
    emitting_matched at v is i P d' [] n s g = out_matched P at v i d' is n g.result g.keeps
    emitting_matched at v is i P d' (c ∷ cs) n s g =
        straight_matched (emit at v) is i c n.0 s.0 (emitting H (evaluating_next i P d' v (OutAt p t lines H is) c cs n.1 s.2 g))

  pub matched : (c : Core) (is : List Item) → length c.memory ≡ length p.vars → Stands p t lines c is → Matched p t lines c is (slice_get lines c.position)
  matched c is wide (ready k) = ready_matched c.memory c.holders c.outputs c.registers k.H wide k.sized k.held k.locks k.eight k.plan k.keeps is c.position k.code
  matched c is wide (storing {at = at} {x = x} {v = v} {is = js} H w g) =
      storing_matched c.memory c.holders c.outputs c.registers H wide g.sized g.held g.locks g.eight at x v js c.position g.after g.result w g.cs g.at_rest g.straight g.gives
  matched c is wide (testing {at = at} {v = v} {a = a} {b = b} {is = js} H g) =
      testing_matched c.memory c.holders c.outputs c.registers H wide g.sized g.held g.locks g.eight at v a b js c.position g.after g.result g.cs g.at_rest g.straight g.gives
  matched c is wide (emitting {at = at} {v = v} {is = js} H g) =
      emitting_matched c.memory c.holders c.outputs c.registers H wide g.sized g.held g.locks g.eight at v js c.position g.after g.result g.cs g.at_rest g.straight g.gives
