-- What a line tells of the items.
use Rattle.std.proofs.Common.{◌≡◌, ◌⊎◌, ℕ, suc, pred, List, [], ◌∷◌, length, get_or, Bool, true, false, Option, Some, None, refl, sym, ◌∙◌, ap, subst, inl, inr, ⊎_elim, slice_get, le_refl}
use Rattle.std.proofs.lemmas.Option.{slice_get_past}
use Rattle.cov_expr.specs.Term.{Term, value}
use Rattle.cov_ast.specs.Plain.{Cmd, assign, branch, loop, output, Cmds, Plain}
use Rattle.flow_model.specs.Source.{Item, run, put, test, emit, local}
use Rattle.regalloc.specs.Plan.{Plan}
use Rattle.compiled_code.proofs.Cores.{Core, exec, IsStraight, Straight}
use Rattle.compiled_code.proofs.Shape.{LineIs, Reach, here, hop, LinesFrom, IsStable, Record, AfterStore, EvalCode, CmdCode, BlockCode, ItemsCode}
use Rattle.compiled_code.proofs.Steps.{turned, StoreAt, BranchAt, OutAt, Stands, ready, storing, testing, emitting}
use Rattle.risc_machine.specs.declared.parts.Instr.{Instr}
use Rattle.risc_machine.specs.declared.parts.Instr.TheVariants.{Load, Store, Jump, Jz, Nop, MovC, MovR, Bin, Acquire, Release, Out}
use Rattle.risc_machine.specs.declared.parts.Line.{Line}

abbrev pub is_jz : Instr → Bool
is_jz (Jz r i) = true
is_jz _ = false

straight_no_jz : (c : Instr) → IsStraight c → is_jz c ≡ false
straight_no_jz (Load d x) s = refl
straight_no_jz (MovC d k) s = refl
straight_no_jz (MovR d k) s = refl
straight_no_jz (Bin o d k) s = refl
straight_no_jz (Store x d) s = refl
straight_no_jz (Jump k) s = refl
straight_no_jz (Jz d k) s = absurd s
straight_no_jz Nop s = refl
straight_no_jz (Acquire l) s = refl
straight_no_jz (Release l) s = refl
straight_no_jz (Out d) s = refl

-- the word of a first pending test
abbrev pub word_of : List Item → ℕ
word_of [] = 0
word_of (run at c ∷ is) = 0
word_of (put at x w ∷ is) = 0
word_of (test at w a b ∷ is) = w
word_of (emit at w ∷ is) = 0

abbrev HasLine : List Line → ℕ → Type 0
HasLine lines i = (l : Line) × (slice_get lines i ≡ Some l)

-- a line that is no jump on a register
abbrev LineAt : List Line → ℕ → Type 0
LineAt lines i = (l : Line) × (slice_get lines i ≡ Some l) × (is_jz l.instr ≡ false)

no_line : (lines : List Line) (i : ℕ) → HasLine lines i → slice_get lines i ≡ None → ⊥
no_line lines i (l, e) n = let c : Some l ≡ None = sym e ∙ n in cc

jz_line : Option Line → Bool
jz_line None = false
jz_line (Some l) = is_jz l.instr

not_jz : (lines : List Line) (i w r z : ℕ) → LineAt lines i → LineIs lines i w (Jz r z) → ⊥
unfolding jz_line
not_jz lines i w r z (l, e, f) n = let c : false ≡ true = sym f ∙ ap jz_line (sym e ∙ n) in cc

end_line : (lines : List Line) {i : ℕ} → Reach lines (λ j. j ≡ length lines) i → (slice_get lines i ≡ None) ⊎ LineAt lines i
end_line lines (here e) = inl (ap (slice_get lines) e ∙ slice_get_past lines (length lines) (le_refl _))
end_line lines (hop e s) = inr (_, e, refl)

module _ (p : Plain) (t : ℕ) (lines : List Line) where
  eval_line : (e : Term) (H : List Bool) (P : Plan) (i : ℕ) (N : ℕ → Plan → ℕ → ℕ → Type 0) → ((w : ℕ) (Q : Plan) (d j : ℕ) → N w Q d j → HasLine lines j)
      → EvalCode p t lines H P i e N → HasLine lines i
  eval_line e H P i N f (inl k) = (_, k.at_first)
  eval_line e H P i N f (inr k) = f 2 P k.result i k.follows

  cmd_line : (c : Cmd) (H : List Bool) (P : Plan) (i : ℕ) (N : List Bool → Plan → ℕ → Type 0) → CmdCode p t lines c H P i N → HasLine lines i
  cmd_line (assign x e) H P i N k =
      eval_line e H P i (λ w Q d j. LineIs lines j w (Store x d) × (R : Plan) × AfterStore p t H Q x d R × N H R (suc j)) (λ w Q d j n. (_, n.0)) k.1
  cmd_line (branch e a b) H P i N k =
      eval_line e H P i (λ w Q d j. (z : ℕ) × LineIs lines j w (Jz d z) × BlockCode p t lines a H Q (suc j) N × BlockCode p t lines b H Q z N) (λ w Q d j n. (_, n.1)) k
  cmd_line (loop e a) H P i N k = (_, k.at_first)
  cmd_line (output e) H P i N k = (_, k.at_first)
  cmd_line _ H P i N k = (_, k.stands.0)

  reach_line : (N : ℕ → Type 0) {i : ℕ} → ((j : ℕ) → N j → HasLine lines j) → Reach lines N i → HasLine lines i
  reach_line N f (here {i = i} n) = f i n
  reach_line N f (hop e s) = (_, e)

  ready_line : (c : Item) (is : List Item) (H : List Bool) (P : Plan) (i : ℕ) → ItemsCode p t lines (c ∷ is) H P i → HasLine lines i
  ready_line (run at c) is H P i k =
      reach_line (λ j. CmdCode p t lines c H P j (ItemsCode p t lines is)) (λ j n. cmd_line c H P j (ItemsCode p t lines is) n) k
  ready_line (put at x v) is H P i k = absurd k
  ready_line (test at v a b) is H P i k = absurd k
  ready_line (emit at v) is H P i k = absurd k

  rest_line : (cs : List Instr) (i : ℕ) (N : ℕ → Type 0) → (N i → HasLine lines i) → LinesFrom lines cs i N → HasLine lines i
  rest_line [] i N f n = f n
  rest_line (c ∷ cs) i N f n = (_, n.0)

  -- finished code has no item left
  pub nothing_left : (c : Core) (is : List Item) → Stands p t lines c is → slice_get lines c.position ≡ None → is ≡ []
  nothing_left c is (ready r) e = at_ready is r.code
    where
      at_ready : (js : List Item) → ItemsCode p t lines js r.H r.plan c.position → js ≡ []
      at_ready [] k = refl
      at_ready (j ∷ js) k = absurd (no_line lines c.position (ready_line j js r.H r.plan c.position k) e)
  nothing_left c is (storing {x = x} {is = js} H w g) e =
      absurd (no_line lines c.position (rest_line g.cs c.position (StoreAt p t lines H x js 1 g.after g.result) (λ n. (_, n.0)) g.at_rest) e)
  nothing_left c is (testing {a = a} {b = b} {is = js} H g) e =
      absurd (no_line lines c.position (rest_line g.cs c.position (BranchAt p t lines H a b js 1 g.after g.result) (λ n. (_, n.1)) g.at_rest) e)
  nothing_left c is (emitting {is = js} H g) e =
      absurd (no_line lines c.position (rest_line g.cs c.position (OutAt p t lines H js g.after g.result) (λ n. (_, n.0)) g.at_rest) e)

  -- What a jump reads: the word of the test that is pending, or will be after the first of its two steps ----------

  abbrev pub Reads : Core → List Item → ℕ → ℕ → Type 0
  Reads c is w r = get_or c.registers r 0 ≡ word_of (turned t (pred w) (local c.memory c.holders c.outputs is)).items

  read_register : Option Line → ℕ
  read_register None = 0
  read_register (Some l) = elim l.instr [ Jz r z ↦ r | _ ↦ 0 ]

  read_weight : Option Line → ℕ
  read_weight None = 0
  read_weight (Some l) = l.weight

  same_line : (i w w' r r' z z' : ℕ) → LineIs lines i w (Jz r z) → LineIs lines i w' (Jz r' z') → (w ≡ w') × (r ≡ r')
  unfolding read_register read_weight
  same_line i w w' r r' z z' a b = (ap read_weight (sym a ∙ b), ap read_register (sym a ∙ b))

  module _ (c : Core) (w r z : ℕ) (at_jz : LineIs lines c.position w (Jz r z)) where
    no_jz : LineAt lines c.position → (is : List Item) → Reads c is w r
    no_jz k is = absurd (not_jz lines c.position w r z k at_jz)

    reads_here : (is : List Item) (w' d z' v : ℕ) → LineIs lines c.position w' (Jz d z') → get_or c.registers d 0 ≡ v
        → word_of (turned t (pred w') (local c.memory c.holders c.outputs is)).items ≡ v → Reads c is w r
    reads_here is w' d z' v n g e =
        let s = same_line c.position w w' r d z z' at_jz n in
        ap (λ r. get_or c.registers r 0) s.1 ∙ g ∙ sym e ∙ ap (λ w. word_of (turned t (pred w) (local c.memory c.holders c.outputs is)).items) (sym s.0)

    module _ (H : List Bool) (P : Plan) (eight : length c.registers ≡ 8) (keeps : Record p t P H c.registers c.memory) where
      cmd_reads : (at : ℕ) (x : Cmd) (is : List Item) (N : List Bool → Plan → ℕ → Type 0) → CmdCode p t lines x H P c.position N → Reads c (run at x ∷ is) w r
      cmd_reads at (assign x e) is N k = ⊎_elim (λ q. no_jz (_, q.at_first, straight_no_jz q.first q.first_straight) _) (λ q. no_jz (_, q.follows.0, refl) _) k.1
      cmd_reads at (branch e a b) is N k =
          ⊎_elim (λ q. no_jz (_, q.at_first, straight_no_jz q.first q.first_straight) _)
          (λ q. reads_here (run at (branch e a b) ∷ is) 2 q.result q.follows.0 (value e c.memory) q.follows.1 (q.right c.registers c.memory eight keeps) refl) k
      cmd_reads at (loop e a) is N k = no_jz (_, k.at_first, straight_no_jz k.first k.first_straight) _
      cmd_reads at (output e) is N k = no_jz (_, k.at_first, straight_no_jz k.first k.first_straight) _
      cmd_reads at _ is N k = no_jz (_, k.stands.0, refl) _

      reach_reads : (at : ℕ) (x : Cmd) (is : List Item) {i : ℕ} → i ≡ c.position → Reach lines (λ j. CmdCode p t lines x H P j (ItemsCode p t lines is)) i → Reads c (run at x ∷ is) w r
      reach_reads at x is e (here k) = cmd_reads at x is (ItemsCode p t lines is) (subst (λ i. CmdCode p t lines x H P i (ItemsCode p t lines is)) e k)
      reach_reads at x is e (hop n s) = no_jz (_, ap (slice_get lines) (sym e) ∙ n, refl) _

      items_read : (is : List Item) → ItemsCode p t lines is H P c.position → Reads c is w r
      items_read [] k =
          ⊎_elim (λ q. absurd (let b : None ≡ Some (record { weight = w; instr = Jz r z }) = sym q ∙ at_jz in cc)) (λ q. no_jz q []) (end_line lines k)
      items_read (run at x ∷ is) k = reach_reads at x is refl k
      items_read (put at x v ∷ is) k = absurd k
      items_read (test at v a b ∷ is) k = absurd k
      items_read (emit at v ∷ is) k = absurd k

    store_reads : (cs : List Instr) (H : List Bool) (x : ℕ) (js is : List Item) (P : Plan) (d : ℕ) → LinesFrom lines cs c.position (StoreAt p t lines H x js 1 P d)
        → Straight (IsStable p t H) cs → Reads c is w r
    store_reads [] H x js is P d n s = no_jz (_, n.0, refl) is
    store_reads (i ∷ cs) H x js is P d n s = no_jz (_, n.0, straight_no_jz i s.0) is

    out_reads : (cs : List Instr) (H : List Bool) (js is : List Item) (P : Plan) (d : ℕ) → LinesFrom lines cs c.position (OutAt p t lines H js P d)
        → Straight (IsStable p t H) cs → Reads c is w r
    out_reads [] H js is P d n s = no_jz (_, n.0, refl) is
    out_reads (i ∷ cs) H js is P d n s = no_jz (_, n.0, straight_no_jz i s.0) is

    test_reads : (cs : List Instr) (H : List Bool) (a b : Cmds) (is : List Item) (at v : ℕ) (P : Plan) (d : ℕ) → LinesFrom lines cs c.position (BranchAt p t lines H a b is 1 P d)
        → Straight (IsStable p t H) cs → get_or (exec c.registers c.memory cs) d 0 ≡ v → Reads c (test at v a b ∷ is) w r
    test_reads [] H a b is at v P d n s g = reads_here (test at v a b ∷ is) 1 d n.0 v n.1 g refl
    test_reads (i ∷ cs) H a b is at v P d n s g = no_jz (_, n.0, straight_no_jz i s.0) _

  pub jz_reads : (c : Core) (is : List Item) (w r z : ℕ) → Stands p t lines c is → LineIs lines c.position w (Jz r z) → Reads c is w r
  jz_reads c is w r z (ready k) e = items_read c w r z e k.H k.plan k.eight k.keeps is k.code
  jz_reads c is w r z (storing {x = x} {is = js} H _ g) e = store_reads c w r z e g.cs H x js is g.after g.result g.at_rest g.straight
  jz_reads c is w r z (testing {at = at} {v = v} {a = a} {b = b} {is = js} H g) e = test_reads c w r z e g.cs H a b js at v g.after g.result g.at_rest g.straight g.gives.result
  jz_reads c is w r z (emitting {is = js} H g) e = out_reads c w r z e g.cs H js is g.after g.result g.at_rest g.straight
