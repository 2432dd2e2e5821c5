-- The lines of a body stand for it.
use Rattle.std.proofs.Common.{◌≡◌, ℕ, suc, ◌+◌, ◌<◌, ◌≤◌, List, [], ◌∷◌, ◌++◌, length, map, Bool, false, Option, Some, None, IfSome, refl, subst, arith, IsTrue, slice_get, length-append, append_assoc, add-zero, inl, inr, subst₂}
use Rattle.cov_expr.specs.Term.{Term}
use Rattle.cov_expr.specs.Trees.{mentions, width}
use Rattle.cov_ast.specs.LocksAlong.{locks_after, locks_at_end}
use Rattle.cov_ast.specs.Plain.{Cmd, assign, branch, loop, output, Cmds, none, next, Plain}
use Rattle.flow_model.specs.Source.{items_then}
use Rattle.mode_state.specs.Sets.{is_stable, may_write}
use Rattle.regalloc.specs.Plan.{Plan, start, meet}
use Rattle.statement_parts.specs.PlainParts.{either, first_block, Inside, last_block, made, made_inside, nothing, parts, turns}
use Rattle.compiled_code.specs.Compiled.{line, weigh, expr_plan, expr_register, expr_instrs, expr_lines, direct, eval_lines, eval_plan, eval_register, use_weight, store_from, store_plan, cmd_plan, block_plan, cmd_lines, block_lines}
use Rattle.compiled_code.proofs.Gen.{ExprParts, expr_parts, direct_right, store_from_direct, store_plan_right}
use Rattle.compiled_code.proofs.Plans.{meet_is}
use Rattle.compiled_code.proofs.Shape.{LineIs, Reach, here, hop, LinesFrom, At, HasLocks, AfterStore, ExprCode, EvalCode, CmdCode, BlockCode, ItemsCode, Follow, block_map, block_then}
use Rattle.compiled_code.proofs.Stable.{settled}
use Rattle.risc_machine.specs.declared.parts.Instr.{Instr}
use Rattle.risc_machine.specs.declared.parts.Instr.TheVariants.{Store, Jump, Jz, Out}
use Rattle.risc_machine.specs.declared.parts.Line.{Line}

-- What the rules give of a body -----------------------------------------------------------------------------------

module _ (p : Plain) (t : ℕ) where
  -- an expression is narrow, and reads at most one variable that isn't stable
  pub record IsTidyExpr (H : List Bool) (e : Term) : Type 0 where
    pub narrow : width e ≤ 7
    pub one_unstable : (x y : ℕ) → IsTrue (mentions e x) → IsTrue (mentions e y) → is_stable p t H x ≡ false → is_stable p t H y ≡ false → x ≡ y

  -- Of the blocks of a statement, by what is said of each: both of a branch end with the same locks, and that of a loop with those that are held before it.
  abbrev pub AreTidyInside : (blocks : Inside Cmds) → Inside (List Bool → Type 0) → List Bool → Type 0
  AreTidyInside blocks nothing H = Unit {0}
  AreTidyInside blocks (turns e a) H = a H × (locks_at_end (first_block blocks) H ≡ H)
  AreTidyInside blocks (either e a b) H = a H × b H × (locks_at_end (first_block blocks) H ≡ locks_at_end (last_block blocks) H)

  -- a statement under held locks, as far as the code rests on the rules, by what is said of its blocks
  pub record IsTidyBy (c : Cmd) (inside : Inside (List Bool → Type 0)) (H : List Bool) : Type 0 where
    pub locks : HasLocks p t c H
    pub assigned : IfSome (parts c).assigned (λ x. IsTrue (may_write p t H x) × (x < length p.vars))
    pub evaluated : IfSome (parts c).evaluated (λ e. IsTidyExpr H e)
    pub blocks : AreTidyInside (parts c).inside inside H

  -- of no statement, and of one and the rest
  abbrev pub EndsTidy : List Bool → Type 0
  EndsTidy H = Unit {0}

  abbrev pub BeginsTidy : (at : ℕ) → Cmd → Inside (List Bool → Type 0) → (rest : List Bool → Type 0) → List Bool → Type 0
  BeginsTidy at c inside rest H = IsTidyBy c inside H × rest (locks_after c H)

  abbrev pub IsTidyCmd : Cmd → List Bool → Type 0
  IsTidyCmd c H = IsTidyBy c (made_inside EndsTidy BeginsTidy c) H

  -- statements one after another
  abbrev pub IsTidy : Cmds → List Bool → Type 0
  IsTidy b H = made EndsTidy BeginsTidy b H

-- Lines in code ---------------------------------------------------------------------------------------------------

pub at_left : (lines : List Line) (i : ℕ) (a b : List Line) → At lines i (a ++ b) → At lines i a
at_left lines i [] b h = tt
at_left lines i (l ∷ a) b h = (h.0, at_left lines (suc i) a b h.1)

pub at_right : (lines : List Line) (i : ℕ) (a b : List Line) → At lines i (a ++ b) → At lines (i + length a) b
at_right lines i [] b h = rw add-zero h
at_right lines i (l ∷ a) b h = subst (λ j. At lines j b) (omega arith) (at_right lines (suc i) a b h.1)

branch_end : (i : ℕ) (ce ca cb : List Line) (j k : Line) → i + length (ce ++ (j ∷ (ca ++ (k ∷ cb)))) ≡ suc (suc (i + length ce) + length ca) + length cb
branch_end i ce ca cb j k = simp length-append (omega arith)

loop_end : (i : ℕ) (ce ca : List Line) (j k : Line) → i + length (ce ++ (j ∷ (ca ++ (k ∷ [])))) ≡ suc (suc (i + length ce) + length ca)
loop_end i ce ca j k = simp length-append (omega arith)

rest_at : (lines : List Line) (cs : List Instr) (i : ℕ) (N : ℕ → Type 0) → At lines i (map (line 0) cs) → N (i + length (map (line 0) cs)) → LinesFrom lines cs i N
rest_at lines [] i N h n = subst N (add-zero i) n
rest_at lines (c ∷ cs) i N h n = (h.0, rest_at lines cs (suc i) N h.1 (subst N (omega arith) n))

pub at_all : (before ls : List Line) → At (before ++ ls) (length before) ls
at_all before [] = tt
at_all before (l ∷ ls) = (here_is before l ls, subst₂ (λ all n. At all n ls) (append_assoc before (l ∷ []) ls) (simp length-append (omega arith)) (at_all (before ++ (l ∷ [])) ls))
  where
    here_is : (before : List Line) (l : Line) (ls : List Line) → slice_get (before ++ (l ∷ ls)) (length before) ≡ Some l
    here_is [] l ls = refl
    here_is (b ∷ bs) l ls = here_is bs l ls

-- Code that stands for statements ---------------------------------------------------------------------------------

module _ (p : Plain) (t : ℕ) (lines : List Line) where
  -- the code of an expression, and N behind it
  expr_at : (H : List Bool) (P : Plan) (e : Term) (i : ℕ) (N : Plan → ℕ → ℕ → Type 0) → IsTidyExpr p t H e → At lines i (expr_lines (is_stable p t H) P e)
      → N (expr_plan (is_stable p t H) P e) (expr_register (is_stable p t H) P e) (i + length (expr_lines (is_stable p t H) P e)) → ExprCode p t lines H P i e N
  expr_at H P e i N k h n = go (expr_instrs (is_stable p t H) P e) (expr_parts p t H P e k.narrow k.one_unstable) h n
    where
      go : (cs : List Instr) → ExprParts p t H P e cs → At lines i (weigh cs) → N (expr_plan (is_stable p t H) P e) (expr_register (is_stable p t H) P e) (i + length (weigh cs))
          → ExprCode p t lines H P i e N
      go cs q h n =
          let h' = subst (λ cs. At lines i (weigh cs)) q.is h in
          let n' = subst (λ cs. N (expr_plan (is_stable p t H) P e) (expr_register (is_stable p t H) P e) (i + length (weigh cs))) q.is n in
          record {
            first = q.first;
            rest = q.rest;
            after = expr_plan (is_stable p t H) P e;
            result = expr_register (is_stable p t H) P e;
            at_first = h'.0;
            at_rest = rest_at lines q.rest (suc i) (N (expr_plan (is_stable p t H) P e) (expr_register (is_stable p t H) P e)) h'.1
                (subst (N (expr_plan (is_stable p t H) P e) (expr_register (is_stable p t H) P e)) (omega arith) n');
            first_straight = q.first_straight;
            rest_straight = q.rest_straight;
            right = q.right;
          }

  eval_at : (H : List Bool) (P : Plan) (e : Term) (i : ℕ) (N : ℕ → Plan → ℕ → ℕ → Type 0) → IsTidyExpr p t H e → (o : Option ℕ)
      → ((s : ℕ) → o ≡ Some s → direct (is_stable p t H) P e ≡ Some s) → At lines i (eval_lines (is_stable p t H) P e o)
      → N (use_weight o) (eval_plan (is_stable p t H) P e o) (eval_register (is_stable p t H) P e o) (i + length (eval_lines (is_stable p t H) P e o)) → EvalCode p t lines H P i e N
  eval_at H P e i N k None f h n = inl (expr_at H P e i (N 1) k h n)
  eval_at H P e i N k (Some s) f h n =
      inr (record { result = s; follows = subst (N 2 P s) (add-zero i) n; right = λ r m l q. direct_right p t H P e s (f s refl) r m q })

  mutual
    cmd_at : (c : Cmd) (H : List Bool) (P : Plan) (i : ℕ) (N : List Bool → Plan → ℕ → Type 0) → Follow p t lines N N → IsTidyCmd p t c H → At lines i (cmd_lines p t c H P i)
        → N (locks_after c H) (cmd_plan p t c H P) (i + length (cmd_lines p t c H P i)) → CmdCode p t lines c H P i N
    cmd_at (assign x e) H P i N f k h n =
        let st = is_stable p t H in
        let o = store_from st P x e in
        let ce = eval_lines st P e o in
        let Q = eval_plan st P e o in
        let g = eval_register st P e o in
        let last = line (use_weight o) (Store x g) in (
          k.assigned.0,
          eval_at H P e i (λ w Q d j. LineIs lines j w (Store x d) × (R : Plan) × AfterStore p t H Q x d R × N H R (suc j)) k.evaluated o
              (λ s q. store_from_direct st P x e s q) (at_left lines i ce (last ∷ []) h) (
                (at_right lines i ce (last ∷ []) h).0,
                store_plan (st x) Q x g,
                store_plan_right p t H Q x g k.assigned.1 (st x) refl,
                subst (N H (store_plan (st x) Q x g)) (simp length-append (omega arith)) n,
              ),
        )
    cmd_at (branch e a b) H P i N f k h n =
        let st = is_stable p t H in
        let o = direct st P e in
        let ce = eval_lines st P e o in
        let Q = eval_plan st P e o in
        let at_a = suc (i + length ce) in
        let ca = block_lines p t a H Q at_a in
        let at_b = suc (at_a + length ca) in
        let cb = block_lines p t b H Q at_b in
        let j = line (use_weight o) (Jz (eval_register st P e o) at_b) in
        let last = line 0 (Jump (at_b + length cb)) in
        let h1 = at_right lines i ce (j ∷ (ca ++ (last ∷ cb))) h in
        let h2 = at_right lines at_a ca (last ∷ cb) h1.1 in
        let A = block_plan p t a H Q in
        let B = block_plan p t b H Q in
        let m : N (locks_at_end a H) (meet A B) (at_b + length cb) = subst (N (locks_at_end a H) (meet A B)) (branch_end i ce ca cb j last) n in
        let m' : N (locks_at_end b H) (meet A B) (at_b + length cb) = subst (λ K. N K (meet A B) (at_b + length cb)) k.blocks.2 m in
        eval_at H P e i (λ w Q d j. (z : ℕ) × LineIs lines j w (Jz d z) × BlockCode p t lines a H Q (suc j) N × BlockCode p t lines b H Q z N) k.evaluated o (λ s q. q)
        (at_left lines i ce (j ∷ (ca ++ (last ∷ cb))) h) (
          at_b,
          h1.0,
          block_at a H Q at_a N f k.blocks.0 (at_left lines at_a ca (last ∷ cb) h1.1)
              (hop h2.0 (here (f (locks_at_end a H) (meet A B) A (at_b + length cb) (λ j y e. (meet_is A B j y e).0) m))),
          block_at b H Q at_b N f k.blocks.1 h2.1 (here (f (locks_at_end b H) (meet A B) B (at_b + length cb) (λ j y e. (meet_is A B j y e).1) m')),
        )
    cmd_at (loop e a) H P i N f k h n =
        let st = is_stable p t H in
        let ce = expr_lines st start e in
        let Q = expr_plan st start e in
        let at_a = suc (i + length ce) in
        let ca = block_lines p t a H Q at_a in
        let z = suc (at_a + length ca) in
        let j = line 1 (Jz (expr_register st start e) z) in
        let last = line 0 (Jump i) in
        let h1 = at_right lines i ce (j ∷ (ca ++ (last ∷ []))) h in
        let h2 = at_right lines at_a ca (last ∷ []) h1.1 in
        let m : N H Q z = subst (N H Q) (loop_end i ce ca j last) n in
        expr_at H start e i
        (λ Q d j. (z : ℕ) × LineIs lines j 1 (Jz d z) × BlockCode p t lines a H Q (suc j) (λ K R k. (K ≡ H) × Reach lines (λ j. j ≡ i) k) × N H Q z) k.evaluated
        (at_left lines i ce (j ∷ (ca ++ (last ∷ []))) h) (
          z,
          h1.0,
          block_at a H Q at_a (λ K R k. (K ≡ H) × Reach lines (λ j. j ≡ i) k) (λ L R S k x v. v) k.blocks.0
              (at_left lines at_a ca (last ∷ []) h1.1) (here (k.blocks.1, hop h2.0 (here refl))),
          m,
        )
    cmd_at (output e) H P i N f k h n =
        let st = is_stable p t H in
        let ce = expr_lines st P e in
        let last = line 1 (Out (expr_register st P e)) in
        expr_at H P e i (λ Q d j. LineIs lines j 1 (Out d) × N H Q (suc j)) k.evaluated (at_left lines i ce (last ∷ []) h) (
          (at_right lines i ce (last ∷ []) h).0,
          subst (N H (expr_plan st P e)) (simp length-append (omega arith)) n,
        )
    cmd_at c H P i N f k h n =
        let w = settled p t c H P refl in
        record {
          stands = h;
          locks = k.locks;
          after = cmd_plan p t c H P;
          left = λ j y e. (w.kept j y e, w.stays j y e);
          follows = subst (N (locks_after c H) (cmd_plan p t c H P)) (omega arith) n;
        }

    block_at : (c : Cmds) (H : List Bool) (P : Plan) (i : ℕ) (N : List Bool → Plan → ℕ → Type 0) → Follow p t lines N N → IsTidy p t c H → At lines i (block_lines p t c H P i)
        → Reach lines (N (locks_at_end c H) (block_plan p t c H P)) (i + length (block_lines p t c H P i)) → BlockCode p t lines c H P i N
    block_at none H P i N f k h n = subst (Reach lines (N H P)) (add-zero i) n
    block_at (next at c cs) H P i N f k h n =
        let cc = cmd_lines p t c H P i in
        let K = locks_after c H in
        let Q = cmd_plan p t c H P in
        let ls = block_lines p t cs K Q (i + length cc) in
        here (cmd_at c H P i (λ L R k. BlockCode p t lines cs L R k N) (λ L R S k x v. block_map p t lines cs L R S k N N x f v) k.0 (at_left lines i cc ls h)
        (block_at cs K Q (i + length cc) N f k.1 (at_right lines i cc ls h)
        (subst (Reach lines (N (locks_at_end cs K) (block_plan p t cs K Q))) (simp length-append (omega arith)) n)))

-- the whole body of a thread
pub body_at : (p : Plain) (t : ℕ) (c : Cmds) (H : List Bool) → IsTidy p t c H → ItemsCode p t (block_lines p t c H start 0) (items_then c []) H start 0
body_at p t c H k =
    let lines = block_lines p t c H start 0 in
    block_then p t lines c [] H start 0
    (block_at p t lines c H start 0 (ItemsCode p t lines []) (λ K P Q k x r. r) k (at_all [] lines)
    (here (here (omega arith))))
