-- Which lines stand for which items, from a position on, with the locks that are held and the plan.
use Rattle.std.proofs.Common.{◌≡◌, ◌≢◌, ◌⊎◌, ℕ, suc, ◌<◌, List, [], ◌∷◌, length, get_or, Bool, Option, Some, None, IfSome, IsTrue, inl, inr, ⊎_elim, slice_get}
use Rattle.cov_expr.specs.Term.{Term, value}
use Rattle.cov_ast.specs.LocksAlong.{locks_after}
use Rattle.cov_ast.specs.Plain.{Cmd, assign, branch, loop, output, Cmds, none, next, ◌then_all◌, Plain}
use Rattle.cov_ast.specs.Tables.{has}
use Rattle.flow_model.specs.Source.{Item, run, put, test, emit, items_then}
use Rattle.mode_state.specs.Sets.{is_stable, may_write}
use Rattle.regalloc.specs.Plan.{Plan, start}
use Rattle.regalloc.specs.TrueRecord.{IsTrueRecord}
use Rattle.statement_parts.specs.PlainParts.{either, Inside, made, made_inside, nothing, parts, turns}
use Rattle.compiled_code.specs.Compiled.{cmd_lines}
use Rattle.compiled_code.proofs.Cores.{exec_one, exec, IsStraight, Straight}
use Rattle.compiled_code.proofs.Plans.{Below}
use Rattle.risc_machine.specs.declared.parts.Instr.{Instr}
use Rattle.risc_machine.specs.declared.parts.Instr.TheVariants.{Store, Jump, Jz, Out}
use Rattle.risc_machine.specs.declared.parts.Line.{Line}

-- Lines -----------------------------------------------------------------------------------------------------------

module _ (lines : List Line) where
  abbrev pub LineIs : ℕ → ℕ → Instr → Type 0
  LineIs i w c = slice_get lines i ≡ Some (record { weight = w; instr = c })

  -- jumps of weight 0 lead to a place with N
  pub data Reach (N : ℕ → Type 0) : ℕ → Type 0 where
    here : {i : ℕ} → N i → Reach N i
    hop : {i k : ℕ} → LineIs i 0 (Jump k) → Reach N k → Reach N i

  -- these instructions stand from i on, each of weight 0, and N behind them
  abbrev pub LinesFrom : List Instr → ℕ → (ℕ → Type 0) → Type 0
  LinesFrom [] i N = N i
  LinesFrom (c ∷ cs) i N = LineIs i 0 c × LinesFrom cs (suc i) N

  -- these lines stand in the code from i on
  abbrev pub At : ℕ → List Line → Type 0
  At i [] = Unit {0}
  At i (l ∷ ls) = (slice_get lines i ≡ Some l) × At (suc i) ls

  pub reach_map : (N M : ℕ → Type 0) {i : ℕ} → ((j : ℕ) → N j → M j) → Reach N i → Reach M i
  reach_map N M f (here {i = i} n) = here (f i n)
  reach_map N M f (hop e r) = hop e (reach_map N M f r)

  pub reach_join : (N : ℕ → Type 0) {i : ℕ} → Reach (Reach N) i → Reach N i
  reach_join N (here r) = r
  reach_join N (hop e r) = hop e (reach_join N r)

  pub lines_map : (cs : List Instr) (i : ℕ) (N M : ℕ → Type 0) → ((j : ℕ) → N j → M j) → LinesFrom cs i N → LinesFrom cs i M
  lines_map [] i N M f n = f i n
  lines_map (c ∷ cs) i N M f n = (n.0, lines_map cs (suc i) N M f n.1)

-- Plans that are true ---------------------------------------------------------------------------------------------

module _ (p : Plain) (t : ℕ) where
  abbrev pub IsStable : List Bool → ℕ → Type 0
  IsStable H x = IsTrue (is_stable p t H x)

  -- the plan is true where these locks are held
  abbrev pub Record : Plan → List Bool → List ℕ → List ℕ → Type 0
  Record P H r m = IsTrueRecord (IsStable H) P r m

  -- what is left of P, and stays stable
  abbrev pub Left : (before after : List Bool) → Plan → Plan → Type 0
  Left H K P R = (j y : ℕ) → get_or R j None ≡ Some y → (get_or P j None ≡ Some y) × (IsStable H y → IsStable K y)

  -- the locks that a statement takes and gives back are there, and those that it gives back are held
  pub record HasLocks (c : Cmd) (H : List Bool) : Type 0 where
    pub taken : IfSome (parts c).taken (λ l. l < length p.locks)
    pub returned : IfSome (parts c).returned (λ l. (l < length p.locks) × IsTrue (has H l))

  -- after a store of register d to x
  abbrev pub AfterStore : List Bool → Plan → ℕ → ℕ → Plan → Type 0
  AfterStore H P x d R =
      (j y : ℕ) → get_or R j None ≡ Some y
      → (j ≡ d) × (y ≡ x) × IsStable H x × (x < length p.vars) ⊎ (y ≢ x) × (get_or P j None ≡ Some y)

  -- register d has v, and the plan is true
  pub record Yields (H : List Bool) (P : Plan) (d v : ℕ) (r m : List ℕ) : Type 0 where
    pub result : get_or r d 0 ≡ v
    pub keeps : Record P H r m

  pub record_below : (H : List Bool) (P Q : Plan) (r m : List ℕ) → Below P Q → Record Q H r m → Record P H r m
  record_below H P Q r m b k j x e = k j x (b j x e)

  pub store_below : (H : List Bool) (P Q R : Plan) (x d : ℕ) → Below P Q → AfterStore H P x d R → AfterStore H Q x d R
  store_below H P Q R x d b a j y e = ⊎_elim (λ k. inl k) (λ k. inr (k.0, b j y k.1)) (a j y e)

  pub left_below : (H K : List Bool) (P Q R : Plan) → Below P Q → Left H K P R → Left H K Q R
  left_below H K P Q R b a j y e = let k = a j y e in (b j y k.0, k.1)

-- Code of expressions and statements ------------------------------------------------------------------------------

-- what stands under held locks and a plan from a position on, in front of something
abbrev pub Code : Type 1
Code = List Bool → Plan → ℕ → (List Bool → Plan → ℕ → Type 0) → Type 0

module _ (p : Plain) (t : ℕ) (lines : List Line) where
  pub record ExprCode (H : List Bool) (P : Plan) (i : ℕ) (e : Term) (N : Plan → ℕ → ℕ → Type 0) : Type 0 where
    pub first : Instr
    pub rest : List Instr
    pub after : Plan
    pub result : ℕ
    pub at_first : LineIs lines i 1 first
    pub at_rest : LinesFrom lines rest (suc i) (N after result)
    pub first_straight : IsStraight first
    pub rest_straight : Straight (IsStable p t H) rest
    pub right : (r m : List ℕ) → length r ≡ 8 → Record p t P H r m → Yields p t H after result (value e m) (exec (exec_one r m first) m rest) m

  -- a register has the value already
  pub record Direct (H : List Bool) (P : Plan) (i : ℕ) (e : Term) (N : Plan → ℕ → ℕ → Type 0) : Type 0 where
    pub result : ℕ
    pub follows : N P result i
    pub right : (r m : List ℕ) → length r ≡ 8 → Record p t P H r m → get_or r result 0 ≡ value e m

  -- N has the weight of the instruction that uses the value, the plan, the register and the position
  abbrev pub EvalCode : List Bool → Plan → ℕ → Term → (ℕ → Plan → ℕ → ℕ → Type 0) → Type 0
  EvalCode H P i e N = ExprCode H P i e (N 1) ⊎ Direct H P i e (N 2)

  -- a statement of one line, which evaluates nothing, and N behind it
  pub record LineCode (c : Cmd) (H : List Bool) (P : Plan) (i : ℕ) (N : List Bool → Plan → ℕ → Type 0) : Type 0 where
    pub stands : At lines i (cmd_lines p t c H P i)
    pub locks : HasLocks p t c H
    pub after : Plan
    pub left : Left p t H (locks_after c H) P after
    pub follows : N (locks_after c H) after (suc i)

  -- an expression whose value is stored, or else put out
  abbrev pub ValueCode : Term → (assigned : Option ℕ) → Code
  ValueCode e (Some x) H P i N =
      IsTrue (may_write p t H x) × EvalCode H P i e (λ w Q d j. LineIs lines j w (Store x d) × (R : Plan) × AfterStore p t H Q x d R × N H R (suc j))
  ValueCode e None H P i N = ExprCode H P i e (λ Q d j. LineIs lines j 1 (Out d) × N H Q (suc j))

  -- a statement without blocks, by what it evaluates
  abbrev pub LeafCode : Cmd → (evaluated : Option Term) → Code
  LeafCode c None H P i N = LineCode c H P i N
  LeafCode c (Some e) H P i N = ValueCode e (parts c).assigned H P i N

  -- c stands at i under the held locks H and the plan P, and N at what follows: by what stands for each of its blocks
  abbrev pub CodeBy : Cmd → Inside Code → Code
  CodeBy c nothing H P i N = LeafCode c (parts c).evaluated H P i N
  CodeBy c (either e a b) H P i N = EvalCode H P i e (λ w Q d j. (z : ℕ) × LineIs lines j w (Jz d z) × a H Q (suc j) N × b H Q z N)
  CodeBy c (turns e a) H P i N =
      ExprCode H start i e (λ Q d j. (z : ℕ) × LineIs lines j 1 (Jz d z) × a H Q (suc j) (λ K R k. (K ≡ H) × Reach lines (λ j. j ≡ i) k) × N H Q z)

  -- of no statement, and of one and the rest
  abbrev pub EndCode : Code
  EndCode H P i N = Reach lines (N H P) i

  abbrev pub FirstCode : (at : ℕ) → Cmd → Inside Code → (rest : Code) → Code
  FirstCode at c inside rest H P i N = Reach lines (λ j. CodeBy c inside H P j (λ K Q k. rest K Q k N)) i

  abbrev pub CmdCode : Cmd → Code
  CmdCode c H P i N = CodeBy c (made_inside EndCode FirstCode c) H P i N

  abbrev pub BlockCode : Cmds → Code
  BlockCode b H P i N = made EndCode FirstCode b H P i N

  abbrev pub ItemsCode : List Item → List Bool → Plan → ℕ → Type 0
  ItemsCode [] H P i = Reach lines (λ j. j ≡ length lines) i
  ItemsCode (run at c ∷ is) H P i = Reach lines (λ j. CmdCode c H P j (ItemsCode is)) i
  ItemsCode (put at x w ∷ is) H P i = ⊥
  ItemsCode (test at w a b ∷ is) H P i = ⊥
  ItemsCode (emit at w ∷ is) H P i = ⊥

  -- The same with more behind it and a plan with more -------------------------------------------------------------

  pub expr_map : (H : List Bool) (P Q : Plan) (i : ℕ) (e : Term) (N M : Plan → ℕ → ℕ → Type 0) → Below P Q → ((R : Plan) (d j : ℕ) → N R d j → M R d j)
      → ExprCode H P i e N → ExprCode H Q i e M
  expr_map H P Q i e N M b f c = record {
    first = c.first;
    rest = c.rest;
    after = c.after;
    result = c.result;
    at_first = c.at_first;
    at_rest = lines_map lines c.rest (suc i) (N c.after c.result) (M c.after c.result) (f c.after c.result) c.at_rest;
    first_straight = c.first_straight;
    rest_straight = c.rest_straight;
    right = λ r m l k. c.right r m l (record_below p t H P Q r m b k);
  }

  pub eval_map : (H : List Bool) (P Q : Plan) (i : ℕ) (e : Term) (N M : ℕ → Plan → ℕ → ℕ → Type 0) → Below P Q
      → ((w : ℕ) (R S : Plan) (d j : ℕ) → Below R S → N w R d j → M w S d j) → EvalCode H P i e N → EvalCode H Q i e M
  eval_map H P Q i e N M b f (inl c) = inl (expr_map H P Q i e (N 1) (M 1) b (λ R d j n. f 1 R R d j (λ i x e. e) n) c)
  eval_map H P Q i e N M b f (inr c) =
      inr (record { result = c.result; follows = f 2 P Q c.result i b c.follows; right = λ r m l k. c.right r m l (record_below p t H P Q r m b k) })

  abbrev pub Follow : (List Bool → Plan → ℕ → Type 0) → (List Bool → Plan → ℕ → Type 0) → Type 0
  Follow N M = (H : List Bool) (P Q : Plan) (k : ℕ) → Below P Q → N H P k → M H Q k

  mutual
    pub cmd_map : (c : Cmd) (H : List Bool) (P Q : Plan) (i : ℕ) (N M : List Bool → Plan → ℕ → Type 0) → Below P Q → Follow N M
        → CmdCode c H P i N → CmdCode c H Q i M
    cmd_map (assign x e) H P Q i N M b f k = (
      k.0,
      eval_map H P Q i e
          (λ w Q d j. LineIs lines j w (Store x d) × (R : Plan) × AfterStore p t H Q x d R × N H R (suc j))
          (λ w Q d j. LineIs lines j w (Store x d) × (R : Plan) × AfterStore p t H Q x d R × M H R (suc j)) b
          (λ w A B d j u n. (n.0, n.1, store_below p t H A B n.1 x d u n.2, f H n.1 n.1 (suc j) (λ i x e. e) n.3)) k.1,
    )
    cmd_map (branch e a c) H P Q i N M b f k =
        eval_map H P Q i e
        (λ w Q d j. (z : ℕ) × LineIs lines j w (Jz d z) × BlockCode a H Q (suc j) N × BlockCode c H Q z N)
        (λ w Q d j. (z : ℕ) × LineIs lines j w (Jz d z) × BlockCode a H Q (suc j) M × BlockCode c H Q z M) b
        (λ w A B d j u n. (n.0, n.1, block_map a H A B (suc j) N M u f n.2, block_map c H A B n.0 N M u f n.3)) k
    cmd_map (loop e a) H P Q i N M b f k =
        expr_map H start start i e
        (λ Q d j. (z : ℕ) × LineIs lines j 1 (Jz d z) × BlockCode a H Q (suc j) (λ K R k. (K ≡ H) × Reach lines (λ j. j ≡ i) k) × N H Q z)
        (λ Q d j. (z : ℕ) × LineIs lines j 1 (Jz d z) × BlockCode a H Q (suc j) (λ K R k. (K ≡ H) × Reach lines (λ j. j ≡ i) k) × M H Q z) (λ i x e. e)
        (λ A d j n. (n.0, n.1, n.2, f H A A n.0 (λ i x e. e) n.3)) k
    cmd_map (output e) H P Q i N M b f k =
        expr_map H P Q i e (λ Q d j. LineIs lines j 1 (Out d) × N H Q (suc j)) (λ Q d j. LineIs lines j 1 (Out d) × M H Q (suc j)) b
        (λ A d j n. (n.0, f H A A (suc j) (λ i x e. e) n.1)) k
    cmd_map c H P Q i N M b f k = record {
      stands = k.stands;
      locks = k.locks;
      after = k.after;
      left = left_below p t H (locks_after c H) P Q k.after b k.left;
      follows = f (locks_after c H) k.after k.after (suc i) (λ i x e. e) k.follows;
    }

    pub block_map : (c : Cmds) (H : List Bool) (P Q : Plan) (i : ℕ) (N M : List Bool → Plan → ℕ → Type 0) → Below P Q → Follow N M
        → BlockCode c H P i N → BlockCode c H Q i M
    block_map none H P Q i N M b f k = reach_map lines (N H P) (M H Q) (λ j n. f H P Q j b n) k
    block_map (next at c cs) H P Q i N M b f k =
        reach_map lines (λ j. CmdCode c H P j (λ L R k. BlockCode cs L R k N)) (λ j. CmdCode c H Q j (λ L R k. BlockCode cs L R k M))
        (λ j n. cmd_map c H P Q j (λ L R k. BlockCode cs L R k N) (λ L R k. BlockCode cs L R k M) b (λ L R S k x v. block_map cs L R S k N M x f v) n) k

  pub items_map : (is : List Item) (H : List Bool) (P Q : Plan) (i : ℕ) → Below P Q → ItemsCode is H P i → ItemsCode is H Q i
  items_map [] H P Q i b k = k
  items_map (run at c ∷ is) H P Q i b k =
      reach_map lines (λ j. CmdCode c H P j (ItemsCode is)) (λ j. CmdCode c H Q j (ItemsCode is))
      (λ j n. cmd_map c H P Q j (ItemsCode is) (ItemsCode is) b (λ L R S k x v. items_map is L R S k x v) n) k
  items_map (put at x w ∷ is) H P Q i b k = k
  items_map (test at w a c ∷ is) H P Q i b k = k
  items_map (emit at w ∷ is) H P Q i b k = k

  -- a hop in front
  pub items_hop : (is : List Item) (H : List Bool) (P : Plan) {i : ℕ} → Reach lines (ItemsCode is H P) i → ItemsCode is H P i
  items_hop [] H P k = reach_join lines (λ j. j ≡ length lines) k
  items_hop (run at c ∷ is) H P k = reach_join lines (λ j. CmdCode c H P j (ItemsCode is)) k
  items_hop (put at x w ∷ is) H P (here k) = absurd k
  items_hop (put at x w ∷ is) H P (hop e k) = absurd (items_hop (put at x w ∷ is) H P k)
  items_hop (test at w a b ∷ is) H P (here k) = absurd k
  items_hop (test at w a b ∷ is) H P (hop e k) = absurd (items_hop (test at w a b ∷ is) H P k)
  items_hop (emit at w ∷ is) H P (here k) = absurd k
  items_hop (emit at w ∷ is) H P (hop e k) = absurd (items_hop (emit at w ∷ is) H P k)

  -- a block in front of items
  pub block_then : (c : Cmds) (is : List Item) (H : List Bool) (P : Plan) (i : ℕ) → BlockCode c H P i (ItemsCode is) → ItemsCode (items_then c is) H P i
  block_then none is H P i k = items_hop is H P k
  block_then (next at c cs) is H P i k =
      reach_map lines (λ j. CmdCode c H P j (λ L R k. BlockCode cs L R k (ItemsCode is))) (λ j. CmdCode c H P j (ItemsCode (items_then cs is)))
      (λ j n. cmd_map c H P P j (λ L R k. BlockCode cs L R k (ItemsCode is)) (ItemsCode (items_then cs is)) (λ i x e. e)
      (λ L R S k x v. items_map (items_then cs is) L R S k x (block_then cs is L R k v)) n) k

  block_hop : (d : Cmds) (H : List Bool) (P : Plan) {i : ℕ} (N : List Bool → Plan → ℕ → Type 0) → Reach lines (λ j. BlockCode d H P j N) i → BlockCode d H P i N
  block_hop none H P N k = reach_join lines (N H P) k
  block_hop (next at c cs) H P N k = reach_join lines (λ j. CmdCode c H P j (λ L R k. BlockCode cs L R k N)) k

  -- the body of a loop, and the loop again
  pub block_append : (c d : Cmds) (H : List Bool) (P : Plan) (i : ℕ) (N : List Bool → Plan → ℕ → Type 0) → Follow N N → BlockCode c H P i (λ K Q k. BlockCode d K Q k N)
      → BlockCode (◌then_all◌ c d) H P i N
  block_append none d H P i N f k = block_hop d H P N k
  block_append (next at c cs) d H P i N f k =
      reach_map lines (λ j. CmdCode c H P j (λ L R k. BlockCode cs L R k (λ K Q k. BlockCode d K Q k N))) (λ j. CmdCode c H P j (λ L R k. BlockCode (◌then_all◌ cs d) L R k N))
      (λ j n. cmd_map c H P P j (λ L R k. BlockCode cs L R k (λ K Q k. BlockCode d K Q k N)) (λ L R k. BlockCode (◌then_all◌ cs d) L R k N) (λ i x e. e)
      (λ L R S k x v. block_map (◌then_all◌ cs d) L R S k N N x f (block_append cs d L R k N f v)) n) k
