-- No fault applies to a line that is made of a body whose ids are in range.
use Rattle.std.proofs.Common.{◌≡◌, ◌⊎◌, ℕ, suc, ◌+◌, ◌<◌, ◌≤◌, nat_lt, nat_le, List, [], ◌∷◌, ◌++◌, length, map, Bool, true, false, if◌then◌else◌, Option, Some, None, IfSome, refl, sym, ◌∙◌, arith, inl, inr, ⊎_elim, length-set, length-append}
use Rattle.std.specs.Option.{option_or}
use Rattle.std.proofs.lemmas.Bool.{lt-ltb, le-leb, and_from, cases_lt}
use Rattle.std.proofs.lemmas.List.{get_or_past, length-map}
use Rattle.cov_expr.specs.declared.expr.Op.{Op}
use Rattle.cov_expr.specs.declared.expr.Op.TheVariants.{Eq}
use Rattle.cov_expr.specs.Term.{Term, const, var, neg, bin}
use Rattle.cov_expr.specs.Trees.{occurrences, width}
use Rattle.cov_expr.specs.Words.{HasVarsBelow}
use Rattle.cov_ast.specs.LocksAlong.{locks_after}
use Rattle.cov_ast.specs.Plain.{Cmd, assign, branch, loop, output, Cmds, none, next, Plain, plain_stm, plain_block}
use Rattle.cov_ast.specs.Syntax.{Stm, Block, done, more}
use Rattle.cov_ast.specs.Syntax as annotated
use Rattle.cov_ast.specs.WellFormed.{IsStmInRange, IsBlockInRange, IsSilentStm, IsSilent}
use Rattle.mode_state.specs.Sets.{is_stable}
use Rattle.regalloc.specs.Plan.{Plan, start, held, keep, stored, frees, room}
use Rattle.statement_parts.specs.PlainParts.{either, Inside, made, made_inside, nothing, parts, turns}
use Rattle.compiled_code.specs.Compiled.{line, weigh, part_register, var_instr, unstable_of, load_unstable, term_instrs, fetch_at, fetched_plan, load_into, fetch_plan, fetch_instrs, expr_room, expr_plan, expr_register, expr_instrs, expr_lines, direct, eval_lines, eval_plan, eval_register, use_weight, store_from, store_plan, cmd_plan, block_plan, cmd_lines, block_lines}
use Rattle.compiled_code.proofs.Gen.{fetch_some}
use Rattle.compiled_code.proofs.Plans.{held_is, reg_low, part_in, room_long, meet_long}
use Rattle.compiled_code.proofs.Stable.{settled}
use Rattle.risc_machine.specs.Faults.{has_registers, has_variable, has_lock, has_target, has_version}
use Rattle.risc_machine.specs.declared.parts.Instr.{Instr}
use Rattle.risc_machine.specs.declared.parts.Instr.TheVariants.{Load, Store, Jump, Jz, MovC, MovR, Bin, Out}
use Rattle.risc_machine.specs.declared.parts.Line.{Line}

-- Registers -------------------------------------------------------------------------------------------------------

part_below : (P : Plan) (d : ℕ) → part_register P d < 8
part_below P d = go (cases_lt d (length (frees P)))
  where
    go : (d < length (frees P)) ⊎ (length (frees P) ≤ d) → part_register P d < 8
    go (inl lt) = let low = reg_low P d lt in omega arith
    go (inr past) = let none : part_register P d ≡ 0 = get_or_past (frees P) d 0 past in omega arith

held_below : (P : Plan) (x s : ℕ) → length P ≡ 8 → held P x ≡ Some s → s < 8
held_below P x s l e = go (cases_lt s (length P))
  where
    go : (s < length P) ⊎ (length P ≤ s) → s < 8
    go (inl lt) = omega arith
    go (inr past) = absurd (let n : None ≡ Some x = sym (get_or_past P s None past) ∙ held_is P x s e in cc)

-- A plan stays one of eight registers.

fetched_long : (st : ℕ → Bool) (w : ℕ) (xs : List ℕ) (P : Plan) → length P ≡ 8 → length (fetch_plan st w xs P) ≡ 8
fetched_long st w [] P l = l
fetched_long st w (x ∷ xs) P l = fetched_long st w xs (fetched_plan P x (fetch_at st w P x)) (go (fetch_at st w P x))
  where
    go : (o : Option ℕ) → length (fetched_plan P x o) ≡ 8
    go None = l
    go (Some r) = length-set P r (Some x) ∙ l

room_made : (P : Plan) (e : Term) → length P ≡ 8 → length (expr_room P e) ≡ 8
room_made P e l = length-set (room P (width e)) 7 None ∙ room_long P (width e) ∙ l

expr_long : (st : ℕ → Bool) (P : Plan) (e : Term) → length P ≡ 8 → length (expr_plan st P e) ≡ 8
expr_long st P e l = fetched_long st (width e) (occurrences e) (expr_room P e) (room_made P e l)

eval_long : (st : ℕ → Bool) (P : Plan) (e : Term) (o : Option ℕ) → length P ≡ 8 → length (eval_plan st P e o) ≡ 8
eval_long st P e None l = expr_long st P e l
eval_long st P e (Some r) l = l

store_long : (b : Bool) (P : Plan) (x r : ℕ) → length P ≡ 8 → length (store_plan b P x r) ≡ 8
store_long true P x r l = length-set (stored P x) r (Some x) ∙ length-map P _ ∙ l
store_long false P x r l = length-map P _ ∙ l

module _ (p : Plain) (t : ℕ) where
  mutual
    cmd_long : (c : Cmd) (H : List Bool) (P : Plan) → length P ≡ 8 → length (cmd_plan p t c H P) ≡ 8
    cmd_long (assign x e) H P l =
        let st = is_stable p t H in
        let o = store_from st P x e in
        store_long (st x) (eval_plan st P e o) x (eval_register st P e o) (eval_long st P e o l)
    cmd_long (branch e a b) H P l =
        let Q = eval_plan (is_stable p t H) P e (direct (is_stable p t H) P e) in
        let long = eval_long (is_stable p t H) P e (direct (is_stable p t H) P e) l in
        meet_long (block_plan p t a H Q) (block_plan p t b H Q) 8 (block_long a H Q long) (block_long b H Q long)
    cmd_long (loop e a) H P l = expr_long (is_stable p t H) start e refl
    cmd_long (output e) H P l = expr_long (is_stable p t H) P e l
    cmd_long c H P l = (settled p t c H P refl).long ∙ l

    block_long : (c : Cmds) (H : List Bool) (P : Plan) → length P ≡ 8 → length (block_plan p t c H P) ≡ 8
    block_long none H P l = l
    block_long (next at c cs) H P l = block_long cs (locks_after c H) (cmd_plan p t c H P) (cmd_long c H P l)

-- Ids in range ----------------------------------------------------------------------------------------------------

module _ (vars locks version : ℕ) where
  -- of the blocks of a statement, by what is said of each
  abbrev AreFineInside : Inside (Type 0) → Type 0
  AreFineInside nothing = Unit {0}
  AreFineInside (turns e a) = a
  AreFineInside (either e a b) = a × b

  -- ids are in range, and outputs are of their version
  pub record IsFineBy (c : Cmd) (inside : Inside (Type 0)) : Type 0 where
    pub assigned : IfSome (parts c).assigned (λ x. x < vars)
    pub evaluated : IfSome (parts c).evaluated (λ e. HasVarsBelow e vars)
    pub printed : IfSome (parts c).printed (λ e. nat_le 2 version ≡ true)
    pub taken : IfSome (parts c).taken (λ l. l < locks)
    pub returned : IfSome (parts c).returned (λ l. l < locks)
    pub blocks : AreFineInside inside

  -- of a statement and the rest
  abbrev BeginsFine : (at : ℕ) → Cmd → Inside (Type 0) → (rest : Type 0) → Type 0
  BeginsFine at c inside rest = IsFineBy c inside × rest

  abbrev pub IsCmdFine : Cmd → Type 0
  IsCmdFine c = IsFineBy c (made_inside (Unit {0}) BeginsFine c)

  -- statements one after another
  abbrev pub AreFine : Cmds → Type 0
  AreFine b = made (Unit {0}) BeginsFine b

  mutual
    fine_stm : (s : Stm) (at : ℕ) (rest : Cmds) → IsStmInRange vars locks s → (nat_le 2 version ≡ true) ⊎ IsSilentStm s → AreFine rest → AreFine (plain_stm s at rest)
    fine_stm (annotated.assign x e q retypes) at rest r v k =
        (record { assigned = r.0; evaluated = r.1; printed = tt; taken = tt; returned = tt; blocks = tt }, k)
    fine_stm (annotated.branch e a b join) at rest r v k = (
      record {
        assigned = tt;
        evaluated = r.0;
        printed = tt;
        taken = tt;
        returned = tt;
        blocks = (fine_block a r.1 (⊎_elim (λ s. inl s) (λ s. inr s.0) v), fine_block b r.2 (⊎_elim (λ s. inl s) (λ s. inr s.1) v));
      },
      k,
    )
    fine_stm (annotated.loop e inv b) at rest r v k =
        (record { assigned = tt; evaluated = r.0; printed = tt; taken = tt; returned = tt; blocks = fine_block b r.2 v }, k)
    fine_stm (annotated.note j) at rest r v k = k
    fine_stm (annotated.output e) at rest r v k =
        (record { assigned = tt; evaluated = r; printed = ⊎_elim (λ s. s) (λ s. absurd s) v; taken = tt; returned = tt; blocks = tt }, k)
    fine_stm _ at rest r v k = assumption

    pub fine_block : (b : Block) → IsBlockInRange vars locks b → (nat_le 2 version ≡ true) ⊎ IsSilent b → AreFine (plain_block b)
    fine_block done r v = tt
    fine_block (more at s proofs b) r v =
        fine_stm s at (plain_block b) r.0 (⊎_elim (λ s. inl s) (λ s. inr s.0) v) (fine_block b r.2 (⊎_elim (λ s. inl s) (λ s. inr s.1) v))

-- Lines -----------------------------------------------------------------------------------------------------------

-- the tests of a line, among so many lines
module _ (vars locks version lines : ℕ) where
  pub record PassesInstr (c : Instr) : Type 0 where
    pub registers : has_registers c ≡ true
    pub variable : has_variable vars c ≡ true
    pub lock : has_lock locks c ≡ true
    pub target : has_target lines c ≡ true
    pub output : has_version version c ≡ true

  abbrev AllPass : List Instr → Type 0
  AllPass [] = Unit {0}
  AllPass (c ∷ cs) = PassesInstr c × AllPass cs

  pass_append : (a b : List Instr) → AllPass a → AllPass b → AllPass (a ++ b)
  pass_append [] b h k = k
  pass_append (c ∷ a) b h k = (h.0, pass_append a b h.1 k)

  pub record PassesLine (l : Line) : Type 0 where
    pub weight : nat_le l.weight 2 ≡ true
    pub instr : PassesInstr l.instr

  abbrev pub LinesPass : List Line → Type 0
  LinesPass [] = Unit {0}
  LinesPass (l ∷ ls) = PassesLine l × LinesPass ls

  lines_append : (a b : List Line) → LinesPass a → LinesPass b → LinesPass (a ++ b)
  lines_append [] b h k = k
  lines_append (l ∷ a) b h k = (h.0, lines_append a b h.1 k)

  passes : (c : Instr) → has_registers c ≡ true → has_variable vars c ≡ true → has_lock locks c ≡ true → has_target lines c ≡ true → has_version version c ≡ true → PassesInstr c
  passes c a b d e f = record { registers = a; variable = b; lock = d; target = e; output = f }

  below_eight : (r : ℕ) → r < 8 → nat_lt r 8 ≡ true
  below_eight r h = lt-ltb r 8 h

  movc_passes : (r k : ℕ) → r < 8 → PassesInstr (MovC r k)
  movc_passes r k h = passes (MovC r k) (below_eight r h) refl refl refl refl

  movr_passes : (r q : ℕ) → r < 8 → q < 8 → PassesInstr (MovR r q)
  movr_passes r q h k = passes (MovR r q) (and_from (nat_lt r 8) (nat_lt q 8) (below_eight r h) (below_eight q k)) refl refl refl refl

  bin_passes : (P : Plan) (op : Op) (d : ℕ) → PassesInstr (Bin op (part_register P d) (part_register P (suc d)))
  bin_passes P op d =
      passes (Bin op (part_register P d) (part_register P (suc d)))
      (and_from (nat_lt (part_register P d) 8) (nat_lt (part_register P (suc d)) 8) (below_eight _ (part_below P d)) (below_eight _ (part_below P (suc d)))) refl refl refl refl

  load_passes : (r x : ℕ) → r < 8 → x < vars → PassesInstr (Load r x)
  load_passes r x h k = passes (Load r x) (below_eight r h) (lt-ltb x vars k) refl refl refl

  term_pass : (st : ℕ → Bool) (P : Plan) (e : Term) (d : ℕ) → length P ≡ 8 → HasVarsBelow e vars → AllPass (term_instrs st P e d)
  term_pass st P (const k) d l h = (movc_passes (part_register P d) k (part_below P d), tt)
  term_pass st P (var x) d l h = go (st x) (held P x) refl
    where
      go : (b : Bool) (o : Option ℕ) → held P x ≡ o → AllPass (var_instr b o (part_register P d) x ∷ [])
      go true None e = (load_passes (part_register P d) x (part_below P d) h, tt)
      go true (Some q) e = (movr_passes (part_register P d) q (part_below P d) (held_below P x q l e), tt)
      go false o e = (movr_passes (part_register P d) 7 (part_below P d) (omega arith), tt)
  term_pass st P (neg e) d l h =
      pass_append (term_instrs st P e d) (MovC (part_register P (suc d)) 0 ∷ Bin Eq (part_register P d) (part_register P (suc d)) ∷ []) (term_pass st P e d l h)
      (movc_passes (part_register P (suc d)) 0 (part_below P (suc d)), (bin_passes P Eq d, tt))
  term_pass st P (bin op a b) d l h =
      pass_append (term_instrs st P a d) (term_instrs st P b (suc d) ++ (Bin op (part_register P d) (part_register P (suc d)) ∷ [])) (term_pass st P a d l h.0)
      (pass_append (term_instrs st P b (suc d)) (Bin op (part_register P d) (part_register P (suc d)) ∷ []) (term_pass st P b (suc d) l h.1) (bin_passes P op d, tt))

  abbrev AllBelow : List ℕ → Type 0
  AllBelow [] = Unit {0}
  AllBelow (x ∷ xs) = (x < vars) × AllBelow xs

  below_append : (xs ys : List ℕ) → AllBelow xs → AllBelow ys → AllBelow (xs ++ ys)
  below_append [] ys h k = k
  below_append (x ∷ xs) ys h k = (h.0, below_append xs ys h.1 k)

  occurrences_below : (e : Term) → HasVarsBelow e vars → AllBelow (occurrences e)
  occurrences_below (const k) h = tt
  occurrences_below (var x) h = (h, tt)
  occurrences_below (neg e) h = occurrences_below e h
  occurrences_below (bin op a b) h = below_append (occurrences a) (occurrences b) (occurrences_below a h.0) (occurrences_below b h.1)

  fetch_pass : (st : ℕ → Bool) (w : ℕ) (xs : List ℕ) (P : Plan) → AllBelow xs → AllPass (fetch_instrs st w xs P)
  fetch_pass st w [] P h = tt
  fetch_pass st w (x ∷ xs) P h = go (fetch_at st w P x) refl (λ Q. fetch_pass st w xs Q h.1)
    where
      go : (o : Option ℕ) → fetch_at st w P x ≡ o → ((Q : Plan) → AllPass (fetch_instrs st w xs Q)) → AllPass (load_into x o ++ fetch_instrs st w xs (fetched_plan P x o))
      go None e ih = ih P
      go (Some r) e ih =
          let k = part_in P w r (fetch_some st w P x r e).2 in
          let low = reg_low P w k.0 in
          (load_passes r x (let same = k.1 in omega arith) h.0, ih (keep P x r))

  -- the variable, if there is one, is in range
  abbrev IsBelow : Option ℕ → Type 0
  IsBelow None = Unit {0}
  IsBelow (Some x) = x < vars

  first_below : (o q : Option ℕ) → IsBelow o → IsBelow q → IsBelow (option_or o q)
  first_below None q a b = b
  first_below (Some x) q a b = a

  unstable_below : (st : ℕ → Bool) (e : Term) → HasVarsBelow e vars → IsBelow (unstable_of st e)
  unstable_below st (const k) h = tt
  unstable_below st (var x) h = go (st x)
    where
      go : (b : Bool) → IsBelow (if b then None else Some x)
      go true = tt
      go false = h
  unstable_below st (neg e) h = unstable_below st e h
  unstable_below st (bin op a b) h = first_below (unstable_of st a) (unstable_of st b) (unstable_below st a h.0) (unstable_below st b h.1)

  loaded_passes : (o : Option ℕ) → IsBelow o → AllPass (load_unstable o)
  loaded_passes None h = tt
  loaded_passes (Some x) h = (load_passes 7 x (omega arith) h, tt)

  weighed_rest : (cs : List Instr) → AllPass cs → LinesPass (map (line 0) cs)
  weighed_rest [] h = tt
  weighed_rest (c ∷ cs) h = (record { weight = refl; instr = h.0 }, weighed_rest cs h.1)

  weighed : (cs : List Instr) → AllPass cs → LinesPass (weigh cs)
  weighed [] h = tt
  weighed (c ∷ cs) h = (record { weight = refl; instr = h.0 }, weighed_rest cs h.1)

  expr_pass : (st : ℕ → Bool) (P : Plan) (e : Term) → length P ≡ 8 → HasVarsBelow e vars → LinesPass (expr_lines st P e)
  expr_pass st P e l h =
      weighed (expr_instrs st P e)
      (pass_append (load_unstable (unstable_of st e)) _ (loaded_passes (unstable_of st e) (unstable_below st e h))
      (pass_append (fetch_instrs st (width e) (occurrences e) (expr_room P e)) _ (fetch_pass st (width e) (occurrences e) (expr_room P e) (occurrences_below e h))
      (term_pass st (expr_plan st P e) e 0 (expr_long st P e l) h)))

  eval_pass : (st : ℕ → Bool) (P : Plan) (e : Term) (o : Option ℕ) → length P ≡ 8 → HasVarsBelow e vars → LinesPass (eval_lines st P e o)
  eval_pass st P e None l h = expr_pass st P e l h
  eval_pass st P e (Some r) l h = tt

  direct_below : (st : ℕ → Bool) (P : Plan) (e : Term) (s : ℕ) → length P ≡ 8 → direct st P e ≡ Some s → s < 8
  direct_below st P (const k) s l e = absurd cc
  direct_below st P (var x) s l e = go (st x) e
    where
      go : (b : Bool) → (if b then held P x else None) ≡ Some s → s < 8
      go true e = held_below P x s l e
      go false e = absurd cc
  direct_below st P (neg a) s l e = absurd cc
  direct_below st P (bin op a b) s l e = absurd cc

  from_below : (st : ℕ → Bool) (P : Plan) (x : ℕ) (e : Term) (s : ℕ) → length P ≡ 8 → store_from st P x e ≡ Some s → s < 8
  from_below st P x e s l = go (st x)
    where
      go : (b : Bool) → (if b then None else direct st P e) ≡ Some s → s < 8
      go true e = absurd cc
      go false k = direct_below st P e s l k

  register_below : (st : ℕ → Bool) (P : Plan) (e : Term) (o : Option ℕ) → ((s : ℕ) → o ≡ Some s → s < 8) → eval_register st P e o < 8
  register_below st P e None f = part_below (expr_plan st P e) 0
  register_below st P e (Some s) f = f s refl

  used_twice : (o : Option ℕ) → nat_le (use_weight o) 2 ≡ true
  used_twice None = refl
  used_twice (Some r) = refl

  target_in : (i : ℕ) → i ≤ lines → nat_le i lines ≡ true
  target_in i h = le-leb i lines h

  module _ (p : Plain) (t : ℕ) where
    mutual
      cmd_pass : (c : Cmd) (H : List Bool) (P : Plan) (i : ℕ) → length P ≡ 8 → IsCmdFine vars locks version c → i + length (cmd_lines p t c H P i) ≤ lines → LinesPass (cmd_lines p t c H P i)
      cmd_pass (assign x e) H P i l k n =
          let st = is_stable p t H in
          let o = store_from st P x e in
          let r = eval_register st P e o in
          let low = register_below st P e o (λ s q. from_below st P x e s l q) in
          lines_append (eval_lines st P e o) (line (use_weight o) (Store x r) ∷ []) (eval_pass st P e o l k.evaluated)
          (record { weight = used_twice o; instr = passes (Store x r) (below_eight r low) (lt-ltb x vars k.assigned) refl refl refl }, tt)
      cmd_pass (branch e a b) H P i l k n =
          let st = is_stable p t H in
          let o = direct st P e in
          let ce = eval_lines st P e o in
          let Q = eval_plan st P e o in
          let long = eval_long st P e o l in
          let r = eval_register st P e o in
          let low = register_below st P e o (λ s q. direct_below st P e s l q) in
          let at_a = suc (i + length ce) in
          let ca = block_lines p t a H Q at_a in
          let at_b = suc (at_a + length ca) in
          let cb = block_lines p t b H Q at_b in
          let j = line (use_weight o) (Jz r at_b) in
          let last = line 0 (Jump (at_b + length cb)) in
          let all : i + length (ce ++ (j ∷ (ca ++ (last ∷ cb)))) ≡ at_b + length cb = simp length-append (omega arith) in
          lines_append ce (j ∷ (ca ++ (last ∷ cb))) (eval_pass st P e o l k.evaluated) (
            record { weight = used_twice o; instr = passes (Jz r at_b) (below_eight r low) refl refl (target_in at_b (omega arith)) refl },
            lines_append ca (last ∷ cb) (block_pass a H Q at_a long k.blocks.0 (omega arith)) (
              record { weight = refl; instr = passes (Jump (at_b + length cb)) refl refl refl (target_in (at_b + length cb) (omega arith)) refl },
              block_pass b H Q at_b long k.blocks.1 (omega arith),
            ),
          )
      cmd_pass (loop e a) H P i l k n =
          let st = is_stable p t H in
          let ce = expr_lines st start e in
          let Q = expr_plan st start e in
          let long = expr_long st start e refl in
          let r = expr_register st start e in
          let at_a = suc (i + length ce) in
          let ca = block_lines p t a H Q at_a in
          let z = suc (at_a + length ca) in
          let j = line 1 (Jz r z) in
          let last = line 0 (Jump i) in
          let all : i + length (ce ++ (j ∷ (ca ++ (last ∷ [])))) ≡ z = simp length-append (omega arith) in
          lines_append ce (j ∷ (ca ++ (last ∷ []))) (expr_pass st start e refl k.evaluated) (
            record { weight = refl; instr = passes (Jz r z) (below_eight r (part_below Q 0)) refl refl (target_in z (omega arith)) refl },
            lines_append ca (last ∷ []) (block_pass a H Q at_a long k.blocks (omega arith)) (
              record { weight = refl; instr = passes (Jump i) refl refl refl (target_in i (omega arith)) refl },
              tt,
            ),
          )
      cmd_pass (output e) H P i l k n =
          let st = is_stable p t H in
          let r = expr_register st P e in
          lines_append (expr_lines st P e) (line 1 (Out r) ∷ []) (expr_pass st P e l k.evaluated)
          (record { weight = refl; instr = passes (Out r) (below_eight r (part_below (expr_plan st P e) 0)) refl refl refl k.printed }, tt)
      cmd_pass _ H P i l k n = (record { weight = refl; instr = passes _ refl refl (first_of (assumption, search lt-ltb)) refl refl }, tt)

      pub block_pass : (c : Cmds) (H : List Bool) (P : Plan) (i : ℕ) → length P ≡ 8 → AreFine vars locks version c → i + length (block_lines p t c H P i) ≤ lines → LinesPass (block_lines p t c H P i)
      block_pass none H P i l k n = tt
      block_pass (next at c cs) H P i l k n =
          let cc = cmd_lines p t c H P i in
          let Q = cmd_plan p t c H P in
          let ls = block_lines p t cs (locks_after c H) Q (i + length cc) in
          let all : i + length (cc ++ ls) ≡ i + length cc + length ls = simp length-append (omega arith) in
          lines_append cc ls (cmd_pass c H P i l k.0 (omega arith)) (block_pass cs (locks_after c H) Q (i + length cc) (cmd_long p t c H P l) k.1 (omega arith))
