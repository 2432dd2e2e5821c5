-- Lines of weight 0 lead forward, or to a line of weight 1.
use Rattle.std.proofs.Common.{◌≡◌, ◌⊎◌, ℕ, zero, suc, ◌+◌, ◌<◌, ◌≤◌, List, [], ◌∷◌, ◌++◌, length, map, Bool, Option, Some, None, refl, le_refl, sym, subst, subst₂, arith, IsTrue, inl, inr, slice_get, add-zero, zero-add}
use Rattle.cov_expr.specs.Term.{Term}
use Rattle.cov_ast.specs.LocksAlong.{locks_after}
use Rattle.cov_ast.specs.Plain.{Cmd, assign, branch, loop, output, Cmds, none, next, Plain}
use Rattle.mode_state.specs.Sets.{is_stable}
use Rattle.regalloc.specs.Plan.{Plan, start}
use Rattle.compiled_code.specs.Compiled.{line, weigh, expr_plan, expr_register, expr_instrs, expr_lines, direct, eval_lines, eval_plan, eval_register, use_weight, store_from, cmd_plan, cmd_lines, block_lines}
use Rattle.compiled_code.proofs.Cores.{IsStraight, Straight}
use Rattle.compiled_code.proofs.Gen.{ExprParts, expr_parts}
use Rattle.compiled_code.proofs.LaidOut.{IsTidyExpr, IsTidyCmd, IsTidy, at_left, at_right, at_all}
use Rattle.compiled_code.proofs.Shape.{At}
use Rattle.risc_machine.specs.declared.parts.Instr.{Instr}
use Rattle.risc_machine.specs.declared.parts.Instr.TheVariants.{Load, Store, Jump, Jz, MovC, MovR, Bin, Out}
use Rattle.risc_machine.specs.declared.parts.Line.{Line}

-- a line of weight 0 at i leads on, ahead or to a line of weight 1
abbrev pub Leads : List Line → ℕ → Instr → Type 0
Leads lines i (Jump k) = (i < k) ⊎ ((c : Instr) × (slice_get lines k ≡ Some (line 1 c)))
Leads lines i c = IsStraight c

abbrev pub LeadsAt : List Line → ℕ → Line → Type 0
LeadsAt lines i l = (l.weight ≡ 0) × Leads lines i l.instr ⊎ (1 ≤ l.weight)

-- so does each of these lines, which stand from i on
abbrev pub AllLead : List Line → ℕ → List Line → Type 0
AllLead lines i [] = Unit {0}
AllLead lines i (l ∷ ls) = LeadsAt lines i l × AllLead lines (suc i) ls

lead_append : (lines : List Line) (i : ℕ) (a b : List Line) → AllLead lines i a → AllLead lines (i + length a) b → AllLead lines i (a ++ b)
lead_append lines i [] b h k = subst (λ j. AllLead lines j b) (add-zero i) k
lead_append lines i (l ∷ a) b h k = (h.0, lead_append lines (suc i) a b h.1 (subst (λ j. AllLead lines j b) (omega arith) k))

pub straight_leads : (lines : List Line) (i : ℕ) (c : Instr) → IsStraight c → Leads lines i c
straight_leads lines i (Load d x) s = s
straight_leads lines i (MovC d x) s = s
straight_leads lines i (MovR d x) s = s
straight_leads lines i (Bin o d x) s = s
straight_leads lines i (Jump k) s = absurd s
straight_leads lines i _ s = s

rest_lead : (lines : List Line) (P : ℕ → Type 0) (cs : List Instr) (i : ℕ) → Straight P cs → AllLead lines i (map (line 0) cs)
rest_lead lines P [] i s = tt
rest_lead lines P (c ∷ cs) i s = (inl (refl, straight_leads lines i c s.0), rest_lead lines P cs (suc i) s.2)

used : (o : Option ℕ) → 1 ≤ use_weight o
used None = omega arith
used (Some r) = omega arith

module _ (p : Plain) (t : ℕ) (lines : List Line) where
  expr_lead : (H : List Bool) (P : Plan) (e : Term) (i : ℕ) → IsTidyExpr p t H e → AllLead lines i (expr_lines (is_stable p t H) P e)
  expr_lead H P e i k = go (expr_instrs (is_stable p t H) P e) (expr_parts p t H P e k.narrow k.one_unstable)
    where
      go : (cs : List Instr) → ExprParts p t H P e cs → AllLead lines i (weigh cs)
      go cs q =
          subst (λ cs. AllLead lines i (weigh cs)) (sym q.is) (inr (le_refl 1), rest_lead lines (λ x. IsTrue (is_stable p t H x)) q.rest (suc i) q.rest_straight)

  eval_lead : (H : List Bool) (P : Plan) (e : Term) (i : ℕ) (o : Option ℕ) → IsTidyExpr p t H e → AllLead lines i (eval_lines (is_stable p t H) P e o)
  eval_lead H P e i None k = expr_lead H P e i k
  eval_lead H P e i (Some r) k = tt

  -- an expression begins with a line of weight 1
  expr_first : (H : List Bool) (P : Plan) (e : Term) (i : ℕ) (ls : List Line) → IsTidyExpr p t H e → At lines i (expr_lines (is_stable p t H) P e ++ ls)
      → (c : Instr) × (slice_get lines i ≡ Some (line 1 c))
  expr_first H P e i ls k h = go (expr_instrs (is_stable p t H) P e) (expr_parts p t H P e k.narrow k.one_unstable) h
    where
      go : (cs : List Instr) → ExprParts p t H P e cs → At lines i (weigh cs ++ ls) → (c : Instr) × (slice_get lines i ≡ Some (line 1 c))
      go cs q h = let h' = subst (λ cs. At lines i (weigh cs ++ ls)) q.is h in (q.first, h'.0)

  mutual
    cmd_lead : (c : Cmd) (H : List Bool) (P : Plan) (i : ℕ) → IsTidyCmd p t c H → At lines i (cmd_lines p t c H P i) → AllLead lines i (cmd_lines p t c H P i)
    cmd_lead (assign x e) H P i k h =
        let st = is_stable p t H in
        let o = store_from st P x e in
        lead_append lines i (eval_lines st P e o) (line (use_weight o) (Store x (eval_register st P e o)) ∷ []) (eval_lead H P e i o k.evaluated) (inr (used o), tt)
    cmd_lead (branch e a b) H P i k h =
        let st = is_stable p t H in
        let o = direct st P e in
        let ce = eval_lines st P e o in
        let Q = eval_plan st P e o in
        let at_a = suc (i + length ce) in
        let ca = block_lines p t a H Q at_a in
        let at_b = suc (at_a + length ca) in
        let cb = block_lines p t b H Q at_b in
        let j = line (use_weight o) (Jz (eval_register st P e o) at_b) in
        let last = line 0 (Jump (at_b + length cb)) in
        let h1 = at_right lines i ce (j ∷ (ca ++ (last ∷ cb))) h in
        let h2 = at_right lines at_a ca (last ∷ cb) h1.1 in
        lead_append lines i ce (j ∷ (ca ++ (last ∷ cb))) (eval_lead H P e i o k.evaluated) (
          inr (used o),
          lead_append lines at_a ca (last ∷ cb) (block_lead a H Q at_a k.blocks.0 (at_left lines at_a ca (last ∷ cb) h1.1))
              (inl (refl, inl (omega arith)), block_lead b H Q at_b k.blocks.1 h2.1),
        )
    cmd_lead (loop e a) H P i k h =
        let st = is_stable p t H in
        let ce = expr_lines st start e in
        let Q = expr_plan st start e in
        let at_a = suc (i + length ce) in
        let ca = block_lines p t a H Q at_a in
        let z = suc (at_a + length ca) in
        let j = line 1 (Jz (expr_register st start e) z) in
        let last = line 0 (Jump i) in
        let h1 = at_right lines i ce (j ∷ (ca ++ (last ∷ []))) h in
        lead_append lines i ce (j ∷ (ca ++ (last ∷ []))) (expr_lead H start e i k.evaluated) (
          inr (le_refl 1),
          lead_append lines at_a ca (last ∷ []) (block_lead a H Q at_a k.blocks.0 (at_left lines at_a ca (last ∷ []) h1.1))
              (inl (refl, inr (expr_first H start e i (j ∷ (ca ++ (last ∷ []))) k.evaluated h)), tt),
        )
    cmd_lead (output e) H P i k h =
        let st = is_stable p t H in
        lead_append lines i (expr_lines st P e) (line 1 (Out (expr_register st P e)) ∷ []) (expr_lead H P e i k.evaluated) (inr (le_refl 1), tt)
    cmd_lead _ H P i k h = (inr (le_refl 1), tt)

    block_lead : (c : Cmds) (H : List Bool) (P : Plan) (i : ℕ) → IsTidy p t c H → At lines i (block_lines p t c H P i) → AllLead lines i (block_lines p t c H P i)
    block_lead none H P i k h = tt
    block_lead (next at c cs) H P i k h =
        let cc = cmd_lines p t c H P i in
        let ls = block_lines p t cs (locks_after c H) (cmd_plan p t c H P) (i + length cc) in
        lead_append lines i cc ls (cmd_lead c H P i k.0 (at_left lines i cc ls h))
        (block_lead cs (locks_after c H) (cmd_plan p t c H P) (i + length cc) k.1 (at_right lines i cc ls h))

-- the property of a thread's lines
abbrev pub Forward : List Line → Type 0
Forward lines = (i : ℕ) (l : Line) → slice_get lines i ≡ Some l → LeadsAt lines i l

lead_get : (lines : List Line) (k : ℕ) (ls : List Line) (i : ℕ) (l : Line) → AllLead lines k ls → slice_get ls i ≡ Some l → LeadsAt lines (k + i) l
lead_get lines k [] i l h e = absurd cc
lead_get lines k (j ∷ ls) zero l h e = subst₂ (λ n j. LeadsAt lines n j) (sym (add-zero k)) (let q : j ≡ l = cc in q) h.0
lead_get lines k (j ∷ ls) (suc i) l h e = subst (λ n. LeadsAt lines n l) (omega arith) (lead_get lines (suc k) ls i l h.1 e)

pub body_forward : (p : Plain) (t : ℕ) (c : Cmds) (H : List Bool) → IsTidy p t c H → Forward (block_lines p t c H start 0)
body_forward p t c H k i l e =
    let lines = block_lines p t c H start 0 in
    subst (λ n. LeadsAt lines n l) (zero-add i) (lead_get lines 0 lines i l (block_lead p t lines c H start 0 k (at_all [] lines)) e)
