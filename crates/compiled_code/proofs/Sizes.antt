-- How many lines a body takes: at most three for each statement and for each node of what it evaluates.
use Rattle.std.proofs.Common.{◌≡◌, ℕ, suc, ◌+◌, ◌*◌, ◌≤◌, List, [], ◌∷◌, ◌++◌, length, map, Bool, Option, Some, None, refl, arith, length-append}
use Rattle.std.proofs.lemmas.List.{length-map}
use Rattle.cov_expr.specs.Term.{Term, const, var, neg, bin}
use Rattle.cov_expr.specs.Trees.{nodes, occurrences, width}
use Rattle.cov_ast.specs.LocksAlong.{locks_after}
use Rattle.cov_ast.specs.Plain.{Cmd, assign, branch, loop, output, Cmds, none, next, Plain, plain_stm, plain_block}
use Rattle.cov_ast.specs.Syntax.{Stm, Block, done, more}
use Rattle.cov_ast.specs.Syntax as annotated
use Rattle.cov_ast.specs.WellFormed.{stm_size, block_size}
use Rattle.mode_state.specs.Sets.{is_stable}
use Rattle.regalloc.specs.Plan.{Plan, start}
use Rattle.compiled_code.specs.Compiled.{line, weigh, unstable_of, load_unstable, term_instrs, fetch_at, fetched_plan, load_into, fetch_instrs, expr_room, expr_plan, expr_register, expr_instrs, expr_lines, direct, eval_lines, eval_plan, eval_register, use_weight, store_from, cmd_plan, cmd_lines, block_lines}
use Rattle.risc_machine.specs.declared.parts.Instr.{Instr}
use Rattle.risc_machine.specs.declared.parts.Instr.TheVariants.{Store, Jump, Jz, Out}

-- Expressions -----------------------------------------------------------------------------------------------------

few_occurrences : (e : Term) → length (occurrences e) ≤ nodes e
few_occurrences (const k) = omega arith
few_occurrences (var x) = omega arith
few_occurrences (neg e) = let k = few_occurrences e in omega arith
few_occurrences (bin op a b) =
    let k = few_occurrences a in
    let n = few_occurrences b in
    let e : length (occurrences a ++ occurrences b) ≡ length (occurrences a) + length (occurrences b) = length-append (occurrences a) (occurrences b) in
    omega arith

loaded_once : (o : Option ℕ) → length (load_unstable o) ≤ 1
loaded_once None = omega arith
loaded_once (Some x) = omega arith

fetch_size : (st : ℕ → Bool) (w : ℕ) (xs : List ℕ) (P : Plan) → length (fetch_instrs st w xs P) ≤ length xs
fetch_size st w [] P = omega arith
fetch_size st w (x ∷ xs) P = go (fetch_at st w P x) (λ Q. fetch_size st w xs Q)
  where
    go : (o : Option ℕ) → ((Q : Plan) → length (fetch_instrs st w xs Q) ≤ length xs) → length (load_into x o ++ fetch_instrs st w xs (fetched_plan P x o)) ≤ suc (length xs)
    go None ih = let k = ih P in omega arith
    go (Some r) ih = let k = ih (fetched_plan P x (Some r)) in omega arith

term_size : (st : ℕ → Bool) (P : Plan) (e : Term) (d : ℕ) → length (term_instrs st P e d) ≤ 2 * nodes e
term_size st P (const k) d = omega arith
term_size st P (var x) d = omega arith
term_size st P (neg e) d = let k = term_size st P e d in simp length-append (omega arith)
term_size st P (bin op a b) d =
    let k = term_size st P a d in
    let n = term_size st P b (suc d) in
    simp length-append (omega arith)

weighed : (cs : List Instr) → length (weigh cs) ≡ length cs
weighed [] = refl
weighed (c ∷ cs) = let e : length (map (line 0) cs) ≡ length cs = length-map cs (line 0) in omega arith

expr_size : (st : ℕ → Bool) (P : Plan) (e : Term) → length (expr_lines st P e) ≤ 1 + 3 * nodes e
expr_size st P e =
    let loaded = load_unstable (unstable_of st e) in
    let fetched = fetch_instrs st (width e) (occurrences e) (expr_room P e) in
    let parts = term_instrs st (expr_plan st P e) e 0 in
    let a = loaded_once (unstable_of st e) in
    let b = fetch_size st (width e) (occurrences e) (expr_room P e) in
    let c = few_occurrences e in
    let d = term_size st (expr_plan st P e) e 0 in
    let all : length (loaded ++ (fetched ++ parts)) ≡ length loaded + (length fetched + length parts) = simp length-append (omega arith) in
    let w : length (expr_lines st P e) ≡ length (loaded ++ (fetched ++ parts)) = weighed (expr_instrs st P e) in
    omega arith

eval_size : (st : ℕ → Bool) (P : Plan) (e : Term) (o : Option ℕ) → length (eval_lines st P e o) ≤ 1 + 3 * nodes e
eval_size st P e None = expr_size st P e
eval_size st P e (Some r) = omega arith

-- Statements ------------------------------------------------------------------------------------------------------

abbrev mutual
  pub cmd_size : Cmd → ℕ
  cmd_size (assign x e) = 1 + nodes e
  cmd_size (branch e a b) = 1 + nodes e + cmds_size a + cmds_size b
  cmd_size (loop e a) = 1 + nodes e + cmds_size a
  cmd_size (output e) = 1 + nodes e
  cmd_size _ = 1

  -- statements and the nodes of what they evaluate
  pub cmds_size : Cmds → ℕ
  cmds_size none = 0
  cmds_size (next at c cs) = cmd_size c + cmds_size cs

mutual
  stm_sized : (s : Stm) (at : ℕ) (rest : Cmds) → cmds_size (plain_stm s at rest) ≤ 1 + stm_size s + cmds_size rest
  stm_sized (annotated.branch e a b join) at rest = let k = block_sized a in let n = block_sized b in omega arith
  stm_sized (annotated.loop e inv b) at rest = let k = block_sized b in omega arith
  stm_sized _ at rest = omega arith

  pub block_sized : (b : Block) → cmds_size (plain_block b) ≤ block_size b
  block_sized done = omega arith
  block_sized (more at s proofs b) = let k = stm_sized s at (plain_block b) in let n = block_sized b in omega arith

module _ (p : Plain) (t : ℕ) where
  mutual
    cmd_few : (c : Cmd) (H : List Bool) (P : Plan) (i : ℕ) → length (cmd_lines p t c H P i) ≤ 3 * cmd_size c
    cmd_few (assign x e) H P i =
        let st = is_stable p t H in
        let o = store_from st P x e in
        let k = eval_size st P e o in
        let all : length (eval_lines st P e o ++ (line (use_weight o) (Store x (eval_register st P e o)) ∷ [])) ≡ length (eval_lines st P e o) + 1 =
        length-append (eval_lines st P e o) (line (use_weight o) (Store x (eval_register st P e o)) ∷ []) in
        omega arith
    cmd_few (branch e a b) H P i =
        let st = is_stable p t H in
        let o = direct st P e in
        let ce = eval_lines st P e o in
        let Q = eval_plan st P e o in
        let at_a = suc (i + length ce) in
        let ca = block_lines p t a H Q at_a in
        let at_b = suc (at_a + length ca) in
        let cb = block_lines p t b H Q at_b in
        let j = line (use_weight o) (Jz (eval_register st P e o) at_b) in
        let last = line 0 (Jump (at_b + length cb)) in
        let k = eval_size st P e o in
        let m = block_few a H Q at_a in
        let n = block_few b H Q at_b in
        let all : length (ce ++ (j ∷ (ca ++ (last ∷ cb)))) ≡ length ce + (1 + (length ca + (1 + length cb))) = simp length-append (omega arith) in
        omega arith
    cmd_few (loop e a) H P i =
        let st = is_stable p t H in
        let ce = expr_lines st start e in
        let Q = expr_plan st start e in
        let at_a = suc (i + length ce) in
        let ca = block_lines p t a H Q at_a in
        let j = line 1 (Jz (expr_register st start e) (suc (at_a + length ca))) in
        let last = line 0 (Jump i) in
        let k = expr_size st start e in
        let m = block_few a H Q at_a in
        let all : length (ce ++ (j ∷ (ca ++ (last ∷ [])))) ≡ length ce + (1 + (length ca + 1)) = simp length-append (omega arith) in
        omega arith
    cmd_few (output e) H P i =
        let st = is_stable p t H in
        let k = expr_size st P e in
        let all : length (expr_lines st P e ++ (line 1 (Out (expr_register st P e)) ∷ [])) ≡ length (expr_lines st P e) + 1 =
        length-append (expr_lines st P e) (line 1 (Out (expr_register st P e)) ∷ []) in
        omega arith
    cmd_few _ H P i = omega arith

    pub block_few : (c : Cmds) (H : List Bool) (P : Plan) (i : ℕ) → length (block_lines p t c H P i) ≤ 3 * cmds_size c
    block_few none H P i = omega arith
    block_few (next at c cs) H P i =
        let cc = cmd_lines p t c H P i in
        let ls = block_lines p t cs (locks_after c H) (cmd_plan p t c H P) (i + length cc) in
        let k = cmd_few c H P i in
        let n = block_few cs (locks_after c H) (cmd_plan p t c H P) (i + length cc) in
        let all : length (cc ++ ls) ≡ length cc + length ls = length-append cc ls in
        omega arith
