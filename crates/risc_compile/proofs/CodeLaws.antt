-- Laws of the code of statements.
use Rattle.std.proofs.Common.{◌≡◌, ℕ, suc, ◌+◌, List, [], ◌∷◌, ◌++◌, Bool, false, length, set, Option, None, refl, sym, ◌∙◌, ap, ap₂, subst, arith, append_assoc, length-append}
use Rattle.std.proofs.Math.Seq.{set-append_seam}
use Rattle.std.proofs.lemmas.List.{append-nil}
use Rattle.cov_expr.specs.Term.{Term}
use Rattle.cov_expr.specs.Words.{HasVarsBelow}
use Rattle.cov_ast.specs.LocksAlong.{locks_after, locks_at_end}
use Rattle.cov_ast.specs.Plain.{Plain, Cmd, Cmds, none, next, plain_stm, plain_block}
use Rattle.cov_ast.specs.Plain as plain
use Rattle.cov_ast.specs.Syntax.{State, Stm, Block, done, more, assign, branch, loop, note, output}
use Rattle.cov_ast.specs.WellFormed.{IsBlockInRange, IsStmInRange}
use Rattle.mode_state.specs.Sets.{Sets, is_stable, modes_at}
use Rattle.regalloc.specs.Plan.{Plan, start, restrict, meet}
use Rattle.regalloc.specs.Stable.{KeepsBelow, KeepsStable}
use Rattle.compiled_code.specs.Compiled.{block_lines, block_plan, cmd_lines, cmd_plan, direct, eval_lines, eval_plan, eval_register, line, store_from}
use Rattle.risc_compile.specs.Inside.{AddsBlock, AddsGuarded, Stands, WhereStable, after, after_guarded, after_value, used_value, with_lines}
use Rattle.risc_compile.specs.declared.expressions.Value.{Value}
use Rattle.risc_compile.specs.declared.emitter.Emitter.{Emitter}
use Rattle.risc_compile.proofs.PlanLaws.{below_less, eval_below, expr_below, meet_less, restrict_less, start_below, store_below}
use Rattle.risc_machine.specs.declared.parts.Instr.TheVariants.{Jump, Jz, Release}
use Rattle.risc_machine.specs.declared.parts.Line.{Line}

-- What is kept after statements ----------------------------------------------------------------------------------

module _ (p : Plain) (t : ℕ) where
  restricted_below : (locks : List Bool) (plan : Plan) → KeepsBelow (length p.vars) plan → KeepsBelow (length p.vars) (restrict (is_stable p t locks) plan)
  restricted_below locks plan below = below_less (length p.vars) _ plan (restrict_less (is_stable p t locks) plan) below

  mutual
    stm_below : (s : Stm) (rest : Cmds) (at : ℕ) → IsStmInRange (length p.vars) (length p.locks) s → (locks : List Bool) (plan : Plan) → KeepsBelow (length p.vars) plan
        → ((locks : List Bool) (plan : Plan) → KeepsBelow (length p.vars) plan → KeepsBelow (length p.vars) (block_plan p t rest locks plan))
        → KeepsBelow (length p.vars) (block_plan p t (plain_stm s at rest) locks plan)
    stm_below (assign x e q retypes) rest at range locks plan below go =
        let stable = is_stable p t locks in
        let from = store_from stable plan x e in
        go locks _ (store_below (length p.vars) (stable x) (eval_plan stable plan e from) x (eval_register stable plan e from) range.0
        (eval_below (length p.vars) stable e plan from range.1 below))
    stm_below (branch e a b join) rest at range locks plan below go =
        let stable = is_stable p t locks in
        let inside = eval_plan stable plan e (direct stable plan e) in
        let kept = eval_below (length p.vars) stable e plan (direct stable plan e) range.0 below in
        go (locks_at_end (plain_block a) locks) _
        (below_less (length p.vars) _ (block_plan p t (plain_block a) locks inside) (meet_less (block_plan p t (plain_block a) locks inside) (block_plan p t (plain_block b) locks inside))
        (block_below a range.1 locks inside kept))
    stm_below (loop e inv b) rest at range locks plan below go =
        go locks _ (expr_below (length p.vars) (is_stable p t locks) e start range.0 (start_below (length p.vars)))
    stm_below (output e) rest at range locks plan below go = go locks _ (expr_below (length p.vars) (is_stable p t locks) e plan range below)
    stm_below _ rest at range locks plan below go = go _ _ (first_of (assumption, search restricted_below))

    pub block_below : (b : Block) → IsBlockInRange (length p.vars) (length p.locks) b → (locks : List Bool) (plan : Plan) → KeepsBelow (length p.vars) plan
        → KeepsBelow (length p.vars) (block_plan p t (plain_block b) locks plan)
    block_below done range locks plan below = below
    block_below (more at s proofs b) range locks plan below = stm_below s (plain_block b) at range.0 locks plan below (block_below b range.2)

  pub after_stands : (e : Emitter) (b : Block) → IsBlockInRange (length p.vars) (length p.locks) b → Stands p t e → Stands p t (after p t (plain_block b) e)
  after_stands e b range h = record { modes = refl; below = block_below b range e.modes.held e.plan h.below }

  pub stm_stands : (e : Emitter) (s : Stm) → IsStmInRange (length p.vars) (length p.locks) s → Stands p t e → Stands p t (after p t (plain_stm s 0 none) e)
  stm_stands e s range h = after_stands e (more 0 s [] done) (range, λ k d past. absurd (omega arith), tt) h

  pub after_none : (e : Emitter) → Stands p t e → after p t none e ≡ e
  after_none e h = ap₂ (λ (ls : List Line) (ms : Sets). let r : Emitter = record { lines = ls; plan = e.plan; modes = ms } in r) (append-nil e.lines) (sym h.modes)

  -- One statement and others -------------------------------------------------------------------------------------

  then_rest : (c : Cmd) (cs : Cmds) (at : ℕ) (e : Emitter) → after p t (next at c cs) e ≡ after p t cs (after p t (next 0 c none) e)
  then_rest c cs at e =
      let lines = cmd_lines p t c e.modes.held e.plan (length e.lines) in
      let rest = λ (i : ℕ). block_lines p t cs (locks_after c e.modes.held) (cmd_plan p t c e.modes.held e.plan) i in
      let same : e.lines ++ (lines ++ rest (length e.lines + length lines)) ≡ (e.lines ++ (lines ++ [])) ++ rest (length (e.lines ++ (lines ++ []))) =
      ap (λ (n : ℕ). e.lines ++ (lines ++ rest n)) (sym (length-append e.lines lines)) ∙ sym (append_assoc e.lines lines (rest (length (e.lines ++ lines))))
      ∙ ap (λ (ls : List Line). (e.lines ++ ls) ++ rest (length (e.lines ++ ls))) (sym (append-nil lines)) in
      ap (λ (ls : List Line). let r : Emitter = record (after p t (next at c cs) e) { lines = ls } in r) same

  pub after_more : (s : Stm) (at : ℕ) (cs : Cmds) (e : Emitter) → Stands p t e → after p t (plain_stm s at cs) e ≡ after p t cs (after p t (plain_stm s 0 none) e)
  after_more (note j) at cs e h = ap (after p t cs) (sym (after_none e h))
  after_more _ at cs e h = search then_rest

  -- Locks --------------------------------------------------------------------------------------------------------

  -- a lock is given back: what isn't stable without it isn't kept any longer
  pub unlocked : (l : ℕ) (old pushed : Emitter) (gave : Sets) (plan : Plan) → pushed ≡ with_lines old (line 1 (Release l) ∷ [])
      → gave ≡ record pushed.modes { held = set pushed.modes.held l false } → KeepsStable gave pushed.plan plan → Stands p t old
      → (let held = set old.modes.held l false in
      ◌≡◌ {A = Emitter} (record { lines = pushed.lines; plan = plan; modes = gave })
      (record { lines = old.lines ++ (line 1 (Release l) ∷ []); plan = restrict (is_stable p t held) old.plan; modes = modes_at p t held }))
  unlocked l old pushed gave plan is gives keeps h =
      let held = set old.modes.held l false in
      let modes : gave ≡ modes_at p t held =
      gives ∙ ap (λ (e : Emitter). let s : Sets = record e.modes { held = set e.modes.held l false } in s) is
      ∙ ap (λ (s : Sets). let r : Sets = record s { held = held } in r) h.modes in
      let kept : plan ≡ restrict (is_stable p t held) old.plan =
      keeps p t held modes (subst (λ (e : Emitter). KeepsBelow (length p.vars) e.plan) (sym is) h.below) ∙ ap (λ (e : Emitter). restrict (is_stable p t held) e.plan) is in
      (λ i. let r : Emitter = record { lines = (is i).lines; plan = kept i; modes = modes i } in r)

-- Branches and loops ---------------------------------------------------------------------------------------------

-- a line between others
between : (first others : List Line) (z y j : Line) → set (((first ++ z ∷ []) ++ others) ++ j ∷ []) (length first) y ≡ first ++ y ∷ (others ++ j ∷ [])
between first others z y j =
    ap (λ (ls : List Line). set ls (length first) y) (append_assoc (first ++ z ∷ []) others (j ∷ []) ∙ append_assoc first (z ∷ []) (others ++ j ∷ []))
    ∙ set-append_seam first z (others ++ j ∷ []) y

-- the last line of those before others
last_before : (first body others : List Line) (z j y : Line) (k : ℕ) → length (first ++ z ∷ (body ++ j ∷ [])) ≡ k + 1
    → set ((first ++ z ∷ (body ++ j ∷ [])) ++ others) k y ≡ first ++ z ∷ (body ++ y ∷ others)
last_before first body others z j y k at =
    let split : (first ++ z ∷ (body ++ j ∷ [])) ++ others ≡ (first ++ z ∷ body) ++ j ∷ others =
    append_assoc first (z ∷ (body ++ j ∷ [])) others ∙ ap (λ (ls : List Line). first ++ z ∷ ls) (append_assoc body (j ∷ []) others) ∙ sym (append_assoc first (z ∷ body) (j ∷ others)) in
    let here : k ≡ length (first ++ z ∷ body) =
    omega (arith, at, length-append first (z ∷ (body ++ j ∷ [])), length-append body (j ∷ []), length-append first (z ∷ body)) in
    ap₂ (λ (ls : List Line) (n : ℕ). set ls n y) split here ∙ set-append_seam (first ++ z ∷ body) j others y ∙ append_assoc first (z ∷ body) (y ∷ others)

module _ (p : Plain) (t : ℕ) where
  pub guarded_code : (value : Value) (b : Block) (target start end : ℕ) (old first m pushed new : Emitter) → start ≡ length old.lines
      → first ≡ with_lines old (line value.weight (Jz value.register 0) ∷ []) → AddsBlock b first m → pushed ≡ with_lines m (line 0 (Jump target) ∷ [])
      → end ≡ length pushed.lines → new ≡ record pushed { lines = set pushed.lines start (line value.weight (Jz value.register end)) }
      → Stands p t old → IsBlockInRange (length p.vars) (length p.locks) b → new ≡ after_guarded p t value (plain_block b) target old
  guarded_code value b target start end old first m pushed new at one adds two past patched h range =
      let cmds = plain_block b in
      let z = line value.weight (Jz value.register 0) in
      let j = line 0 (Jump target) in
      let inside = with_lines old (z ∷ []) in
      let stands : Stands p t inside = record { modes = h.modes; below = h.below } in
      let middle : m ≡ after p t cmds inside = adds p t (subst (Stands p t) (sym one) stands) range ∙ ap (after p t cmds) one in
      let ended = with_lines (after p t cmds inside) (j ∷ []) in
      let whole : pushed ≡ ended = two ∙ ap (λ (e : Emitter). with_lines e (j ∷ [])) middle in
      let body = λ (i : ℕ). block_lines p t cmds old.modes.held old.plan i in
      let here : length (old.lines ++ z ∷ []) ≡ suc (length old.lines) = omega (arith, length-append old.lines (z ∷ [])) in
      let there : length ended.lines ≡ suc (suc (length old.lines) + length (body (suc (length old.lines)))) =
      ap (λ (i : ℕ). length (((old.lines ++ z ∷ []) ++ body i) ++ j ∷ [])) here
      ∙ omega (arith, length-append ((old.lines ++ z ∷ []) ++ body (suc (length old.lines))) (j ∷ []), length-append (old.lines ++ z ∷ []) (body (suc (length old.lines))), here) in
      let jz = line value.weight (Jz value.register (suc (suc (length old.lines) + length (body (suc (length old.lines)))))) in
      let lines : set ended.lines (length old.lines) jz ≡ old.lines ++ jz ∷ (body (suc (length old.lines)) ++ j ∷ []) =
      ap (λ (i : ℕ). set (((old.lines ++ z ∷ []) ++ body i) ++ j ∷ []) (length old.lines) jz) here ∙ between old.lines (body (suc (length old.lines))) z jz j in
      patched ∙ (λ i. let r : Emitter = record (whole i) { lines = set (whole i).lines (at i) (line value.weight (Jz value.register ((past ∙ ap (λ (e : Emitter). length e.lines) whole ∙ there) i))) } in r)
      ∙ ap (λ (ls : List Line). let r : Emitter = record (after_guarded p t value cmds target old) { lines = ls } in r) lines

  evaluated_stands : (e : Emitter) (a : Term) (from : Option ℕ) → HasVarsBelow a (length p.vars) → Stands p t e → Stands p t (after_value (is_stable p t e.modes.held) a from e)
  evaluated_stands e a from inside h = record { modes = h.modes; below = eval_below (length p.vars) (is_stable p t e.modes.held) a e.plan from inside h.below }

  pub branch_code : (a : Term) (then_block else_block : Block) (join : State) (value : Value) (jump end : ℕ) (kept : Plan) (old one m two n q : Emitter)
      → WhereStable old.modes a (λ stable. let from = direct stable old.plan a in (one ≡ after_value stable a from old) × (value ≡ used_value stable a from old))
      → AddsGuarded value then_block 0 one m → length m.lines ≡ jump + 1 → two ≡ record one { lines = m.lines } → AddsBlock else_block two n → end ≡ length n.lines
      → q ≡ record n { lines = set n.lines jump (line 0 (Jump end)) } → kept ≡ meet m.plan q.plan
      → Stands p t old → IsStmInRange (length p.vars) (length p.locks) (branch a then_block else_block join)
      → ◌≡◌ {A = Emitter} (record { lines = q.lines; plan = kept; modes = m.modes }) (after p t (next 0 (plain.branch a (plain_block then_block) (plain_block else_block)) none) old)
  branch_code a then_block else_block join value jump end kept old one m two n q eval guards at second adds past patched met h range =
      let stable = is_stable p t old.modes.held in
      let from = direct stable old.plan a in
      let begun = eval p t h.modes range.0 in
      let inside = after_value stable a from old in
      let used = used_value stable a from old in
      let stands : Stands p t inside = evaluated_stands old a from range.0 h in
      let yes_cmds = plain_block then_block in
      let no_cmds = plain_block else_block in
      let first : m ≡ after_guarded p t used yes_cmds 0 inside =
      guards p t (subst (Stands p t) (sym begun.0) stands) range.1 ∙ (λ i. after_guarded p t (begun.1 i) yes_cmds 0 (begun.0 i)) in
      let arm : Emitter = record inside { lines = (after_guarded p t used yes_cmds 0 inside).lines } in
      let entered : two ≡ arm = second ∙ (λ i. let r : Emitter = record (begun.0 i) { lines = (first i).lines } in r) in
      let arm_stands : Stands p t arm = record { modes = stands.modes; below = stands.below } in
      let other : n ≡ after p t no_cmds arm = adds p t (subst (Stands p t) (sym entered) arm_stands) range.2 ∙ ap (after p t no_cmds) entered in
      let guard = eval_lines stable old.plan a from in
      let i = length old.lines in
      let k = length (old.lines ++ guard) in
      let body = λ (x : ℕ). block_lines p t yes_cmds old.modes.held inside.plan x in
      let rest = λ (x : ℕ). block_lines p t no_cmds old.modes.held inside.plan x in
      let jz = λ (x : ℕ). line used.weight (Jz used.register (suc (suc x + length (body (suc x))))) in
      let before = (old.lines ++ guard) ++ jz k ∷ (body (suc k) ++ line 0 (Jump 0) ∷ []) in
      let from_length : k ≡ i + length guard = length-append old.lines guard in
      let before_length : length before ≡ suc (suc k + length (body (suc k))) =
      omega (arith, length-append (old.lines ++ guard) (jz k ∷ (body (suc k) ++ line 0 (Jump 0) ∷ [])), length-append (body (suc k)) (line 0 (Jump 0) ∷ [])) in
      let last : end ≡ suc (suc k + length (body (suc k))) + length (rest (suc (suc k + length (body (suc k))))) =
      past ∙ ap (λ (e : Emitter). length e.lines) other ∙ length-append before (rest (length before))
      ∙ ap (λ (x : ℕ). x + length (rest x)) before_length in
      let goes = λ (x : ℕ). line 0 (Jump (suc (suc x + length (body (suc x))) + length (rest (suc (suc x + length (body (suc x))))))) in
      let all_lines = λ (x : ℕ). jz x ∷ (body (suc x) ++ goes x ∷ rest (suc (suc x + length (body (suc x))))) in
      let whole : (x : ℕ) → (old.lines ++ guard) ++ all_lines x ≡ old.lines ++ ((guard ++ all_lines x) ++ []) =
      λ x. append_assoc old.lines guard (all_lines x) ∙ ap (λ (ls : List Line). old.lines ++ ls) (sym (append-nil (guard ++ all_lines x))) in
      let n_at = i + length guard in
      let lines : q.lines ≡ old.lines ++ ((guard ++ all_lines n_at) ++ []) =
      ap (λ (e : Emitter). e.lines) patched ∙ (λ i. set (other i).lines jump (line 0 (Jump (last i))))
      ∙ ap (λ (x : ℕ). set (before ++ rest x) jump (goes k)) before_length
      ∙ last_before (old.lines ++ guard) (body (suc k)) (rest (suc (suc k + length (body (suc k))))) (jz k) (line 0 (Jump 0)) (goes k) jump (sym (ap (λ (e : Emitter). length e.lines) first) ∙ at)
      ∙ ap (λ (x : ℕ). (old.lines ++ guard) ++ all_lines x) from_length ∙ whole n_at in
      let plan : kept ≡ meet (block_plan p t yes_cmds old.modes.held inside.plan) (block_plan p t no_cmds old.modes.held inside.plan) =
      met ∙ ap₂ meet (ap (λ (e : Emitter). e.plan) first) (ap (λ (e : Emitter). e.plan) patched ∙ ap (λ (e : Emitter). e.plan) other) in
      (λ i. let r : Emitter = record { lines = lines i; plan = plan i; modes = (first i).modes } in r)

  pub loop_code : (a : Term) (b : Block) (inv : State) (value : Value) (head : ℕ) (old one m : Emitter) → head ≡ length old.lines
      → WhereStable old.modes a (λ stable. (one ≡ after_value stable a None (record old { plan = start })) × (value ≡ used_value stable a None (record old { plan = start })))
      → AddsGuarded value b head one m
      → Stands p t old → IsStmInRange (length p.vars) (length p.locks) (loop a inv b)
      → ◌≡◌ {A = Emitter} (record { lines = m.lines; plan = one.plan; modes = one.modes }) (after p t (next 0 (plain.loop a (plain_block b)) none) old)
  loop_code a b inv value head old one m at eval guards h range =
      let stable = is_stable p t old.modes.held in
      let begun = eval p t h.modes range.0 in
      let empty : Emitter = record old { plan = start } in
      let inside = after_value stable a None empty in
      let used = used_value stable a None empty in
      let stands : Stands p t inside = evaluated_stands empty a None range.0 (record { modes = h.modes; below = start_below (length p.vars) }) in
      let cmds = plain_block b in
      let first : m ≡ after_guarded p t used cmds (length old.lines) inside =
      guards p t (subst (Stands p t) (sym begun.0) stands) range.2 ∙ (λ i. after_guarded p t (begun.1 i) cmds (at i) (begun.0 i)) in
      let guard = eval_lines stable start a None in
      let i = length old.lines in
      let body = λ (x : ℕ). block_lines p t cmds old.modes.held inside.plan x in
      let jz = λ (x : ℕ). line used.weight (Jz used.register (suc (suc x + length (body (suc x))))) in
      let back = line 0 (Jump i) in
      let all_lines = λ (x : ℕ). jz x ∷ (body (suc x) ++ back ∷ []) in
      let n_at = i + length guard in
      let lines : m.lines ≡ old.lines ++ ((guard ++ all_lines n_at) ++ []) =
      ap (λ (e : Emitter). e.lines) first ∙ ap (λ (x : ℕ). (old.lines ++ guard) ++ all_lines x) (length-append old.lines guard)
      ∙ append_assoc old.lines guard (all_lines n_at) ∙ ap (λ (ls : List Line). old.lines ++ ls) (sym (append-nil (guard ++ all_lines n_at))) in
      (λ i. let r : Emitter = record { lines = lines i; plan = (begun.0 i).plan; modes = ((ap (λ (e : Emitter). e.modes) begun.0 ∙ h.modes) i) } in r)
