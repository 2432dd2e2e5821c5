-- The lines that compiled code has for a statement are those that are told under it.
use Rattle.std.proofs.Common.{◌≡◌, ℕ, zero, suc, ◌+◌, ◌-◌, ◌<◌, List, [], ◌∷◌, ◌++◌, length, map, take, drop, get_or, Bool, true, false, if◌then◌else◌, Option, Some, None, refl, ap, sym, subst, ◌∙◌, append_assoc, append-nil, arith}
use Rattle.std.proofs.lemmas.List.{length-append}
use Rattle.cov_ast.specs.Declarations.{no_thread, thread_at}
use Rattle.cov_ast.specs.LocksAlong.{locks_after, no_locks}
use Rattle.cov_ast.specs.Plain.{Cmd, Cmds, Plain, next, plain, plain_block, plain_stm, plain_thread}
use Rattle.cov_ast.specs.Plain as cmd
use Rattle.cov_ast.specs.Syntax.{Stm, assign, branch, loop, note, output, Block, done, more, Program, Thread}
use Rattle.cov_expr.specs.Term.{Term, const, var, neg, bin}
use Rattle.cov_expr.specs.Trees.{occurrences, width}
use Rattle.code_lines.specs.CodeLines.{bodies_of}
use Rattle.code_lines.specs.CodeShares.{behind_block, behind_own, behind_statement, block_shares, makes_value, own_count, share, statement_shares}
use Rattle.code_lines.specs.CompiledShares.{cmd_shares, cmds_shares, made}
use Rattle.code_lines.specs.declared.walk.Role.{Role}
use Rattle.code_lines.specs.declared.walk.Role.TheVariants.{Whole, Guard, Past, Back}
use Rattle.compiled_code.specs.Compiled.{block_lines, cmd_lines, cmd_plan, direct, eval_lines, eval_plan, eval_register, expr_instrs, expr_lines, expr_plan, expr_register, expr_room, fetch_at, fetch_instrs, fetched_plan, line, load_into, load_unstable, store_from, term_instrs, thread_lines, unstable_of, use_weight, var_instr, weigh}
use Rattle.mode_state.specs.Sets.{is_stable}
use Rattle.regalloc.specs.Plan.{Plan, held, start}
use Rattle.risc_machine.specs.declared.parts.Instr.{Instr}
use Rattle.risc_machine.specs.declared.parts.Instr.TheVariants.{Store, Jump, Jz, Nop, Out}
use Rattle.risc_machine.specs.declared.parts.Line.{Line}

-- Lines of evaluations -------------------------------------------------------------------------------------------

-- instructions that make values, and lines of such
abbrev Make : List Instr → Type 0
Make [] = Unit {0}
Make (c ∷ cs) = (makes_value c ≡ true) × Make cs

abbrev LinesMake : List Line → Type 0
LinesMake [] = Unit {0}
LinesMake (l ∷ ls) = (makes_value l.instr ≡ true) × LinesMake ls

make_append : (cs ds : List Instr) → Make cs → Make ds → Make (cs ++ ds)
make_append [] ds a b = b
make_append (c ∷ cs) ds a b = (a.0, make_append cs ds a.1 b)

weighed_rest : (cs : List Instr) → Make cs → LinesMake (map (line 0) cs)
weighed_rest [] a = tt
weighed_rest (c ∷ cs) a = (a.0, weighed_rest cs a.1)

weighed : (cs : List Instr) → Make cs → LinesMake (weigh cs)
weighed [] a = tt
weighed (c ∷ cs) a = (a.0, weighed_rest cs a.1)

var_makes : (stable : Bool) (kept : Option ℕ) (r x : ℕ) → makes_value (var_instr stable kept r x) ≡ true
var_makes false kept r x = refl
var_makes true None r x = refl
var_makes true (Some q) r x = refl

term_makes : (stable : ℕ → Bool) (plan : Plan) (e : Term) (d : ℕ) → Make (term_instrs stable plan e d)
term_makes stable plan (const k) d = (refl, tt)
term_makes stable plan (var x) d = (var_makes (stable x) (held plan x) _ x, tt)
term_makes stable plan (neg e) d = make_append (term_instrs stable plan e d) _ (term_makes stable plan e d) (refl, (refl, tt))
term_makes stable plan (bin op a b) d =
    make_append (term_instrs stable plan a d) _ (term_makes stable plan a d)
    (make_append (term_instrs stable plan b (suc d)) _ (term_makes stable plan b (suc d)) (refl, tt))

loaded_makes : (o : Option ℕ) → Make (load_unstable o)
loaded_makes None = tt
loaded_makes (Some x) = (refl, tt)

into_makes : (x : ℕ) (o : Option ℕ) → Make (load_into x o)
into_makes x None = tt
into_makes x (Some r) = (refl, tt)

fetch_makes : (stable : ℕ → Bool) (parts : ℕ) (xs : List ℕ) (plan : Plan) → Make (fetch_instrs stable parts xs plan)
fetch_makes stable parts [] plan = tt
fetch_makes stable parts (x ∷ xs) plan =
    make_append (load_into x (fetch_at stable parts plan x)) _ (into_makes x (fetch_at stable parts plan x))
    (fetch_makes stable parts xs (fetched_plan plan x (fetch_at stable parts plan x)))

expr_makes : (stable : ℕ → Bool) (plan : Plan) (e : Term) → LinesMake (expr_lines stable plan e)
expr_makes stable plan e =
    weighed (expr_instrs stable plan e)
    (make_append (load_unstable (unstable_of stable e)) _ (loaded_makes (unstable_of stable e))
    (make_append (fetch_instrs stable (width e) (occurrences e) (expr_room plan e)) _ (fetch_makes stable (width e) (occurrences e) (expr_room plan e))
    (term_makes stable (expr_plan stable plan e) e 0)))

eval_makes : (stable : ℕ → Bool) (plan : Plan) (e : Term) (from : Option ℕ) → LinesMake (eval_lines stable plan e from)
eval_makes stable plan e None = expr_makes stable plan e
eval_makes stable plan e (Some r) = tt

-- Lines that belong together -------------------------------------------------------------------------------------

-- lines that make values, and one that uses them, in front of others
own_is : (cs : List Line) (u : Line) (rest : List Line) → LinesMake cs → makes_value u.instr ≡ false → own_count (cs ++ u ∷ rest) ≡ suc (length cs)
own_is [] u rest a last = ap (λ b. if b then suc (own_count rest) else 1) last
own_is (l ∷ cs) u rest a last = ap (λ b. if b then suc (own_count (cs ++ u ∷ rest)) else 1) a.0 ∙ ap suc (own_is cs u rest a.1 last)

front_is : (cs : List Line) (u : Line) (rest : List Line) → take (suc (length cs)) (cs ++ u ∷ rest) ≡ cs ++ (u ∷ [])
front_is [] u rest = refl
front_is (l ∷ cs) u rest = ap (λ zs. l ∷ zs) (front_is cs u rest)

rest_is : (cs : List Line) (u : Line) (rest : List Line) → drop (suc (length cs)) (cs ++ u ∷ rest) ≡ rest
rest_is [] u rest = refl
rest_is (l ∷ cs) u rest = rest_is cs u rest

own_behind : (cs : List Line) (u : Line) (rest : List Line) → LinesMake cs → makes_value u.instr ≡ false → behind_own (cs ++ u ∷ rest) ≡ rest
own_behind cs u rest a last = ap (λ n. drop n (cs ++ u ∷ rest)) (own_is cs u rest a last) ∙ rest_is cs u rest

-- the share of such lines, of a thread with so many
own_share : (role : Role) (at i total : ℕ) (cs : List Line) (u : Line) (rest : List Line) → LinesMake cs → makes_value u.instr ≡ false
    → total ≡ i + length (cs ++ u ∷ rest)
    → share total role at (own_count (cs ++ u ∷ rest)) (cs ++ u ∷ rest) ≡ made role at i (cs ++ (u ∷ []))
own_share role at i total cs u rest a last is =
    let from : total - length (cs ++ u ∷ rest) ≡ i = omega (arith, is) in
    let lines : take (own_count (cs ++ u ∷ rest)) (cs ++ u ∷ rest) ≡ cs ++ (u ∷ []) = ap (λ n. take n (cs ++ u ∷ rest)) (own_is cs u rest a last) ∙ front_is cs u rest in
    λ k. made role at (from k) (lines k)

jump_share : (role : Role) (at i total : ℕ) (u : Line) (rest : List Line) → total ≡ i + length (u ∷ rest) → share total role at 1 (u ∷ rest) ≡ made role at i (u ∷ [])
jump_share role at i total u rest is =
    let from : total - length (u ∷ rest) ≡ i = omega (arith, is) in
    ap (λ n. made role at n (u ∷ [])) from

-- Statements -----------------------------------------------------------------------------------------------------

-- the first of commands, of which there is one
abbrev first_of : Cmds → Cmd
first_of cmd.none = cmd.skip
first_of (next at c cs) = c

module _ (p : Plain) (t total : ℕ) where
  -- In front of others, the lines of a statement are told under it, and those others are behind it.
  abbrev StatementOk : Stm → Cmd → (at : ℕ) → Type 0
  StatementOk s c at =
      (locks : List Bool) (plan : Plan) (i : ℕ) (rest : List Line) → total ≡ i + length (cmd_lines p t c locks plan i ++ rest)
      → (behind_statement s (cmd_lines p t c locks plan i ++ rest) ≡ rest)
      × (statement_shares total at s (cmd_lines p t c locks plan i ++ rest) ≡ cmd_shares p t at c locks plan i)

  abbrev BlockOk : Block → Cmds → Type 0
  BlockOk b cs =
      (locks : List Bool) (plan : Plan) (i : ℕ) (rest : List Line) → total ≡ i + length (block_lines p t cs locks plan i ++ rest)
      → (behind_block b (block_lines p t cs locks plan i ++ rest) ≡ rest) × (block_shares total b (block_lines p t cs locks plan i ++ rest) ≡ cmds_shares p t cs locks plan i)

  -- a statement without blocks: lines that make a value, and one that uses it
  whole_ok : (at i : ℕ) (cs : List Line) (u : Line) (rest : List Line) → LinesMake cs → makes_value u.instr ≡ false → total ≡ i + length ((cs ++ (u ∷ [])) ++ rest)
      → (behind_own ((cs ++ (u ∷ [])) ++ rest) ≡ rest)
      × (share total Whole at (own_count ((cs ++ (u ∷ [])) ++ rest)) ((cs ++ (u ∷ [])) ++ rest) ∷ [] ≡ made Whole at i (cs ++ (u ∷ [])) ∷ [])
  whole_ok at i cs u rest a last is =
      let e = append_assoc cs (u ∷ []) rest in (
        ap behind_own e ∙ own_behind cs u rest a last,
        ap (λ ls. share total Whole at (own_count ls) ls ∷ []) e ∙ ap (λ q. q ∷ []) (own_share Whole at i total cs u rest a last (is ∙ ap (λ ls. i + length ls) e)),
      )

  -- an `if`, by its blocks
  branch_ok : (e : Term) (a b : Block) (state : _) (at : ℕ) → BlockOk a (plain_block a) → BlockOk b (plain_block b)
      → StatementOk (branch e a b state) (cmd.branch e (plain_block a) (plain_block b)) at
  branch_ok e a b state at ok_a ok_b locks plan i rest is =
      let stable = is_stable p t locks in
      let from = direct stable plan e in
      let guard = eval_lines stable plan e from in
      let inside = eval_plan stable plan e from in
      let yes_at = suc (i + length guard) in
      let yes = block_lines p t (plain_block a) locks inside yes_at in
      let jump_at = yes_at + length yes in
      let second_lines = block_lines p t (plain_block b) locks inside (suc jump_at) in
      let jz = line (use_weight from) (Jz (eval_register stable plan e from) (suc jump_at)) in
      let jump = line 0 (Jump (suc jump_at + length second_lines)) in
      let behind = jump ∷ (second_lines ++ rest) in
      let whole : (guard ++ (jz ∷ (yes ++ (jump ∷ second_lines)))) ++ rest ≡ guard ++ (jz ∷ (yes ++ behind)) =
      append_assoc guard (jz ∷ (yes ++ (jump ∷ second_lines))) rest ∙ ap (λ ls. guard ++ (jz ∷ ls)) (append_assoc yes (jump ∷ second_lines) rest) in
      let all : total ≡ i + length (guard ++ (jz ∷ (yes ++ behind))) = is ∙ ap (λ ls. i + length ls) whole in
      let there : total ≡ yes_at + length (yes ++ behind) = omega (arith, all, length-append guard (jz ∷ (yes ++ behind))) in
      let then_there : total ≡ jump_at + length behind = omega (arith, there, length-append yes behind) in
      let end : total ≡ suc jump_at + length (second_lines ++ rest) = omega (arith, then_there) in
      let first = ok_a locks inside yes_at behind there in
      let second = ok_b locks inside (suc jump_at) rest end in
      let makes = eval_makes stable plan e from in
      let at_yes = ap behind_own whole ∙ own_behind guard jz (yes ++ behind) makes refl in
      let at_jump = ap (behind_block a) at_yes ∙ first.0 in
      let at_no = ap (drop 1) at_jump in
      let guard_share = ap (λ ls. share total Guard at (own_count ls) ls) whole ∙ own_share Guard at i total guard jz (yes ++ behind) makes refl all in
      let yes_shares = ap (block_shares total a) at_yes ∙ first.1 in
      let past_share = ap (λ ls. share total Past at 1 ls) at_jump ∙ jump_share Past at jump_at total jump (second_lines ++ rest) then_there in
      let no_shares = ap (block_shares total b) at_no ∙ second.1 in (
        ap (behind_block b) at_no ∙ second.0,
        λ k. guard_share k ∷ (yes_shares k ++ (past_share k ∷ no_shares k)),
      )

  -- a `while`, by its block
  loop_ok : (e : Term) (state : _) (a : Block) (at : ℕ) → BlockOk a (plain_block a) → StatementOk (loop e state a) (cmd.loop e (plain_block a)) at
  loop_ok e state a at ok_a locks plan i rest is =
      let stable = is_stable p t locks in
      let guard = expr_lines stable start e in
      let inside = expr_plan stable start e in
      let body_at = suc (i + length guard) in
      let body = block_lines p t (plain_block a) locks inside body_at in
      let jump_at = body_at + length body in
      let jz = line 1 (Jz (expr_register stable start e) (suc jump_at)) in
      let jump = line 0 (Jump i) in
      let behind = jump ∷ rest in
      let whole : (guard ++ (jz ∷ (body ++ (jump ∷ [])))) ++ rest ≡ guard ++ (jz ∷ (body ++ behind)) =
      append_assoc guard (jz ∷ (body ++ (jump ∷ []))) rest ∙ ap (λ ls. guard ++ (jz ∷ ls)) (append_assoc body (jump ∷ []) rest) in
      let all : total ≡ i + length (guard ++ (jz ∷ (body ++ behind))) = is ∙ ap (λ ls. i + length ls) whole in
      let there : total ≡ body_at + length (body ++ behind) = omega (arith, all, length-append guard (jz ∷ (body ++ behind))) in
      let then_there : total ≡ jump_at + length behind = omega (arith, there, length-append body behind) in
      let first = ok_a locks inside body_at behind there in
      let makes = expr_makes stable start e in
      let at_body = ap behind_own whole ∙ own_behind guard jz (body ++ behind) makes refl in
      let at_jump = ap (behind_block a) at_body ∙ first.0 in
      let guard_share = ap (λ ls. share total Guard at (own_count ls) ls) whole ∙ own_share Guard at i total guard jz (body ++ behind) makes refl all in
      let body_shares = ap (block_shares total a) at_body ∙ first.1 in
      let back_share = ap (λ ls. share total Back at 1 ls) at_jump ∙ jump_share Back at jump_at total jump rest then_there in (
        ap (drop 1) at_jump,
        λ k. guard_share k ∷ (body_shares k ++ (back_share k ∷ [])),
      )

  -- a statement in front of a block
  next_ok : (s : Stm) (c : Cmd) (at : ℕ) (proofs : _) (b : Block) → StatementOk s c at → BlockOk b (plain_block b) → BlockOk (more at s proofs b) (next at c (plain_block b))
  next_ok s c at proofs b ok_s ok_b locks plan i rest is =
      let lines = cmd_lines p t c locks plan i in
      let others = block_lines p t (plain_block b) (locks_after c locks) (cmd_plan p t c locks plan) (i + length lines) in
      let whole = append_assoc lines others rest in
      let all : total ≡ i + length (lines ++ (others ++ rest)) = is ∙ ap (λ ls. i + length ls) whole in
      let there : total ≡ (i + length lines) + length (others ++ rest) = omega (arith, all, length-append lines (others ++ rest)) in
      let first = ok_s locks plan i (others ++ rest) all in
      let second = ok_b (locks_after c locks) (cmd_plan p t c locks plan) (i + length lines) rest there in
      let at_others = ap (behind_statement s) whole ∙ first.0 in
      let mine = ap (statement_shares total at s) whole ∙ first.1 in
      let theirs = ap (block_shares total b) at_others ∙ second.1 in (
        ap (behind_block b) at_others ∙ second.0,
        λ k. mine k ++ theirs k,
      )

  block_ok : (b : Block) → BlockOk b (plain_block b)
  block_ok done = λ locks plan i rest is. (refl, refl)
  block_ok (more at (assign x e q retypes) proofs b) =
      next_ok (assign x e q retypes) (cmd.assign x e) at proofs b
      (λ locks plan i rest is.
      let stable = is_stable p t locks in
      let from = store_from stable plan x e in
      whole_ok at i (eval_lines stable plan e from) (line (use_weight from) (Store x (eval_register stable plan e from))) rest (eval_makes stable plan e from) refl is)
      (block_ok b)
  block_ok (more at (branch e a c state) proofs b) =
      next_ok (branch e a c state) (cmd.branch e (plain_block a) (plain_block c)) at proofs b (branch_ok e a c state at (block_ok a) (block_ok c)) (block_ok b)
  block_ok (more at (loop e state a) proofs b) = next_ok (loop e state a) (cmd.loop e (plain_block a)) at proofs b (loop_ok e state a at (block_ok a)) (block_ok b)
  block_ok (more at (note state) proofs b) = block_ok b
  block_ok (more at (output e) proofs b) =
      next_ok (output e) (cmd.output e) at proofs b
      (λ locks plan i rest is.
      let stable = is_stable p t locks in
      whole_ok at i (expr_lines stable plan e) (line 1 (Out (expr_register stable plan e))) rest (expr_makes stable plan e) refl is)
      (block_ok b)
  -- a statement of one line
  block_ok (more at s proofs b) =
      let c = first_of (plain_stm s at (plain_block b)) in
      next_ok s c at proofs b (λ locks plan i rest is. whole_ok at i [] (get_or (cmd_lines p t c locks plan i) 0 (line 1 Nop)) rest tt refl is) (block_ok b)

-- Threads --------------------------------------------------------------------------------------------------------

-- the statements of a thread of a program
body_is : (p : Program) (t : ℕ) → t < length p.threads → (thread_at (plain p) t).body ≡ plain_block (get_or (bodies_of p.threads) t done)
body_is p t inside = by p.threads t inside
  where
    by : (threads : List Thread) (t : ℕ) → t < length threads → (get_or (map plain_thread threads) t no_thread).body ≡ plain_block (get_or (bodies_of threads) t done)
    by [] t inside = absurd (omega (arith, inside))
    by (s ∷ ss) zero inside = refl
    by (s ∷ ss) (suc t) inside = by ss t (omega (arith, inside))

thread_ok : (p : Program) (t : ℕ) → t < length p.threads
    → (behind_block (get_or (bodies_of p.threads) t done) (thread_lines (plain p) t) ≡ [])
    × (block_shares (length (thread_lines (plain p) t)) (get_or (bodies_of p.threads) t done) (thread_lines (plain p) t)
    ≡ cmds_shares (plain p) t (plain_block (get_or (bodies_of p.threads) t done)) (no_locks (plain p)) start 0)
thread_ok p t inside =
    let b = get_or (bodies_of p.threads) t done in
    let ls = block_lines (plain p) t (plain_block b) (no_locks (plain p)) start 0 in
    let is : thread_lines (plain p) t ≡ ls = ap (λ cs. block_lines (plain p) t cs (no_locks (plain p)) start 0) (body_is p t inside) in
    let ok = block_ok (plain p) t (length ls) b (no_locks (plain p)) start 0 [] (omega (arith, ap length (append-nil ls))) in
    subst
    (λ ms. (behind_block b ms ≡ []) × (block_shares (length ms) b ms ≡ cmds_shares (plain p) t (plain_block b) (no_locks (plain p)) start 0))
    (sym is)
    (subst (λ ms. (behind_block b ms ≡ []) × (block_shares (length ls) b ms ≡ cmds_shares (plain p) t (plain_block b) (no_locks (plain p)) start 0)) (append-nil ls) ok)

pub none_behind : (p : Program) (t : ℕ) → t < length p.threads → behind_block (get_or (bodies_of p.threads) t done) (thread_lines (plain p) t) ≡ []
none_behind p t inside = (thread_ok p t inside).0

pub shares_made : (p : Program) (t : ℕ) → t < length p.threads
    → block_shares (length (thread_lines (plain p) t)) (get_or (bodies_of p.threads) t done) (thread_lines (plain p) t)
    ≡ cmds_shares (plain p) t (plain_block (get_or (bodies_of p.threads) t done)) (no_locks (plain p)) start 0
shares_made p t inside = (thread_ok p t inside).1
