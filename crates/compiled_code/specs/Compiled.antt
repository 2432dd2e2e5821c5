-- The code of a program: a recursion along the text, with the locks that are held and the variables that registers keep.
--
-- A register keeps a stable variable, so that it is loaded once while it is stable; nothing else is kept, since others may
-- write it. (After the compiler of Sison and Murray, whose registers have the same record; here its assumptions change along
-- the text, with the locks.)
use Rattle.std.specs.Prelude.{ℕ, suc, ◌+◌, List, [], ◌∷◌, ◌++◌, length, get_or, set, map, Bool, true, false, if◌then◌else◌, Option, Some, None}
use Rattle.std.specs.Option.{option_or}
use Rattle.std.specs.List.{range_with_len}
use Rattle.cov_expr.specs.declared.expr.Op.TheVariants.{Eq}
use Rattle.cov_expr.specs.Term.{Term, const, var, neg, bin}
use Rattle.cov_expr.specs.Trees.{occurrences, width}
use Rattle.cov_ast.specs.Declarations.{thread_at}
use Rattle.cov_ast.specs.LocksAlong.{locks_after, no_locks}
use Rattle.cov_ast.specs.Plain.{Cmd, skip, assign, lock, unlock, branch, loop, output, Cmds, none, next, Plain, plain}
use Rattle.cov_ast.specs.Syntax.{Program}
use Rattle.mode_state.specs.Sets.{is_stable}
use Rattle.regalloc.specs.Plan.{Plan, start, held, keep, spoil, stored, restrict, meet, frees, part, room}
use Rattle.risc_machine.specs.declared.parts.Instr.{Instr}
use Rattle.risc_machine.specs.declared.parts.Instr.TheVariants.{Load, Store, Jump, Jz, Nop, MovC, MovR, Bin, Acquire, Release, Out}
use Rattle.risc_machine.specs.declared.parts.Line.{Line}
use Rattle.risc_machine.specs.declared.parts.Parts.{Parts}
use Rattle.risc_machine.specs.declared.parts.ThreadCode.{ThreadCode}

abbrev pub line : (weight : ℕ) → Instr → Line
line weight instr = record { weight = weight; instr = instr }

-- the first instruction stands for one step of the source, the others for none
abbrev pub weigh : List Instr → List Line
weigh [] = []
weigh (c ∷ cs) = line 1 c ∷ map (line 0) cs

-- Parts of expressions -------------------------------------------------------------------------------------------

-- Each part of an expression has a register that keeps nothing: that of its depth, from 0 for the whole.
abbrev pub part_register : Plan → (depth : ℕ) → ℕ
part_register plan depth = get_or (frees plan) depth 0

-- the word of a variable into a register: of one that isn't stable from r7, else from the register that keeps it or from memory
abbrev pub var_instr : (stable : Bool) → (kept : Option ℕ) → (r x : ℕ) → Instr
var_instr false kept r x = MovR r 7
var_instr true None r x = Load r x
var_instr true (Some q) r x = MovR r q

-- the first variable that isn't stable, if there is one
abbrev pub unstable_of : (stable : ℕ → Bool) → Term → Option ℕ
unstable_of stable (const k) = None
unstable_of stable (var x) = if stable x then None else Some x
unstable_of stable (neg e) = unstable_of stable e
unstable_of stable (bin op a b) = option_or (unstable_of stable a) (unstable_of stable b)

-- it is loaded into r7
abbrev pub load_unstable : Option ℕ → List Instr
load_unstable None = []
load_unstable (Some x) = Load 7 x ∷ []

-- the value of an expression into the register of its depth, where r7 has the word of what isn't stable
abbrev pub term_instrs : (stable : ℕ → Bool) → Plan → Term → (depth : ℕ) → List Instr
term_instrs stable plan (const k) d = MovC (part_register plan d) k ∷ []
term_instrs stable plan (var x) d = var_instr (stable x) (held plan x) (part_register plan d) x ∷ []
term_instrs stable plan (neg e) d = term_instrs stable plan e d ++ (MovC (part_register plan (suc d)) 0 ∷ Bin Eq (part_register plan d) (part_register plan (suc d)) ∷ [])
term_instrs stable plan (bin op a b) d =
    term_instrs stable plan a d ++ (term_instrs stable plan b (suc d) ++ (Bin op (part_register plan d) (part_register plan (suc d)) ∷ []))

-- Variables into registers ---------------------------------------------------------------------------------------

-- A stable variable that no register keeps is fetched where a register is free beside those of the parts.
abbrev pub fetch_into : (stable : Bool) → (kept free : Option ℕ) → Option ℕ
fetch_into true None free = free
fetch_into true (Some r) free = None
fetch_into false kept free = None

-- the register into which a variable is fetched, for an expression with so many parts
abbrev pub fetch_at : (stable : ℕ → Bool) → (parts : ℕ) → Plan → ℕ → Option ℕ
fetch_at stable parts plan x = fetch_into (stable x) (held plan x) (part plan parts)

abbrev pub fetched_plan : Plan → ℕ → Option ℕ → Plan
fetched_plan plan x None = plan
fetched_plan plan x (Some r) = keep plan x r

abbrev pub load_into : ℕ → Option ℕ → List Instr
load_into x None = []
load_into x (Some r) = Load r x ∷ []

-- one variable after another
abbrev pub fetch_plan : (stable : ℕ → Bool) → (parts : ℕ) → List ℕ → Plan → Plan
fetch_plan stable parts [] plan = plan
fetch_plan stable parts (x ∷ xs) plan = fetch_plan stable parts xs (fetched_plan plan x (fetch_at stable parts plan x))

abbrev pub fetch_instrs : (stable : ℕ → Bool) → (parts : ℕ) → List ℕ → Plan → List Instr
fetch_instrs stable parts [] plan = []
fetch_instrs stable parts (x ∷ xs) plan =
    load_into x (fetch_at stable parts plan x) ++ fetch_instrs stable parts xs (fetched_plan plan x (fetch_at stable parts plan x))

-- Expressions ----------------------------------------------------------------------------------------------------

-- room for the parts, and r7 for what isn't stable
abbrev pub expr_room : Plan → Term → Plan
expr_room plan e = spoil (room plan (width e)) 7

-- the plan after an expression
abbrev pub expr_plan : (stable : ℕ → Bool) → Plan → Term → Plan
expr_plan stable plan e = fetch_plan stable (width e) (occurrences e) (expr_room plan e)

-- the register of its value
abbrev pub expr_register : (stable : ℕ → Bool) → Plan → Term → ℕ
expr_register stable plan e = part_register (expr_plan stable plan e) 0

-- What isn't stable is loaded first, by the instruction that stands for the evaluation.
abbrev pub expr_instrs : (stable : ℕ → Bool) → Plan → Term → List Instr
expr_instrs stable plan e =
    load_unstable (unstable_of stable e) ++ (fetch_instrs stable (width e) (occurrences e) (expr_room plan e) ++ term_instrs stable (expr_plan stable plan e) e 0)

abbrev pub expr_lines : (stable : ℕ → Bool) → Plan → Term → List Line
expr_lines stable plan e = weigh (expr_instrs stable plan e)

-- the register that keeps an expression already: a stable variable
abbrev pub direct : (stable : ℕ → Bool) → Plan → Term → Option ℕ
direct stable plan (const k) = None
direct stable plan (var x) = if stable x then held plan x else None
direct stable plan (neg e) = None
direct stable plan (bin op a b) = None

-- There, the instruction that uses the value stands for the evaluation too, and no code comes before it.
abbrev pub eval_lines : (stable : ℕ → Bool) → Plan → Term → (direct : Option ℕ) → List Line
eval_lines stable plan e None = expr_lines stable plan e
eval_lines stable plan e (Some r) = []

abbrev pub eval_plan : (stable : ℕ → Bool) → Plan → Term → (direct : Option ℕ) → Plan
eval_plan stable plan e None = expr_plan stable plan e
eval_plan stable plan e (Some r) = plan

abbrev pub eval_register : (stable : ℕ → Bool) → Plan → Term → (direct : Option ℕ) → ℕ
eval_register stable plan e None = expr_register stable plan e
eval_register stable plan e (Some r) = r

abbrev pub use_weight : (direct : Option ℕ) → ℕ
use_weight None = 1
use_weight (Some r) = 2

-- Stores ---------------------------------------------------------------------------------------------------------

-- A variable that is stable takes the value into a register of its own: a register keeps one variable.
abbrev pub store_from : (stable : ℕ → Bool) → Plan → (x : ℕ) → Term → Option ℕ
store_from stable plan x e = if stable x then None else direct stable plan e

-- the plan after a store of a register to a variable
abbrev pub store_plan : (stable : Bool) → Plan → (x r : ℕ) → Plan
store_plan true plan x r = keep (stored plan x) x r
store_plan false plan x r = stored plan x

-- Statements -----------------------------------------------------------------------------------------------------

module _ (p : Plain) (t : ℕ) where
  abbrev mutual
    -- The plan after a statement. Both arms of a branch begin with the plan after the guard, and behind it stands what both
    -- keep; a loop begins with the empty plan, each time.
    pub cmd_plan : Cmd → List Bool → Plan → Plan
    cmd_plan skip locks plan = plan
    cmd_plan (assign x e) locks plan =
        let stable = is_stable p t locks in
        let from = store_from stable plan x e in
        store_plan (stable x) (eval_plan stable plan e from) x (eval_register stable plan e from)
    cmd_plan (lock l) locks plan = plan
    cmd_plan (unlock l) locks plan = restrict (is_stable p t (set locks l false)) plan
    cmd_plan (branch e a b) locks plan =
        let stable = is_stable p t locks in
        let inside = eval_plan stable plan e (direct stable plan e) in
        meet (block_plan a locks inside) (block_plan b locks inside)
    cmd_plan (loop e a) locks plan = expr_plan (is_stable p t locks) start e
    cmd_plan (output e) locks plan = expr_plan (is_stable p t locks) plan e

    pub block_plan : Cmds → List Bool → Plan → Plan
    block_plan none locks plan = plan
    block_plan (next at c cs) locks plan = block_plan cs (locks_after c locks) (cmd_plan c locks plan)

  abbrev mutual
    -- the lines of a statement that begins at line i
    pub cmd_lines : Cmd → List Bool → Plan → (i : ℕ) → List Line
    cmd_lines skip locks plan i = line 1 Nop ∷ []
    cmd_lines (assign x e) locks plan i =
        let stable = is_stable p t locks in
        let from = store_from stable plan x e in
        eval_lines stable plan e from ++ (line (use_weight from) (Store x (eval_register stable plan e from)) ∷ [])
    cmd_lines (lock l) locks plan i = line 1 (Acquire l) ∷ []
    cmd_lines (unlock l) locks plan i = line 1 (Release l) ∷ []
    cmd_lines (branch e a b) locks plan i =
        let stable = is_stable p t locks in
        let from = direct stable plan e in
        let guard = eval_lines stable plan e from in
        let inside = eval_plan stable plan e from in
        let yes_lines = block_lines a locks inside (suc (i + length guard)) in
        let no_at = suc (suc (i + length guard) + length yes_lines) in
        let no_lines = block_lines b locks inside no_at in
        guard ++ (line (use_weight from) (Jz (eval_register stable plan e from) no_at) ∷ (yes_lines ++ (line 0 (Jump (no_at + length no_lines)) ∷ no_lines)))
    cmd_lines (loop e a) locks plan i =
        let stable = is_stable p t locks in
        let guard = expr_lines stable start e in
        let body = block_lines a locks (expr_plan stable start e) (suc (i + length guard)) in
        guard ++ (line 1 (Jz (expr_register stable start e) (suc (suc (i + length guard) + length body))) ∷ (body ++ (line 0 (Jump i) ∷ [])))
    cmd_lines (output e) locks plan i =
        let stable = is_stable p t locks in
        expr_lines stable plan e ++ (line 1 (Out (expr_register stable plan e)) ∷ [])

    pub block_lines : Cmds → List Bool → Plan → (i : ℕ) → List Line
    block_lines none locks plan i = []
    block_lines (next at c cs) locks plan i =
        let lines = cmd_lines c locks plan i in
        lines ++ block_lines cs (locks_after c locks) (cmd_plan c locks plan) (i + length lines)

-- Programs -------------------------------------------------------------------------------------------------------

-- the lines of a thread
abbrev pub thread_lines : Plain → (t : ℕ) → List Line
thread_lines p t = block_lines p t (thread_at p t).body (no_locks p) start 0

abbrev pub thread_code : Plain → (t : ℕ) → ThreadCode
thread_code p t = record { name = (thread_at p t).name; lines = thread_lines p t }

-- the code of a program, of its version
abbrev pub compiled : Program → Parts
compiled p = record {
  version = p.version;
  vars = map (λ v. v.name) p.vars;
  locks = map (λ l. l.name) p.locks;
  threads = map (thread_code (plain p)) (range_with_len 0 (length p.threads));
}
