-- Words of private contracts: the code of a thread while it is made.
use Rattle.std.specs.Prelude.{◌≡◌, ℕ, suc, ◌+◌, List, [], ◌∷◌, ◌++◌, Bool, Option, length, map}
use Rattle.cov_ast.specs.Plain.{Plain, Cmds, none, plain_block, plain_stm}
use Rattle.cov_ast.specs.Syntax.{Block, Stm}
use Rattle.cov_ast.specs.WellFormed.{IsBlockInRange, IsStmInRange}
use Rattle.cov_expr.specs.Term.{Term}
use Rattle.cov_expr.specs.Words.{HasVarsBelow}
use Rattle.cov_ast.specs.LocksAlong.{locks_at_end}
use Rattle.mode_state.specs.Sets.{Sets, modes_at, is_stable}
use Rattle.regalloc.specs.Plan.{Plan}
use Rattle.regalloc.specs.Stable.{KeepsBelow}
use Rattle.compiled_code.specs.Compiled.{line, block_lines, block_plan, eval_lines, eval_plan, eval_register, expr_lines, expr_plan, expr_room, fetch_instrs, fetch_plan, use_weight}
use Rattle.risc_compile.specs.declared.emitter.Emitter.{Emitter}
use Rattle.risc_compile.specs.declared.expressions.Value.{Value}
use Rattle.risc_machine.specs.declared.parts.Instr.{Instr}
use Rattle.risc_machine.specs.declared.parts.Instr.TheVariants.{Jump, Jz}
use Rattle.risc_machine.specs.declared.parts.Line.{Line}

-- with further lines
abbrev pub with_lines : Emitter → List Line → Emitter
with_lines e lines = record e { lines = e.lines ++ lines }

-- with further instructions, which stand for no step of the source yet
abbrev pub with_instrs : Emitter → List Instr → Emitter
with_instrs e instrs = with_lines e (map (line 0) instrs)

-- Modes ----------------------------------------------------------------------------------------------------------

-- Whatever program and thread these are the modes of, if the program has the variables of an expression: this is said where
-- variables are stable.
abbrev pub WhereStable : Sets → Term → ((stable : ℕ → Bool) → Type 0) → Type 0
WhereStable sets e P =
    (p : Plain) (t : ℕ) → sets ≡ modes_at p t sets.held → HasVarsBelow e (length p.vars) → P (is_stable p t sets.held)

-- The modes are those of the thread at the locks that it holds, and registers keep variables of the program.
pub record Stands (p : Plain) (t : ℕ) (e : Emitter) : Type 0 where
  pub modes : e.modes ≡ modes_at p t e.modes.held
  pub below : KeepsBelow (length p.vars) e.plan

-- Expressions ----------------------------------------------------------------------------------------------------

-- with room for the parts of an expression
abbrev pub with_room : Emitter → Term → Emitter
with_room e t = record e { plan = expr_room e.plan t }

-- after variables are fetched beside so many parts
abbrev pub fetched : (stable : ℕ → Bool) → (parts : ℕ) → List ℕ → Emitter → Emitter
fetched stable parts xs e = record e { lines = e.lines ++ map (line 0) (fetch_instrs stable parts xs e.plan); plan = fetch_plan stable parts xs e.plan }

-- after an expression
abbrev pub after_expression : (stable : ℕ → Bool) → Term → Emitter → Emitter
after_expression stable t e = record e { lines = e.lines ++ expr_lines stable e.plan t; plan = expr_plan stable e.plan t }

-- after an expression whose value a register keeps, or is to be computed
abbrev pub after_value : (stable : ℕ → Bool) → Term → (direct : Option ℕ) → Emitter → Emitter
after_value stable t direct e = record e { lines = e.lines ++ eval_lines stable e.plan t direct; plan = eval_plan stable e.plan t direct }

-- where its value is, and for how many steps the instruction stands that uses it
abbrev pub used_value : (stable : ℕ → Bool) → Term → (direct : Option ℕ) → Emitter → Value
used_value stable t direct e = record { register = eval_register stable e.plan t direct; weight = use_weight direct }

-- Statements -----------------------------------------------------------------------------------------------------

module _ (p : Plain) (t : ℕ) where
  -- after statements
  abbrev pub after : Cmds → Emitter → Emitter
  after cmds e = record {
    lines = e.lines ++ block_lines p t cmds e.modes.held e.plan (length e.lines);
    plan = block_plan p t cmds e.modes.held e.plan;
    modes = modes_at p t (locks_at_end cmds e.modes.held);
  }

  -- the lines from i on: statements that are left out where a value is 0, and behind them a jump
  abbrev pub guarded_lines : Value → Cmds → (target : ℕ) → List Bool → Plan → (i : ℕ) → List Line
  guarded_lines value cmds target locks plan i =
      let body = block_lines p t cmds locks plan (suc i) in
      line value.weight (Jz value.register (suc (suc i + length body))) ∷ (body ++ (line 0 (Jump target) ∷ []))

  -- after such statements and the jump
  abbrev pub after_guarded : Value → Cmds → (target : ℕ) → Emitter → Emitter
  after_guarded value cmds target e = record {
    lines = e.lines ++ guarded_lines value cmds target e.modes.held e.plan (length e.lines);
    plan = block_plan p t cmds e.modes.held e.plan;
    modes = modes_at p t (locks_at_end cmds e.modes.held);
  }

-- This is the code of statements, whatever thread it is of.
abbrev pub AddsBlock : Block → (old new : Emitter) → Type 0
AddsBlock b old new =
    (p : Plain) (t : ℕ) → Stands p t old → IsBlockInRange (length p.vars) (length p.locks) b → new ≡ after p t (plain_block b) old

-- this is the code of a statement
abbrev pub AddsStm : Stm → (old new : Emitter) → Type 0
AddsStm s old new =
    (p : Plain) (t : ℕ) → Stands p t old → IsStmInRange (length p.vars) (length p.locks) s → new ≡ after p t (plain_stm s 0 none) old

-- this is the code of statements that are left out where a value is 0, and of a jump behind them
abbrev pub AddsGuarded : Value → Block → (target : ℕ) → (old new : Emitter) → Type 0
AddsGuarded value b target old new =
    (p : Plain) (t : ℕ) → Stands p t old → IsBlockInRange (length p.vars) (length p.locks) b
    → new ≡ after_guarded p t value (plain_block b) target old
