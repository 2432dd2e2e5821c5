-- The plain program: what a program does, without the annotations that say why it may.
--
-- Every semantic definition speaks of plain programs alone.
use Rattle.std.specs.Prelude.{ℕ, List, [], map, Option, Some, None}
use Rattle.cov_expr.specs.Term.{Term, const}
use Rattle.cov_ast.specs.Syntax.{Class, low, high, when, Var, Lock, Modes, State, Stm, Block, done, more, Thread, Program}
use Rattle.cov_ast.specs.Syntax as annotated

mutual
  pub data Cmd : Type 0 where
    skip : Cmd
    assign : (x : ℕ) → Term → Cmd
    lock : ℕ → Cmd
    unlock : ℕ → Cmd
    branch : Term → Cmds → Cmds → Cmd
    loop : Term → Cmds → Cmd
    output : Term → Cmd

  -- statements, each with its place
  pub data Cmds : Type 0 where
    none : Cmds
    next : (at : ℕ) → Cmd → Cmds → Cmds

abbrev pub ◌then_all◌ : Cmds → Cmds → Cmds
◌then_all◌ none b = b
◌then_all◌ (next at c a) b = next at c (◌then_all◌ a b)

pub record PlainThread : Type 0 where
  pub name : List ℕ
  pub modes : Modes
  pub body : Cmds

pub record Plain : Type 0 where
  pub vars : List Var
  pub locks : List Lock
  pub threads : List PlainThread

-- a class as an expression: the variable is low where it holds
abbrev pub class_term : Class → Term
class_term low = const 1
class_term high = const 0
class_term (when e) = e

abbrev mutual
  -- a statement in front of others; a note is dropped
  pub plain_stm : Stm → (at : ℕ) → Cmds → Cmds
  plain_stm annotated.skip at rest = next at skip rest
  plain_stm (annotated.assign x e q retypes) at rest = next at (assign x e) rest
  plain_stm (annotated.lock l) at rest = next at (lock l) rest
  plain_stm (annotated.unlock l) at rest = next at (unlock l) rest
  plain_stm (annotated.branch e a b state) at rest = next at (branch e (plain_block a) (plain_block b)) rest
  plain_stm (annotated.loop e state b) at rest = next at (loop e (plain_block b)) rest
  plain_stm (annotated.note state) at rest = rest
  plain_stm (annotated.output e) at rest = next at (output e) rest

  pub plain_block : Block → Cmds
  plain_block done = none
  plain_block (more at s proofs b) = plain_stm s at (plain_block b)

abbrev pub plain_thread : Thread → PlainThread
plain_thread t = record { name = t.name; modes = t.modes; body = plain_block t.body }

abbrev pub plain : Program → Plain
plain p = record { vars = p.vars; locks = p.locks; threads = map plain_thread p.threads }

-- Without annotations, as a program ------------------------------------------------------------------------------

abbrev pub no_state : State
no_state = record { preds = []; types = [] }

-- a statement in front of others, if there is one
abbrev pub with_statement : (at : ℕ) → Option Stm → Block → Block
with_statement at None rest = rest
with_statement at (Some s) rest = more at s [] rest

abbrev mutual
  -- a statement without annotations; a note is nothing
  pub bare_kind : Stm → Option Stm
  bare_kind annotated.skip = Some annotated.skip
  bare_kind (annotated.assign x e q retypes) = Some (annotated.assign x e None [])
  bare_kind (annotated.lock l) = Some (annotated.lock l)
  bare_kind (annotated.unlock l) = Some (annotated.unlock l)
  bare_kind (annotated.branch e a b state) = Some (annotated.branch e (bare_block a) (bare_block b) no_state)
  bare_kind (annotated.loop e state b) = Some (annotated.loop e no_state (bare_block b))
  bare_kind (annotated.note state) = None
  bare_kind (annotated.output e) = Some (annotated.output e)

  pub bare_block : Block → Block
  bare_block done = done
  bare_block (more at s proofs b) = with_statement at (bare_kind s) (bare_block b)

abbrev pub bare_thread : Thread → Thread
bare_thread t = record { name = t.name; at = t.at; modes = t.modes; body = bare_block t.body; end = t.end }

-- the same program, of which nothing is left but what the plain program has, and the places of threads
abbrev pub bare : Program → Program
bare p = record { version = p.version; vars = p.vars; locks = p.locks; threads = map bare_thread p.threads }
