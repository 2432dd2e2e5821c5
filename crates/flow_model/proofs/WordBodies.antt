-- Plain bodies whose expressions are of words, and that those of a well formed program are.
use Rattle.std.proofs.Common.{ℕ, [], map, get_or, length, Option, IfSome, inl, inr, ap, sym, subst, arith}
use Rattle.std.proofs.lemmas.Bool.{cases_lt}
use Rattle.std.proofs.lemmas.List.{get_or-map, get_or_past, length-map}
use Rattle.cov_expr.specs.Term.{Term}
use Rattle.cov_expr.specs.Words.{HasWords}
use Rattle.cov_ast.specs.Declarations.{no_modes, no_thread, thread_at}
use Rattle.cov_ast.specs.Plain.{Cmd, Cmds, Plain, plain, plain_stm, plain_block, plain_thread}
use Rattle.cov_ast.specs.Syntax.{Program, Stm, Block, done, more, Thread}
use Rattle.cov_ast.specs.Syntax as annotated
use Rattle.cov_ast.specs.WellFormed.{IsWellFormed, StmHasWords, BlockHasWords}
use Rattle.statement_parts.specs.PlainParts.{either, Inside, made, made_inside, nothing, parts, turns}

-- each expression of a statement is of words, and of those in its blocks
abbrev pub HaveWords : Option Term → Inside (Type 0) → Type 0
HaveWords e nothing = IfSome e HasWords
HaveWords e (turns guard A) = IfSome e HasWords × A
HaveWords e (either guard A B) = IfSome e HasWords × A × B

-- of a statement in front of others
abbrev pub BeginsWithWords : (at : ℕ) → Cmd → Inside (Type 0) → Type 0 → Type 0
BeginsWithWords at c inside A = HaveWords (parts c).evaluated inside × A

abbrev pub CmdHasWords : Cmd → Type 0
CmdHasWords c = HaveWords (parts c).evaluated (made_inside (Unit {0}) BeginsWithWords c)

abbrev pub CmdsHaveWords : Cmds → Type 0
CmdsHaveWords cs = made (Unit {0}) BeginsWithWords cs

abbrev pub HasWordBodies : Plain → Type 0
HasWordBodies p = (t : ℕ) → CmdsHaveWords (thread_at p t).body

mutual
  stm_words : (s : Stm) (at : ℕ) (rest : Cmds) → StmHasWords s → CmdsHaveWords rest → CmdsHaveWords (plain_stm s at rest)
  stm_words (annotated.branch e yes_block no_block join) at rest h k = ((h.0, block_words yes_block h.1, block_words no_block h.2), k)
  stm_words (annotated.loop e inv b) at rest h k = ((h.0, block_words b h.2), k)
  stm_words _ at rest h k = assumption

  block_words : (b : Block) → BlockHasWords b → CmdsHaveWords (plain_block b)
  block_words done h = tt
  block_words (more at s proofs b) h = stm_words s at (plain_block b) h.0 (block_words b h.2)

-- past the last thread stands one without statements
abbrev none_there : Thread
none_there = record { name = []; at = 0; modes = no_modes; body = done; end = 0 }

pub bodies_have_words : (p : Program) → IsWellFormed p → HasWordBodies (plain p)
bodies_have_words p fine t = elim (cases_lt t (length p.threads)) [
  | inl lt ↦ subst (λ b. CmdsHaveWords b) (sym (ap (λ th. th.body) (get_or-map plain_thread p.threads t none_there no_thread lt)))
      (block_words (get_or p.threads t none_there).body (fine.words.bodies t none_there lt))
  | inr past ↦ subst (λ b. CmdsHaveWords b)
      (sym (ap (λ th. th.body) (get_or_past (map plain_thread p.threads) t no_thread (omega (arith, past, length-map p.threads plain_thread))))) tt
]
