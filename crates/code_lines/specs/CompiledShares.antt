-- Which lines of compiled code belong to which statement: those that the compiler makes for it.
use Rattle.std.specs.Prelude.{◌≡◌, ℕ, suc, ◌+◌, List, [], ◌∷◌, ◌++◌, length, flat_map, Bool}
use Rattle.cov_ast.specs.LocksAlong.{locks_after}
use Rattle.cov_ast.specs.Plain.{Cmd, Cmds, Plain}
use Rattle.code_lines.specs.CodeShares.{Share}
use Rattle.code_lines.specs.declared.walk.Role.{Role}
use Rattle.code_lines.specs.declared.walk.Role.TheVariants.{Whole, Guard, Past, Back}
use Rattle.compiled_code.specs.Compiled.{block_lines, cmd_lines, cmd_plan, direct, eval_lines, eval_plan, eval_register, expr_lines, expr_plan, expr_register, line, use_weight}
use Rattle.mode_state.specs.Sets.{is_stable}
use Rattle.regalloc.specs.Plan.{Plan, start}
use Rattle.risc_machine.specs.declared.parts.Instr.TheVariants.{Jump, Jz}
use Rattle.risc_machine.specs.declared.parts.Line.{Line}
use Rattle.statement_parts.specs.PlainParts as plain_parts
use Rattle.statement_parts.specs.PlainParts.{either, first_block, Inside, last_block, made_inside, nothing, parts, turns}

abbrev pub made : Role → (at from : ℕ) → List Line → Share
made role at from lines = record { role = role; at = at; from = from; lines = lines }

module _ (p : Plain) (t : ℕ) where
  -- Of a statement at a place, whose code begins at line i, by its blocks and by the shares of each. Of a statement without blocks it is one, with all its
  -- lines; of others the parts that `cmd_lines` puts together.
  abbrev pub shares_inside : (at : ℕ) → Cmd → (blocks : Inside Cmds) → Inside (List Bool → Plan → (i : ℕ) → List Share) → List Bool → Plan → (i : ℕ) → List Share
  shares_inside at c blocks nothing locks plan i = made Whole at i (cmd_lines p t c locks plan i) ∷ []
  shares_inside at c blocks (either e a b) locks plan i =
      let stable = is_stable p t locks in
      let from = direct stable plan e in
      let guard = eval_lines stable plan e from in
      let inside = eval_plan stable plan e from in
      let yes_at = suc (i + length guard) in
      let jump_at = yes_at + length (block_lines p t (first_block blocks) locks inside yes_at) in
      let no_lines = block_lines p t (last_block blocks) locks inside (suc jump_at) in
      made Guard at i (guard ++ (line (use_weight from) (Jz (eval_register stable plan e from) (suc jump_at)) ∷ []))
      ∷ (a locks inside yes_at
      ++ (made Past at jump_at (line 0 (Jump (suc jump_at + length no_lines)) ∷ []) ∷ b locks inside (suc jump_at)))
  shares_inside at c blocks (turns e a) locks plan i =
      let stable = is_stable p t locks in
      let guard = expr_lines stable start e in
      let inside = expr_plan stable start e in
      let body_at = suc (i + length guard) in
      let jump_at = body_at + length (block_lines p t (first_block blocks) locks inside body_at) in
      made Guard at i (guard ++ (line 1 (Jz (expr_register stable start e) (suc jump_at)) ∷ []))
      ∷ (a locks inside body_at ++ (made Back at jump_at (line 0 (Jump i) ∷ []) ∷ []))

  -- of no statement, and of one and the rest
  abbrev pub no_shares : List Bool → Plan → (i : ℕ) → List Share
  no_shares locks plan i = []

  abbrev pub shares_or : (at : ℕ) → Cmd → Inside (List Bool → Plan → (i : ℕ) → List Share) → (rest : List Bool → Plan → (i : ℕ) → List Share)
      → List Bool → Plan → (i : ℕ) → List Share
  shares_or at c inside rest locks plan i =
      shares_inside at c (parts c).inside inside locks plan i
      ++ rest (locks_after c locks) (cmd_plan p t c locks plan) (i + length (cmd_lines p t c locks plan i))

  -- the shares of a statement at a place, whose code begins at line i
  abbrev pub cmd_shares : (at : ℕ) → Cmd → List Bool → Plan → (i : ℕ) → List Share
  cmd_shares at c locks plan i = shares_inside at c (parts c).inside (made_inside no_shares shares_or c) locks plan i

  -- the shares of the statements of a block
  abbrev pub cmds_shares : Cmds → List Bool → Plan → (i : ℕ) → List Share
  cmds_shares b locks plan i = plain_parts.made no_shares shares_or b locks plan i

-- Positions ------------------------------------------------------------------------------------------------------

-- all lines of shares, in order
abbrev pub lines_of : List Share → List Line
lines_of qs = flat_map (λ q. q.lines) qs

-- Each share begins where those in front of it end, the first at this position.
abbrev pub AreInRow : (i : ℕ) → List Share → Type 0
AreInRow i [] = Unit {0}
AreInRow i (q ∷ qs) = (q.from ≡ i) × AreInRow (i + length q.lines) qs
