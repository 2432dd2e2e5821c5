-- The locks that are held are those of the points of the rules of types.
use Rattle.std.proofs.Common.{◌≡◌, ℕ, refl, ap, ◌∙◌}
use Rattle.cov_ast.specs.Plain.{Plain, plain_block}
use Rattle.cov_ast.specs.Syntax.{Stm, skip, branch, Block, done, more}
use Rattle.typing_law.specs.Blocks.{after_stm, after_block}
use Rattle.point_law.specs.After.{with_guard}
use Rattle.point_law.specs.Point.{Point}
use Rattle.statement_paths.specs.LocksHeld.{held_past, held_at_end}
use Rattle.statement_paths.proofs.PlainLaws.{after_the_first}

module _ (p : Plain) (t : ℕ) where
  mutual
    held_behind : (s : Stm) (a : Point) → held_past s a.held ≡ (after_stm p t s a).held
    held_behind skip a = refl
    held_behind (branch e yes_block no_block join) a = held_behind_block yes_block (with_guard p t a e)
    held_behind _ a = refl

    held_behind_block : (b : Block) (a : Point) → held_at_end b a.held ≡ (after_block p t b a).held
    held_behind_block done a = refl
    held_behind_block (more at s proofs rest) a =
        after_the_first s at (plain_block rest) a.held ∙ ap (held_at_end rest) (held_behind s a) ∙ held_behind_block rest (after_stm p t s a)

pub after_held : (p : Plain) (t : ℕ) (s : Stm) (a : Point) → held_past s a.held ≡ (after_stm p t s a).held
after_held p t s a = held_behind p t s a
