-- What a step changes is told by the first statement of a thread.
use Rattle.std.proofs.Common.{◌≡◌, ℕ, List, [], ◌∷◌, refl, ap, Option, Some, None}
use Rattle.cov_ast.specs.Syntax.{Stm, Block, done, more}
use Rattle.cov_ast.specs.Syntax as s
use Rattle.source_machine.specs.Frames.{items, with_word}
use Rattle.source_machine.specs.Inside.Entries.{IsReady, AreFrames}
use Rattle.source_machine.specs.Inside.Firsts.{first_change, first_stm, stm_change}
use Rattle.source_machine.specs.SourceMachine.{change_of}
use Rattle.source_machine.proofs.AlikeLaws.{with_nothing}

module _ (at : ℕ) (proofs : List s.Proof) (b : Block) (bs : List Block) where
  change_here : (c : Stm) (w : Option ℕ) → IsReady (more at c proofs b) → change_of (with_word w (items (more at c proofs b ∷ bs))) ≡ stm_change c w
  change_here (s.note j) w r = absurd r
  change_here _ None r = refl
  change_here _ (Some w) r = refl

pub change_is : (vars locks room : ℕ) (bs : List Block) (w : Option ℕ) → AreFrames vars locks room bs → change_of (with_word w (items bs)) ≡ first_change (first_stm bs) w
change_is vars locks room [] w f = ap change_of (with_nothing w)
change_is vars locks room (done ∷ bs) w f = absurd f.1
change_is vars locks room (more at c proofs b ∷ bs) w f = change_here at proofs b bs c w f.1
