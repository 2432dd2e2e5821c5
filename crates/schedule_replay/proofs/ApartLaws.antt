-- Two runs of a secure program from fit starts are never found apart.
use Rattle.std.proofs.Common.{◌≡◌, ℕ, zero, suc, List, [], ◌∷◌, length, take}
use Rattle.cov_ast.specs.Plain.{Plain}
use Rattle.cov_expr.specs.Words.{IsMemory, IsSchedule}
use Rattle.flow_model.specs.Agreement.{AreFitStarts}
use Rattle.flow_model.specs.Secure.{IsSecure}
use Rattle.flow_model.specs.Source.{begin}
use Rattle.schedule_replay.specs.Replays.{IsFirstStepApart}
use Rattle.schedule_replay.specs.declared.replays.Found.{Found}

pub schedule_front : (count n : ℕ) (schedule : List ℕ) → IsSchedule count schedule → IsSchedule count (take n schedule)
schedule_front count zero schedule h = tt
schedule_front count (suc n) [] h = tt
schedule_front count (suc n) (t ∷ ts) h = (h.0, schedule_front count n ts h.1)

-- two runs of a secure program from fit starts are never apart
pub secure_not_apart : (p : Plain) (left right schedule : List ℕ) (f : Found) → IsSecure p → IsMemory (length p.vars) left → IsMemory (length p.vars) right
    → AreFitStarts p left right → IsSchedule (length p.threads) schedule → IsFirstStepApart p (begin p left) (begin p right) schedule f → ⊥
secure_not_apart p left right schedule f secure l r fit threads h =
    h.apart (secure left right l r fit (take f.step schedule) (schedule_front (length p.threads) f.step schedule threads))
