-- Of many statements the first are told.
use Rattle.std.proofs.Common.{◌≡◌, ℕ, ◌<◌, List, [], ◌∷◌, length, flat_map, ap, arith, if◌then◌else◌}
use Rattle.std.proofs.lemmas.Bool.{lt-leb}
use Rattle.cov_ast.specs.Syntax.{Program}
use Rattle.typing_trace.specs.PointLines.{first_lines, spot_lines, told_of}
use Rattle.typing_trace.specs.declared.points.TheConstants.{MOST_TOLD}
use Rattle.typing_trace.specs.declared.spots.Spot.{Spot}

pub many_told : (p : Program) (bytes : List ℕ) (ss : List Spot) → MOST_TOLD < length ss → told_of p bytes ss ≡ first_lines p bytes ss
many_told p bytes [] h = absurd (omega (arith, h))
many_told p bytes (s ∷ ss) h =
    ap (λ b. if b then flat_map (spot_lines p bytes) (s ∷ ss) else first_lines p bytes (s ∷ ss)) (lt-leb (length (s ∷ ss)) MOST_TOLD h)
