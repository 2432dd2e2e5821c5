-- Points one behind the other, and what the code keeps of them.
use Rattle.std.proofs.Common.{◌≡◌, ℕ, Option, Some, None, subst}
use Rattle.std.specs.Prelude.{option_and_then}
use Rattle.cov_ast.specs.Plain.{Plain}
use Rattle.point_law.specs.Point.{Point}
use Rattle.typing_state.specs.declared.point.Point as declared
use Rattle.typing_state.specs.KeptPoints.{Keeps}
use Rattle.typing_points.specs.Traces.{KeepsAny}

module _ (p : Plain) (t : ℕ) where
  -- where what is kept is there, so is the point, and what comes behind it comes behind that
  pub reached : (o : Option Point) (f : Point → Option Point) (whole : Option Point) (kept : declared.Point)
      → KeepsAny p t o (Some kept) → option_and_then f o ≡ whole → (b : Point) × (Keeps p t b kept × (f b ≡ whole))
  reached None f whole kept h is = absurd h
  reached (Some b) f whole kept h is = (b, (h, is))

  -- where nothing is kept, no point is there
  pub ended : (o : Option Point) (f : Point → Option Point) (whole : Option Point) → KeepsAny p t o None → option_and_then f o ≡ whole → KeepsAny p t whole None
  ended None f whole h is = subst (λ x. KeepsAny p t x None) is tt
  ended (Some b) f whole h is = absurd h
