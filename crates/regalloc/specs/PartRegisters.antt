-- What a register for a part of an expression is.
use Rattle.std.specs.Prelude.{◌≡◌, ℕ, ◌<◌, get_or, Some, None}
use Rattle.regalloc.specs.Plan.{Plan, part}

-- It is one of r0 to r6, keeps nothing, and is for the parts of one depth alone, so that parts that live together have
-- distinct registers.
pub record IsForPart (plan : Plan) (depth r : ℕ) : Type 0 where
  pub low : r < 7
  pub free : get_or plan r None ≡ None
  pub own : (d : ℕ) → part plan d ≡ Some r → d ≡ depth
