-- What it means that a count grew.
use Rattle.std.proofs.Common.{◌≡◌, ℕ, ◌+◌, ◌<◌, ◌≤◌, ◌⊎◌, inl, inr, arith}
use Rattle.cov_io.specs.Counters.{GrewPast, last_count}

pub grew_or_stands : (n before now : ℕ) → now ≤ last_count → GrewPast n before now → (before + n < now) ⊎ (now ≡ last_count)
grew_or_stands n before now fits grew = grind arith

pub stands_or_grew : (n before now : ℕ) → (before + n < now) ⊎ (now ≡ last_count) → GrewPast n before now
stands_or_grew n before now (inl more) = omega arith
stands_or_grew n before now (inr last) = omega arith

-- A count that grew in a call grew over calls before and behind it too.
pub grew_within : (n a b c d : ℕ) → a ≤ b → c ≤ d → GrewPast n b c → GrewPast n a d
grew_within n a b c d before behind grew = omega arith
