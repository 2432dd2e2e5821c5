-- Numbers of statements. These are words of the code's contracts.
use Rattle.std.specs.Prelude.{ℕ, zero, suc, List, [], ◌∷◌}
use Rattle.cov_parse.specs.declared.counts.Counting.{Counting}
use Rattle.cov_parse.specs.declared.counts.Counting.TheVariants.{Left, Past}

-- how many places may still come, or the first one that is too many
abbrev pub counted : ℕ → List ℕ → Counting
counted n [] = Left n
counted zero (at ∷ ats) = Past at
counted (suc n) (at ∷ ats) = counted n ats

-- the count goes on over what comes behind
abbrev pub onward : Counting → List ℕ → Counting
onward (Left n) ats = counted n ats
onward (Past at) ats = Past at
