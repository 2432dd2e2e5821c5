use Rattle.std.proofs.Common.{◌≡◌, ℕ, ◌-◌, [], get_or, vec_len}
use Rattle.entail_range.specs.Inside.Index.{terms}
use Rattle.entail_range.proofs.index.empty.Given as goal

-- nothing lies anywhere
abbrev pub invariant-slots : goal.invariant-slots
invariant-slots l = (i : ℕ) → get_or (terms l.buckets.items) i [] ≡ []

abbrev pub decreases-slots : goal.decreases-slots
decreases-slots l = l.count - vec_len l.buckets
