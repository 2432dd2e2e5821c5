-- The next number of which something is to be done.
use Rattle.std.specs.Prelude.{◌≡◌, ℕ, ◌<◌, ◌≤◌, Bool, true, Option, Some, None}

-- From a number on, nothing is to be done before an answer, which is below an end, or before the end.
abbrev pub AreDone : (done : ℕ → Bool) → (from end : ℕ) → Option ℕ → Type 0
AreDone done from end None = (k : ℕ) → from ≤ k → k < end → done k ≡ true
AreDone done from end (Some x) = (x < end) × (from ≤ x) × ((k : ℕ) → from ≤ k → k < x → done k ≡ true)
