-- The words of numbered trials, as a linear congruential generator draws them.
use Rattle.std.specs.Prelude.{ℕ, ◌+◌, ◌*◌, ◌/◌, ◌%◌, ◌^◌, ◌<◌, ◌≤◌, ◌==◌, if◌then◌else◌}
use Rattle.cov_expr.specs.declared.limits.TheConstants.{MOST_TRIALS, MOST_VARIABLES}

-- The generator ------------------------------------------------------------------------------------------------

-- Its constants are those that Knuth and Lewis give for words of 32 bits.
abbrev pub multiplier : ℕ
multiplier = 1664525

abbrev pub increment : ℕ
increment = 1013904223

abbrev pub modulus : ℕ
modulus = 2 ^ 32

-- what it makes of a word in one step
abbrev pub generated : ℕ → ℕ
generated k = (multiplier * k + increment) % modulus

-- what is drawn at a place: the upper half of the word that two steps make of it
abbrev pub drawn : ℕ → ℕ
drawn k = generated (generated k) / 2 ^ 16

-- Words of trials ----------------------------------------------------------------------------------------------

-- The word of a variable on the first (1) or the second (2) side of a trial: 0, 1, 2 or 3. Each trial has 512 places of its own,
-- 256 for each side. (What is low isn't looked at here.)
abbrev pub raw_word : (trial side x : ℕ) → ℕ
raw_word trial side x = if side == 1 then drawn (512 * trial + x) % 4 else drawn (512 * trial + 256 + x) % 4

-- There is such a word: of a trial, of one of its two sides, and of as many variables as a program may have.
pub record IsTrialWord (trial side x : ℕ) : Type 0 where
  pub first : 1 ≤ trial
  pub last : trial ≤ MOST_TRIALS
  pub left : 1 ≤ side
  pub right : side ≤ 2
  pub variable : x < MOST_VARIABLES
