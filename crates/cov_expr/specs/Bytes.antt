-- Classes of bytes that words of a text are made of.
use Rattle.std.specs.Prelude.{ℕ, Bool, ◌&&◌, ◌||◌, ◌==◌, nat_le}

abbrev pub is_lower : ℕ → Bool
is_lower b = nat_le 97 b && nat_le b 122

abbrev pub is_digit : ℕ → Bool
is_digit b = nat_le 48 b && nat_le b 57

-- a lower-case letter, a digit or an underscore
abbrev pub is_word : ℕ → Bool
is_word b = is_lower b || is_digit b || b == 95
