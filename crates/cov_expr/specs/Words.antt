-- Which numbers, memories and expressions are made of words of 32 bits, and which lists are schedules.
use Rattle.std.specs.Prelude.{◌≡◌, ℕ, ◌<◌, ◌^◌, List, [], ◌∷◌, length}
use Rattle.cov_expr.specs.Term.{Term, const, var, neg, bin}

abbrev pub IsWord : ℕ → Type 0
IsWord n = n < 2 ^ 32

abbrev pub AreWords : List ℕ → Type 0
AreWords [] = Unit {0}
AreWords (w ∷ ws) = IsWord w × AreWords ws

-- A memory of so many variables has a word for each.
pub record IsMemory (count : ℕ) (m : List ℕ) : Type 0 where
  pub complete : length m ≡ count
  pub words : AreWords m

-- A schedule of so many threads: each entry is the number of one of them.
abbrev pub IsSchedule : ℕ → List ℕ → Type 0
IsSchedule count [] = Unit {0}
IsSchedule count (t ∷ ts) = (t < count) × IsSchedule count ts

-- each number and each variable is a word
abbrev pub HasWords : Term → Type 0
HasWords (const k) = IsWord k
HasWords (var x) = IsWord x
HasWords (neg e) = HasWords e
HasWords (bin op a b) = HasWords a × HasWords b

-- each variable is below a bound
abbrev pub HasVarsBelow : Term → ℕ → Type 0
HasVarsBelow (const k) n = Unit {0}
HasVarsBelow (var x) n = x < n
HasVarsBelow (neg e) n = HasVarsBelow e n
HasVarsBelow (bin op a b) n = HasVarsBelow a n × HasVarsBelow b n
