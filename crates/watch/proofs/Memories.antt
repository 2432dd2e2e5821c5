-- A slice of words is a memory.
use Rattle.std.proofs.Common.{◌≡◌, ℕ, suc, List, [], ◌∷◌, length, get_or, Fits, w32, arith}
use Rattle.cov_expr.specs.Words.{AreWords, IsMemory}

are_words : (m : List ℕ) → ((i : ℕ) → Fits w32 (get_or m i 0)) → AreWords m
are_words [] h = tt
are_words (w ∷ ws) h = (let fits = h 0 in omega (arith, fits), are_words ws (λ i. h (suc i)))

pub memory_of : (m : List ℕ) (count : ℕ) → length m ≡ count → ((i : ℕ) → Fits w32 (get_or m i 0)) → IsMemory count m
memory_of m count e h = record { complete = e; words = are_words m h }
