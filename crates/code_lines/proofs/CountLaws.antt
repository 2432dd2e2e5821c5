-- Numbers of lines, counted from a place on.
use Rattle.std.proofs.Common.{◌≡◌, ℕ, zero, suc, ◌+◌, ◌-◌, ◌≤◌, List, [], ◌∷◌, ◌++◌, length, take, drop, Bool, true, false, if◌then◌else◌, ap, ◌∙◌, arith}
use Rattle.std.proofs.Math.Seq.{take-add}
use Rattle.text_parts.specs.Lines.{feeds, is_feed, line}

feeds_append : (xs ys : List ℕ) → feeds (xs ++ ys) ≡ feeds xs + feeds ys
feeds_append [] ys = omega arith
feeds_append (b ∷ xs) ys = by (is_feed b) (feeds_append xs ys)
  where
    by : (t : Bool) → feeds (xs ++ ys) ≡ feeds xs + feeds ys → (if t then feeds (xs ++ ys) + 1 else feeds (xs ++ ys)) ≡ (if t then feeds xs + 1 else feeds xs) + feeds ys
    by true e = omega (arith, e)
    by false e = e

take_most : (i : ℕ) (xs : List ℕ) → length (take i xs) ≤ i
take_most zero xs = omega arith
take_most (suc i) [] = omega arith
take_most (suc i) (x ∷ xs) = omega (arith, take_most i xs)

feeds_most : (xs : List ℕ) → feeds xs ≤ length xs
feeds_most [] = omega arith
feeds_most (b ∷ xs) = by (is_feed b) (feeds_most xs)
  where
    by : (t : Bool) → feeds xs ≤ length xs → (if t then feeds xs + 1 else feeds xs) ≤ length (b ∷ xs)
    by true h = omega (arith, h)
    by false h = omega (arith, h)

-- the line of a place behind another
pub line_more : (bytes : List ℕ) (i j : ℕ) → line bytes i + (line (drop i bytes) j - 1) ≡ line bytes (i + j)
line_more bytes i j =
    let parts = ap feeds (take-add i j bytes) ∙ feeds_append (take i bytes) (take j (drop i bytes)) in
    omega (arith, parts)

-- a line has no greater number than its place, but for one
pub line_most : (bytes : List ℕ) (i : ℕ) → line bytes i ≤ i + 1
line_most bytes i = omega (arith, feeds_most (take i bytes), take_most i bytes)

pub take_within : {X : Type 0} (n : ℕ) (xs : List X) → length (take n xs) ≤ length xs
take_within zero xs = omega arith
take_within (suc n) [] = omega arith
take_within (suc n) (x ∷ xs) = omega (arith, take_within n xs)
