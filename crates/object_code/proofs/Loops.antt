-- Reading one item after another, as a loop does.
use Rattle.std.proofs.Common.{◌≡◌, ℕ, suc, ◌+◌, ◌-◌, ◌<◌, ◌≤◌, List, [], ◌∷◌, ◌++◌, refl, ap, sym, ◌∙◌, append_assoc, arith, Result, Ok, Err}
use Rattle.std.proofs.lemmas.List.{append-nil}
use Rattle.object_code.specs.Inside.ObjectReading.{Reader, ◌>>=◌, many_at}
use Rattle.object_code.specs.Inside.Given.{Stops}
use Rattle.object_code.specs.declared.stop.Stop.{Stop}
use Rattle.object_code.specs.declared.stop.Stop.TheVariants.{Left, NoMemory}

-- what was read before, and what is still read
abbrev pub with_front : {A : Type 0} → List A → Result (List A × List ℕ) ℕ → Result (List A × List ℕ) ℕ
with_front front read = read >>= λ x. Ok (front ++ x.0, x.1)

pub regroup : {A : Type 0} (front : List A) (a : A) (r : Result (List A × List ℕ) ℕ) → with_front front (r >>= λ x. Ok (a ∷ x.0, x.1)) ≡ with_front (front ++ a ∷ []) r
regroup front a (Ok x) = ap (λ items. Ok (items, x.1)) (sym (append_assoc front (a ∷ []) x.0))
regroup front a (Err n) = refl

module _ {A : Type 0} (read : Reader A) (front : List A) (count i : ℕ) (bytes : List ℕ) (total : Result (List A × List ℕ) ℕ) where
  pub reads_on : (a : A) (after : List ℕ) → i < count → read bytes ≡ Ok (a, after) → with_front front (many_at read (count - i) bytes) ≡ total
      → with_front (front ++ a ∷ []) (many_at read (count - (i + 1)) after) ≡ total
  reads_on a after inside h so_far =
      let left : count - i ≡ suc (count - (i + 1)) = omega arith in
      sym (regroup front a (many_at read (count - (i + 1)) after))
      ∙ sym (ap (λ k. with_front front (many_at read k bytes)) left ∙ ap (λ r. with_front front (r >>= λ a. many_at read (count - (i + 1)) a.1 >>= λ b. Ok (a.0 ∷ b.0, b.1))) h)
      ∙ so_far

  pub read_stops : (e : Stop) → i < count → Stops e (read bytes) → with_front front (many_at read (count - i) bytes) ≡ total → Stops e total
  read_stops NoMemory inside h so_far = tt
  read_stops (Left n) inside h so_far =
      let left : count - i ≡ suc (count - (i + 1)) = omega arith in
      sym so_far
      ∙ ap (λ k. with_front front (many_at read k bytes)) left ∙ ap (λ r. with_front front (r >>= λ a. many_at read (count - (i + 1)) a.1 >>= λ b. Ok (a.0 ∷ b.0, b.1))) h

  pub read_ends : count ≤ i → with_front front (many_at read (count - i) bytes) ≡ total → total ≡ Ok (front, bytes)
  read_ends past so_far =
      let left : count - i ≡ 0 = omega arith in
      sym so_far ∙ ap (λ k. with_front front (many_at read k bytes)) left ∙ ap (λ items. Ok (items, bytes)) (append-nil front)

pub nothing_before : {A : Type 0} (r : Result (List A × List ℕ) ℕ) → with_front [] r ≡ r
nothing_before (Ok x) = refl
nothing_before (Err n) = refl

pub read_begins : {A : Type 0} (read : Reader A) (count : ℕ) (bytes : List ℕ) → with_front [] (many_at read (count - 0) bytes) ≡ many_at read count bytes
read_begins read count bytes = let all : count - 0 ≡ count = omega arith in ap (λ k. with_front [] (many_at read k bytes)) all ∙ nothing_before (many_at read count bytes)
