-- A hypothesis by its number, where hypotheses stand in two lists.
use Rattle.std.proofs.Common.{◌≡◌, ℕ, zero, suc, ◌-◌, ◌<◌, ◌≤◌, List, [], ◌∷◌, true, false, ◌++◌, length, map, get_or, slice_get, Option, Some, None, option_map, IfSome, IsSome, refl, sym, ◌∙◌, ap, arith}
use Rattle.std.proofs.lemmas.List.{length-map}
use Rattle.std.proofs.lemmas.Option.{slice_get-map, slice_get_read}
use Rattle.entail_cert.specs.Axioms.{numbered}

module _ {A : Type 0} where
  slice_get-front : (xs ys : List A) (i : ℕ) → i < length xs → slice_get (xs ++ ys) i ≡ slice_get xs i
  slice_get-front [] ys i h = absurd (omega arith)
  slice_get-front (x ∷ xs) ys zero h = refl
  slice_get-front (x ∷ xs) ys (suc i) h = slice_get-front xs ys i (omega arith)

  slice_get-back : (xs ys : List A) (i j : ℕ) → length xs ≤ i → j ≡ i - length xs → slice_get (xs ++ ys) i ≡ slice_get ys j
  slice_get-back [] ys i j h e = let k : i ≡ j = omega arith in ap (λ i. slice_get ys i) k
  slice_get-back (x ∷ xs) ys zero j h e = absurd (omega arith)
  slice_get-back (x ∷ xs) ys (suc i) j h e = slice_get-back xs ys i j (omega arith) (omega arith)

  numbered-index : (xs : List A) (number index : ℕ) → 1 ≤ number → index ≡ number - 1 → numbered xs number ≡ slice_get xs index
  numbered-index xs zero index h e = absurd (omega arith)
  numbered-index xs (suc number) index h e = let k : number ≡ index = omega arith in ap (λ i. slice_get xs i) k

module _ {A B C : Type 0} (now : B → A) (v : A → C) (given : List A) where
  pub hypothesis_given : (added : List C) (number index : ℕ) (o : Option B) → 1 ≤ number → index ≡ number - 1 → index < length given
      → IfSome o (λ x. now x ≡ get_or given index (now x)) → (index < length given → IsSome o)
      → option_map (λ x. v (now x)) o ≡ numbered (map v given ++ added) number
  hypothesis_given added number index None m e h is some = let c : false ≡ true = some h in cc
  hypothesis_given added number index (Some x) m e h is some =
      let found : slice_get given index ≡ Some (now x) = slice_get_read given (length given) index (now x) refl h is in
      sym (numbered-index (map v given ++ added) number index m e
      ∙ slice_get-front (map v given) added index (simp length-map h)
      ∙ slice_get-map v given index
      ∙ ap (λ o. option_map v o) found)

module _ {C : Type 0} where
  pub numbered_back : (before after : List C) (number index at : ℕ) → 1 ≤ number → index ≡ number - 1 → length before ≤ index → at ≡ index - length before
      → numbered (before ++ after) number ≡ slice_get after at
  numbered_back before after number index at m e h k = numbered-index (before ++ after) number index m e ∙ slice_get-back before after index at h k

-- what stands in an option, where its view is known
pub some_of : {A B : Type 0} (f : A → B) (o : Option A) (n : Option B) → option_map f o ≡ n → IfSome o (λ x. n ≡ Some (f x))
some_of f None n h = tt
some_of f (Some x) n h = sym h
