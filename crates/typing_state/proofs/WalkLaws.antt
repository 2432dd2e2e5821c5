-- Walks over the variables that pass over those of which nothing is to be done.
use Rattle.std.proofs.Common.{◌≡◌, ℕ, ◌<◌, ◌≤◌, ◌&&◌, List, Bool, true, false, length, get_or, nat_lt, refl, ap, ◌∙◌, arith, Option, Some, None, if◌then◌else◌}
use Rattle.std.specs.Prelude.{IfSome}
use Rattle.std.proofs.lemmas.Bool.{ltb-true, ltb-false}
use Rattle.cov_expr.specs.Term.{Term}
use Rattle.point_law.specs.After.{updated}
use Rattle.typing_state.specs.Next.{AreDone}
use Rattle.typing_state.specs.Inside.Least.{earlier, if_below}
use Rattle.point_law.proofs.Steps.{upto, upto_pass, upto_end, upto_from}

-- The next one -----------------------------------------------------------------------------------------------------

-- where neither of two tests stops before
pub done_both : (f g : ℕ → Bool) (from end : ℕ) (a b : Option ℕ) → AreDone f from end a → AreDone g from end b → AreDone (λ k. f k && g k) from end (earlier a b)
done_both f g from end None None h k = λ x le lt i. h x le lt i && k x le lt i
done_both f g from end None (Some y) h k = (k.0, k.1, λ x le lt. (λ i. h x le (let inside : y < end = k.0 in omega arith) i && k.2 x le lt i))
done_both f g from end (Some y) None h k = (h.0, h.1, λ x le lt. (λ i. h.2 x le lt i && k x le (let inside : y < end = h.0 in omega arith) i))
done_both f g from end (Some y) (Some z) h k =
    (omega (arith, h.0), omega (arith, h.1, k.1), λ x le lt. (λ i. h.2 x le (omega arith) i && k.2 x le (omega arith) i))

-- up to an end that comes earlier
pub done_below : (f : ℕ → Bool) (from n end : ℕ) (x : Option ℕ) → end ≤ n → AreDone f from n x → AreDone f from end (if_below end x)
done_below f from n end None le h = λ k low high. h k low (omega arith)
done_below f from n end (Some x) le h = at (nat_lt x end) refl
  where
    at : (b : Bool) → nat_lt x end ≡ b → AreDone f from end (if b then Some x else None)
    at true e = (ltb-true x end e, h.1, h.2)
    at false e = λ k low high. h.2 k low (let past : end ≤ x = ltb-false x end e in omega arith)

-- where each is walked
pub done_next : (f : ℕ → Bool) (from end : ℕ) → AreDone f from end (if_below end (Some from))
done_next f from end = at (nat_lt from end) refl
  where
    at : (b : Bool) → nat_lt from end ≡ b → AreDone f from end (if b then Some from else None)
    at true e = (ltb-true from end e, omega arith, λ k low high. absurd (omega arith))
    at false e = λ k low high. absurd (let past : end ≤ from = ltb-false from end e in omega arith)

-- what comes next comes before an end that it is below
pub below_some : (P : ℕ → Type 0) (end : ℕ) (x : Option ℕ) → IfSome x P → IfSome (if_below end x) P
below_some P end None h = tt
below_some P end (Some x) h = at (nat_lt x end)
  where
    at : (b : Bool) → IfSome (if b then Some x else None) P
    at true = h
    at false = tt

pub below_within : (from end : ℕ) (x : Option ℕ) → IfSome x (λ y. from ≤ y) → IfSome (if_below end x) (λ y. (from ≤ y) × (y < end))
below_within from end None h = tt
below_within from end (Some x) h = at (nat_lt x end) refl
  where
    at : (b : Bool) → nat_lt x end ≡ b → IfSome (if b then Some x else None) (λ y. (from ≤ y) × (y < end))
    at true e = (h, ltb-true x end e)
    at false e = tt

-- The list so far --------------------------------------------------------------------------------------------------

-- `f` says what each variable has in the end, from what it had; those of which nothing is to be done keep it.
module _ (f : ℕ → Option Term → Option Term) (qs now : List (Option Term)) (done : ℕ → Bool) (from end : ℕ) (is : now ≡ upto f qs from)
    (keeps : (k : ℕ) → k < end → get_or now k None ≡ get_or qs k None → done k ≡ true → f k (get_or qs k None) ≡ get_or qs k None) where
  as_it_was : (k : ℕ) → from ≤ k → k < length qs → get_or now k None ≡ get_or qs k None
  as_it_was k le lt = ap (λ rs. get_or rs k None) is ∙ upto_from f qs from k le lt

  -- the walk goes on at the next one
  pub walked_to : (z : ℕ) → AreDone done from end (Some z) → now ≡ upto f qs z
  walked_to z h =
      is ∙ upto_pass f qs from z h.1 (λ k low high there. keeps k (let inside : z < end = h.0 in omega arith) (as_it_was k low there) (h.2 k low high))

  -- the walk ends
  pub walked_all : length qs ≤ end → AreDone done from end None → now ≡ updated f qs
  walked_all few h = is ∙ upto_end f qs from end few (λ k low high there. keeps k high (as_it_was k low there) (h k low high))
