-- Laws of the obligations of written states, of held locks and of points.
use Rattle.std.proofs.Common.{◌≡◌, ℕ, zero, suc, ◌+◌, ◌<◌, ◌≤◌, ◌==◌, List, [], ◌∷◌, Bool, true, false, length, map, get_or, take, drop, reverse, not, ◌&&◌, ◌||◌, cond, refl, sym, ap, ◌∙◌, subst, arith, inl, inr, Some, None, Err, is_none}
use Rattle.std.specs.List.{find, range_with_len, list_any}
use Rattle.std.proofs.Math.Bool.{beq}
use Rattle.std.proofs.lemmas.Bool.{cases_eq}
use Rattle.std.proofs.lemmas.List.{get_or-map, map-append, reverse-append, take_more}
use Rattle.cov_expr.specs.Term.{Term}
use Rattle.cov_expr.specs.Trees.{has_number}
use Rattle.cov_expr.proofs.Trees.{has_number-append}
use Rattle.cov_ast.specs.Plain.{Plain}
use Rattle.cov_ast.specs.Declarations.{lock_at, name_of, no_lock}
use Rattle.cov_ast.specs.View as view
use Rattle.cov_ast.specs.declared.decl.LockDecl.{LockDecl}
use Rattle.cov_ast.specs.Obligations.{Obligation, Decides, first_false}
use Rattle.cov_ast.specs.declared.refusal.CheckFault.{CheckFault}
use Rattle.cov_ast.specs.declared.refusal.CheckFault.TheVariants.{Refused}
use Rattle.cov_ast.specs.declared.refusal.Detail.TheVariants.{One}
use Rattle.cov_ast.specs.declared.refusal.Rule.TheVariants.{V11, V14}
use Rattle.cov_ast.proofs.ObligationLaws.{loop_refused, loop_more}
use Rattle.typing_law.specs.ThreadObligations.{agree, obligation, over_controls, type_obligations, thread_obligation, end_obligation, first_held, lock_detail}

-- The first number that passes a test --------------------------------------------------------------------------

pub found_from : (f : ℕ → Bool) (a n l : ℕ) → a ≤ l → l < a + n → f l ≡ true → ((k : ℕ) → k < l → f k ≡ false) → find f (range_with_len a n) ≡ Some l
found_from f a zero l from to h below = absurd (omega arith)
found_from f a (suc n) l from to h below = elim (cases_eq a l) [
  | inl e ↦ ap (λ b. cond b (Some a) (find f (range_with_len (a + 1) n))) (ap f e ∙ h) ∙ ap Some e
  | inr ne ↦ ap (λ b. cond b (Some a) (find f (range_with_len (a + 1) n))) (below a (omega arith)) ∙ found_from f (a + 1) n l (omega arith) (omega arith) h below
]

pub none_found : (f : ℕ → Bool) (a n : ℕ) → ((k : ℕ) → k < a + n → f k ≡ false) → find f (range_with_len a n) ≡ None
none_found f a zero h = refl
none_found f a (suc n) h =
    ap (λ b. cond b (Some a) (find f (range_with_len (a + 1) n))) (h a (omega arith)) ∙ none_found f (a + 1) n (λ k lt. h k (omega arith))

-- Truth values -------------------------------------------------------------------------------------------------

pub other_agree : (a b : Bool) → not (beq a b) ≡ true → agree a b ≡ false
other_agree true true h = sym h
other_agree true false h = refl
other_agree false true h = refl
other_agree false false h = sym h

-- Locks --------------------------------------------------------------------------------------------------------

pub lock_name : (locks : List LockDecl) (l : ℕ) (lock : LockDecl) → l < length locks → lock ≡ get_or locks l lock → lock.name ≡ (get_or (map view.lock locks) l no_lock).name
lock_name locks l lock inside is = ap (λ k. k.name) is ∙ sym (ap (λ k. k.name) (get_or-map view.lock locks l lock no_lock inside))

-- a lock that is held at the end
pub end_refused : (p : Plain) (t place l : ℕ) (held : List Bool) (name : List ℕ) (fault : CheckFault) → first_held p held ≡ Some l → name ≡ (lock_at p l).name
    → fault ≡ Refused (thread_obligation t place V11 (One name) false).refusal → Decides (end_obligation p t place held ∷ []) (Err fault)
end_refused p t place l held name fault found named is =
    subst (λ f. Decides (end_obligation p t place held ∷ []) (Err f)) (sym is)
    ((λ i. first_false (thread_obligation t place V11 (lock_detail p (found i)) (is_none (found i)) ∷ []))
    ∙ ap (λ n. Some (thread_obligation t place V11 (One n) false).refusal) (sym named))

-- no lock is held at the end
pub end_held : (p : Plain) (t place : ℕ) (held : List Bool) → first_held p held ≡ None → first_false (end_obligation p t place held ∷ []) ≡ None
end_held p t place held none = ap (λ l. first_false (thread_obligation t place V11 (lock_detail p l) (is_none l) ∷ [])) none

-- Types that are listed ----------------------------------------------------------------------------------------

-- the variables of items that each list a type
abbrev pub names : {X : Type 0} → (X → ℕ × Term) → List X → List ℕ
names g xs = map (λ x. (g x).0) xs

number_among : {X : Type 0} (g : X → ℕ × Term) (xs : List X) (z : ℕ) → has_number (names g xs) z ≡ list_any (λ x. (g x).0 == z) xs
number_among g [] z = refl
number_among g (x ∷ xs) z = ap (λ b. ((g x).0 == z) || b) (number_among g xs z)

or_swap : (a b : Bool) → (a || (b || false)) ≡ (b || a)
or_swap true true = refl
or_swap true false = refl
or_swap false true = refl
or_swap false false = refl

-- the order doesn't matter
has-reverse : (xs : List ℕ) (z : ℕ) → has_number (reverse xs) z ≡ has_number xs z
has-reverse [] z = refl
has-reverse (x ∷ xs) z =
    ap (λ ys. has_number ys z) (reverse-append (x ∷ []) xs) ∙ has_number-append (reverse xs) (x ∷ []) z
    ∙ ap (λ b. b || ((x == z) || false)) (has-reverse xs z) ∙ or_swap (has_number xs z) (x == z)

-- the obligations of one type that is listed
abbrev pub one_type : Plain → (t at : ℕ) → (held : List Bool) → (fit : Bool) → ℕ × Term → List Obligation
one_type p t at held fit r = obligation p t at V14 (One (name_of p r.0)) fit ∷ over_controls p t at held r.1 ∷ []

module _ {X : Type 0} (g : X → ℕ × Term) (xs : List X) (i : ℕ) (x : X) (inside : i < length xs) (is : x ≡ get_or xs i x) where
  -- with the next item
  names_more : reverse (names g (take (i + 1) xs)) ≡ (g x).0 ∷ reverse (names g (take i xs))
  names_more =
      ap (λ ys. reverse (names g ys)) (take_more xs i x inside)
      ∙ ap reverse (map-append (λ y. (g y).0) (take i xs) (get_or xs i x ∷ []))
      ∙ reverse-append (names g (take i xs)) ((g (get_or xs i x)).0 ∷ [])
      ∙ ap (λ y. (g y).0 ∷ reverse (names g (take i xs))) (sym is)

  module _ (p : Plain) (t at : ℕ) (test : ℕ → Bool) (held : List Bool) (named_before : Bool)
      (tells : named_before ≡ list_any (λ y. (g y).0 == (g x).0) (take i xs))
      (kept : first_false (type_obligations p t at test held (reverse (names g (take i xs))) (map g (drop i xs))) ≡ first_false (type_obligations p t at test held [] (map g xs))) where
    earlier : List ℕ
    earlier = reverse (names g (take i xs))

    here : Bool → List Obligation
    here named_here = one_type p t at held (test (g x).0 && not named_here) (g x)

    same : here named_before ≡ here (has_number earlier (g x).0)
    unfolding earlier
    same = ap here (tells ∙ sym (has-reverse (names g (take i xs)) (g x).0 ∙ number_among g (take i xs) (g x).0))

    pub type_refused : (fault : CheckFault) → Decides (one_type p t at held (test (g x).0 && not named_before) (g x)) (Err fault)
        → Decides (type_obligations p t at test held [] (map g xs)) (Err fault)
    unfolding earlier here
    type_refused fault h =
        loop_refused (λ ys. type_obligations p t at test held earlier (map g ys)) (λ ys. type_obligations p t at test held ((g x).0 ∷ earlier) (map g ys))
        (here (has_number earlier (g x).0)) (type_obligations p t at test held [] (map g xs)) xs i x inside is (λ ys. refl) kept fault (subst (λ es. Decides es (Err fault)) same h)

    pub type_more : first_false (one_type p t at held (test (g x).0 && not named_before) (g x)) ≡ None
        → first_false (type_obligations p t at test held (reverse (names g (take (i + 1) xs))) (map g (drop (i + 1) xs))) ≡ first_false (type_obligations p t at test held [] (map g xs))
    unfolding earlier here
    type_more h =
        ap (λ ns. first_false (type_obligations p t at test held ns (map g (drop (i + 1) xs)))) names_more
        ∙ loop_more (λ ys. type_obligations p t at test held earlier (map g ys)) (λ ys. type_obligations p t at test held ((g x).0 ∷ earlier) (map g ys))
        (here (has_number earlier (g x).0)) (type_obligations p t at test held [] (map g xs)) xs i x inside is (λ ys. refl) kept (sym (ap first_false same) ∙ h)
