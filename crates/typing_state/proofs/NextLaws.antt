-- Laws of the next variable of which something is to be done, by the marks that pass over others.
use Rattle.std.proofs.Common.{◌≡◌, ℕ, ◌<◌, ◌≤◌, List, Bool, true, false, not, length, get_or, set, sym, ap, ◌∙◌, arith, inl, inr, Option, Some, None}
use Rattle.std.specs.Prelude.{IfSome}
use Rattle.std.proofs.lemmas.Bool.{cases_eq, cases_lt, not-true, not-false}
use Rattle.std.proofs.lemmas.List.{get_or-set_same, get_or-set_other, get_or_past, length-set}
use Rattle.cov_expr.specs.Term.{Term}
use Rattle.cov_ast.specs.Tables.{has}
use Rattle.mode_state.specs.Bits.{IsNext}
use Rattle.point_law.specs.Terms.{is_closed_type}
use Rattle.typing_state.specs.Next.{AreDone}

-- The next one -----------------------------------------------------------------------------------------------------

-- what comes next comes from the first number on
pub done_further : (f : ℕ → Bool) (from : ℕ) (x : Option ℕ) → AreDone f from 256 x → IfSome x (λ y. from ≤ y)
done_further f from None h = tt
done_further f from (Some x) h = h.1

-- none before the next number of a set is in it
pub next_done : (s : List Bool) (from end : ℕ) (x : Option ℕ) → IsNext (has s) from (length s) x → IfSome x (λ y. y < end) → AreDone (λ k. not (has s k)) from end x
next_done s from end None h small = λ k le lt. elim (cases_lt k (length s)) [
  | inl inside ↦ ap not (h k le inside)
  | inr past ↦ ap not (get_or_past s k false past)
]
next_done s from end (Some x) h small = (small, h.1, λ k le lt. ap not (h.3 k le lt))

-- Which types mention a variable -----------------------------------------------------------------------------------

-- each type that isn't marked mentions no variable
abbrev pub AreMarked : (marks : List Bool) → List (Option Term) → Type 0
AreMarked marks qs = (x : ℕ) → x < 256 → has marks x ≡ false → is_closed_type (get_or qs x None) ≡ true

module _ (marks : List Bool) (long : length marks ≡ 256) (qs : List (Option Term)) (old : AreMarked marks qs) where
  -- a type is put in the place of another, and its mark with it
  pub marked_set : (b : Bool) (q : Option Term) → b ≡ not (is_closed_type q) → (x : ℕ) → AreMarked (set marks x b) (set qs x q)
  marked_set b q is x k lt away = elim (cases_eq k x) [
    | inl e ↦ let inside : x < length marks = omega (arith, e, long) in
        let same : b ≡ false = sym (get_or-set_same marks x b false inside) ∙ ap (λ j. has (set marks x b) j) (sym e) ∙ away in
        ap (λ j. is_closed_type (get_or (set qs x q) j None)) e
        ∙ elim (cases_lt x (length qs)) [
          | inl there ↦ ap is_closed_type (get_or-set_same qs x q None there) ∙ not-false (is_closed_type q) (sym is ∙ same)
          | inr past ↦ ap is_closed_type (get_or_past (set qs x q) x None (omega (arith, length-set qs x q)))
        ]
    | inr ne ↦ ap is_closed_type (get_or-set_other qs x k q None ne) ∙ old k lt (sym (get_or-set_other marks x k b false ne) ∙ away)
  ]

  -- types before the next mark
  pub marked_done : (from : ℕ) (x : Option ℕ) → AreDone (λ k. not (has marks k)) from 256 x → AreDone (λ k. is_closed_type (get_or qs k None)) from 256 x
  marked_done from None none = λ k le lt. old k lt (not-true (has marks k) (none k le lt))
  marked_done from (Some x) next =
      (next.0, next.1, λ k le lt. let inside : x < 256 = next.0 in old k (omega arith) (not-true (has marks k) (next.2 k le lt)))
