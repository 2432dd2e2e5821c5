-- Threads by the ids of a program, one more behind others.
use Rattle.std.proofs.Common.{◌≡◌, ℕ, ◌+◌, ◌<◌, ◌≤◌, List, [], ◌∷◌, ◌++◌, length, map, get_or, take, drop, refl, sym, ap, subst, ◌∙◌, arith, None, Some, Result, Ok, Err}
use Rattle.std.specs.Prelude.{remove, slice_get, option_map, MatchResult}
use Rattle.std.proofs.lemmas.List.{drop_more, length-drop, length-map, map-append, map_more, take_all}
use Rattle.std.proofs.lemmas.List.Elements.{All-append, All-nil, All-same}
use Rattle.std.proofs.lemmas.Option.{same_Some, slice_get-map}
use Rattle.cov_ast.specs.Syntax.{Thread, Program, Parsed}
use Rattle.cov_ast.specs.View as view
use Rattle.cov_ast.specs.declared.decl.ThreadDecl.{ThreadDecl}
use Rattle.policy_class.specs.Resolved.{resolved_thread}
use Rattle.thread_swap.specs.Binding.{IsFault, lock_of, unknown_fault, var_of}
use Rattle.thread_swap.specs.Inside.Over.{AreBound, IsFitting}
use Rattle.thread_swap.specs.declared.swap_fault.SwapFault.{SwapFault}

-- The first of those that are left ----------------------------------------------------------------------------------------

module _ {X : Type 0} (xs rest : List X) (i : ℕ) (x : X) (inside : i < length xs) (left : rest ≡ drop i xs) (first : slice_get rest 0 ≡ Some x) where
  parts : rest ≡ get_or xs i x ∷ drop (i + 1) xs
  parts = left ∙ drop_more xs i x inside

  pub taken : get_or xs i x ≡ x
  taken = same_Some (get_or xs i x) x (sym (ap (λ r. slice_get r 0) parts) ∙ first)

  pub left_more : (new : List X) → new ≡ remove rest 0 → new ≡ drop (i + 1) xs
  left_more new gone = gone ∙ ap (λ r. remove r 0) parts

pub some_left : {X : Type 0} (xs rest : List X) (i : ℕ) → i < length xs → rest ≡ drop i xs → 0 < length rest
some_left xs rest i inside left = omega (arith, ap length left, length-drop i xs, inside)

-- Threads ------------------------------------------------------------------------------------------------------------------

module _ (p : Program) (e : Parsed) where
  -- of one thread, one
  module _ (given made : List ThreadDecl) (t d : ThreadDecl) (one : given ≡ t ∷ []) (bound : AreBound p e (map view.thread given) (map view.thread made)) where
    alone : map view.thread made ≡ resolved_thread (var_of p e) (lock_of p e) (view.thread t) ∷ []
    alone = bound.0 ∙ ap (λ ts. map (resolved_thread (var_of p e) (lock_of p e)) (map view.thread ts)) one

    pub one_made : 0 < length made
    one_made =
        let count : length (map view.thread made) ≡ 1 = ap length alone in
        omega (arith, count, length-map made view.thread)

    pub first_bound : slice_get made 0 ≡ Some d → AreBound p e (view.thread t ∷ []) (view.thread d ∷ [])
    first_bound first =
        let made_of = resolved_thread (var_of p e) (lock_of p e) (view.thread t) in
        let is : view.thread d ≡ made_of =
        same_Some (view.thread d) made_of
        (sym (ap (option_map view.thread) first) ∙ sym (slice_get-map view.thread made 0) ∙ ap (λ ts. slice_get ts 0) alone) in (
          ap (λ u. u ∷ []) is,
          All-same (IsFitting p) (view.thread d ∷ []) (map view.thread made) (ap (λ u. u ∷ []) is ∙ sym alone) bound.1,
        )

  -- of none, none
  pub none_bound : (xs : List Thread) (made : List ThreadDecl) → made ≡ [] → AreBound p e (take 0 xs) (map view.thread made)
  none_bound xs made none = subst (λ ts. AreBound p e [] (map view.thread ts)) (sym none) (refl, All-nil (IsFitting p))

  -- one more
  pub bound_more : (xs made new : List Thread) (i : ℕ) (d b : Thread) → i < length xs → get_or xs i d ≡ d → new ≡ made ++ b ∷ []
      → AreBound p e (take i xs) made → AreBound p e (d ∷ []) (b ∷ []) → AreBound p e (take (i + 1) xs) new
  bound_more xs made new i d b inside is pushed before one =
      let made_of = resolved_thread (var_of p e) (lock_of p e) in (
        pushed ∙ (λ j. before.0 j ++ one.0 j) ∙ ap (λ x. map made_of (take i xs) ++ made_of x ∷ []) (sym is) ∙ sym (map_more made_of xs i d inside),
        All-same (IsFitting p) new (made ++ b ∷ []) pushed (All-append (IsFitting p) made (b ∷ []) before.1 one.1),
      )

  pub bound_all : (xs made : List Thread) (i : ℕ) → length xs ≤ i → AreBound p e (take i xs) made → AreBound p e xs made
  bound_all xs made i past bound = subst (λ ts. AreBound p e ts made) (take_all i xs past) bound

pub pushed_view : (made new : List ThreadDecl) (b : ThreadDecl) → new ≡ made ++ b ∷ [] → map view.thread new ≡ map view.thread made ++ view.thread b ∷ []
pushed_view made new b pushed = ap (map view.thread) pushed ∙ map-append view.thread made (b ∷ [])

-- that each name which is used is known is told too
pub known_too : (p : Program) (e : Parsed) (xs : List Thread) (r : Result (List ThreadDecl) SwapFault) → unknown_fault p e ≡ None
    → MatchResult r (λ made. AreBound p e xs (map view.thread made)) (IsFault (unknown_fault p e))
    → MatchResult r (λ made. (unknown_fault p e ≡ None) × AreBound p e xs (map view.thread made)) (IsFault (unknown_fault p e))
known_too p e xs (Ok made) known h = (known, h)
known_too p e xs (Err fault) known h = h
