-- What stands at a number of a list that is seen through a view.
use Rattle.std.proofs.Common.{◌≡◌, ℕ, List, map, get_or, Option, Some, None, sym, ap, ◌∙◌, inl, inr, arith}
use Rattle.std.specs.List.{slice_get}
use Rattle.std.proofs.Math.ListN.{get_or-eq_default}
use Rattle.std.proofs.lemmas.List.{get_or-map, length-map}
use Rattle.std.proofs.lemmas.Option.{slice_get_cases, get_or_from_slice_get}

pub read_some : {X Y : Type 0} (f : X → Y) (xs : List X) (i : ℕ) (x : X) (e : Y) → slice_get xs i ≡ Some x → get_or (map f xs) i e ≡ f x
read_some {X} f xs i x e h =
    elim (slice_get_cases xs i).1 [
      | inl (y, inside, is, at) ↦ get_or-map f xs i x e inside ∙ ap f (get_or_from_slice_get xs i x x h)
      | inr (past, none) ↦ (let wrong : ◌≡◌ {A = Option X} None (Some x) = sym none ∙ h in cc)
    ]

pub read_none : {X Y : Type 0} (f : X → Y) (xs : List X) (i : ℕ) (e : Y) → slice_get xs i ≡ None → get_or (map f xs) i e ≡ e
read_none {X} f xs i e h =
    elim (slice_get_cases xs i).1 [
      | inl (y, inside, is, at) ↦ (let wrong : ◌≡◌ {A = Option X} None (Some y) = sym h ∙ is in cc)
      | inr (past, none) ↦ get_or-eq_default (map f xs) e (omega (arith, length-map xs f, past))
    ]
