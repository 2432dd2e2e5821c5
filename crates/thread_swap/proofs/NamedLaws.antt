-- The thread of a program with a name.
use Rattle.std.proofs.Common.{◌≡◌, suc, ◌+◌, ◌<◌, List, [], ◌∷◌, length, map, get_or, Bool, true, false, not, cond, sym, ap, ◌∙◌, arith, refl}
use Rattle.std.specs.Prelude.{◌||◌}
use Rattle.std.specs.List.{list_any, position_or_len}
use Rattle.std.specs.Str.{bytes_eq}
use Rattle.std.proofs.lemmas.Bool.{true≢false}
use Rattle.std.proofs.lemmas.List.{get_or-map, length-map}
use Rattle.std.proofs.lemmas.Slice.Eq.{bytes_eq-Decides}
use Rattle.cov_ast.specs.Syntax.{Thread, Program}
use Rattle.mode_compat.specs.Compatible.{no_thread, numbered}
use Rattle.thread_swap.specs.Replacements.{IsNamed, thread_named, thread_names}

module _ {X : Type 0} (p : X → Bool) where
  -- where one passes, the first that does is in the list
  present : (xs : List X) → list_any p xs ≡ true → position_or_len p xs < length xs
  present [] h = absurd (true≢false (sym h))
  present (x ∷ xs) h = go (λ k. present xs k) (p x) h
    where
      go : (list_any p xs ≡ true → position_or_len p xs < length xs) → (b : Bool) → (b || list_any p xs) ≡ true
          → cond (not b) (1 + position_or_len p xs) 0 < length (x ∷ xs)
      go rest true h = omega arith
      go rest false h = omega (arith, rest h)

  -- and it passes
  passes_there : (xs : List X) (d : X) → list_any p xs ≡ true → p (get_or xs (position_or_len p xs) d) ≡ true
  passes_there [] d h = absurd (true≢false (sym h))
  passes_there (x ∷ xs) d h = go (λ k. passes_there xs d k) (p x) refl h
    where
      go : (list_any p xs ≡ true → p (get_or xs (position_or_len p xs) d) ≡ true) → (b : Bool) → p x ≡ b → (b || list_any p xs) ≡ true
          → p (get_or (x ∷ xs) (cond (not b) (1 + position_or_len p xs) 0) d) ≡ true
      go rest true is h = is
      go rest false is h =
          let one : 1 + position_or_len p xs ≡ suc (position_or_len p xs) = omega arith in
          ap (λ k. p (get_or (x ∷ xs) k d)) one ∙ rest h

module _ (p : Program) (d : Thread) (named : IsNamed p d) where
  pub named_inside : thread_named p d.name < length p.threads
  named_inside =
      let inside : thread_named p d.name < length (map (λ (t : Thread). t.name) p.threads) = present (bytes_eq d.name) (thread_names p) named in
      omega (arith, inside, length-map p.threads (λ (t : Thread). t.name))

  pub named_there : d.name ≡ (numbered p (thread_named p d.name)).name
  named_there =
      (bytes_eq-Decides d.name (get_or (thread_names p) (thread_named p d.name) [])).0 (passes_there (bytes_eq d.name) (thread_names p) [] named)
      ∙ get_or-map (λ (t : Thread). t.name) p.threads (thread_named p d.name) no_thread [] named_inside
