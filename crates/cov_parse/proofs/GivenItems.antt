-- Lists whose items are taken off at their end, and stand the other way round.
use Rattle.std.proofs.Common.{◌≡◌, List, [], ◌∷◌, ◌++◌, map, reverse, All, sym, ap, subst, ◌∙◌, append-nil, append_assoc}
use Rattle.std.proofs.lemmas.List.{map-append, reverse-append}
use Rattle.std.proofs.lemmas.List.Elements.{All-head, All-tail}

next_item : {X A : Type 0} (f : X → A) (rest left : List X) (x : X) → rest ≡ left ++ x ∷ [] → map f (reverse rest) ≡ f x ∷ map f (reverse left)
next_item f rest left x e = ap (λ xs. map f (reverse xs)) e ∙ ap (map f) (reverse-append left (x ∷ []))

module _ {X Y A B : Type 0} (g : A → B) (f : X → A) (h : Y → B) where
  -- one item is added
  pub item_added : (made more : List Y) (rest left : List X) (x : X) (all : List B) → rest ≡ left ++ x ∷ [] → map h more ≡ map h made ++ g (f x) ∷ [] → map h made ++ map g (map f (reverse rest)) ≡ all
      → map h more ++ map g (map f (reverse left)) ≡ all
  item_added made more rest left x all e added before =
      let tail = map g (map f (reverse left)) in
      ap (λ ys. ys ++ tail) added
      ∙ append_assoc (map h made) (g (f x) ∷ []) tail
      ∙ ap (λ xs. map h made ++ map g xs) (sym (next_item f rest left x e))
      ∙ before

  -- one item is moved
  pub item_moved : (made more : List Y) (y : Y) (rest left : List X) (x : X) (all : List B) → rest ≡ left ++ x ∷ [] → more ≡ made ++ y ∷ [] → h y ≡ g (f x)
      → map h made ++ map g (map f (reverse rest)) ≡ all → map h more ++ map g (map f (reverse left)) ≡ all
  item_moved made more y rest left x all e pushed same =
      item_added made more rest left x all e (ap (map h) pushed ∙ map-append h made (y ∷ []) ∙ ap (λ b. map h made ++ b ∷ []) same)

  -- all are moved
  pub items_moved : (made : List Y) (rest : List X) (all : List B) → rest ≡ [] → map h made ++ map g (map f (reverse rest)) ≡ all → map h made ≡ all
  items_moved made rest all e before = sym (append-nil (map h made)) ∙ ap (λ xs. map h made ++ map g (map f (reverse xs))) (sym e) ∙ before

-- what is true of each item
module _ {X A : Type 0} (f : X → A) (P : A → Type 0) (rest left : List X) (x : X) (e : rest ≡ left ++ x ∷ []) (each : All P (map f (reverse rest))) where
  those : All P (f x ∷ map f (reverse left))
  those = subst (All P) (next_item f rest left x e) each

  pub item_is : P (f x)
  item_is = All-head P (f x) (map f (reverse left)) those

  pub items_are : All P (map f (reverse left))
  items_are = All-tail P (f x) (map f (reverse left)) those
