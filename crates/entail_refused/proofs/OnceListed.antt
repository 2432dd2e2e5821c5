-- Where the places of a thread's statements differ, no two of its entailments have the same place and number.
use Rattle.std.proofs.Common.{◌≡◌, ◌⊎◌, ℕ, suc, ◌+◌, ◌<◌, ◌≤◌, ◌==◌, ◌&&◌, List, [], ◌∷◌, ◌++◌, length, Bool, true, false, not, ◌||◌, cond, Option, Some, None, inl, inr, refl, sym, ap, ◌∙◌, subst, arith, eq-eqb, eqb-true}
use Rattle.std.specs.List.{list_any}
use Rattle.std.proofs.lemmas.Bool.{and_parts, cases_Bool, cases_lt, false_from_ne_true, not-true, or_parts}
use Rattle.std.proofs.lemmas.List.Folds.{list_any-append}
use Rattle.cov_expr.specs.Term.{neg}
use Rattle.cov_ast.specs.Plain.{Plain}
use Rattle.cov_ast.specs.Syntax.{Stm, branch, loop, Block, done, more}
use Rattle.cov_ast.specs.WellFormed.{are_distinct, places, places_within}
use Rattle.point_law.specs.After.{meet, with_guard}
use Rattle.point_law.specs.Point.{Point}
use Rattle.typing_law.specs.Blocks.{after_block, after_stm}
use Rattle.typing_law.specs.Entailments.{Entailment, guard_follows, state_follows}
use Rattle.typing_law.specs.ThreadEntailments.{PlacedEntailment, block_entailments, entailment_among, placed_from, stm_entailments}
use Rattle.entail_origins.specs.OwnEntailments.{own_entailments}

-- Lists of places ------------------------------------------------------------------------------------------------------

abbrev Differ : List ℕ → Type 0
Differ xs = are_distinct (◌==◌) xs ≡ true

-- a place isn't one of a list
abbrev IsNoneOf : List ℕ → ℕ → Type 0
IsNoneOf xs x = list_any (λ y. y == x) xs ≡ false

turned : (x : ℕ) (ys : List ℕ) → list_any (λ y. x == y) ys ≡ false → IsNoneOf ys x
turned x [] h = refl
turned x (y ∷ ys) h =
    let parts = or_parts (x == y) (list_any (λ z. x == z) ys) h in
    let here : (y == x) ≡ false = false_from_ne_true (y == x) (λ e. let no : ◌≡◌ {A = Bool} true false = sym (eq-eqb x y (sym (eqb-true y x e))) ∙ parts.0 in cc) in
    (λ i. here i || turned x ys parts.1 i)

-- The places of two lists differ, and each is in one of them at most.
record AreParted (xs ys : List ℕ) : Type 0 where
  pub left : Differ xs
  pub right : Differ ys
  pub one : (x : ℕ) → IsNoneOf xs x ⊎ IsNoneOf ys x

-- a place in front that is in neither
parted_behind : (y : ℕ) (xs ys : List ℕ) → list_any (λ z. y == z) xs ≡ false → list_any (λ z. y == z) ys ≡ false → AreParted xs ys → AreParted (y ∷ xs) ys
parted_behind y xs ys left right h = record {
  left = (λ i. not (left i) && h.left i);
  right = h.right;
  one = λ x. go x (cases_Bool (y == x)) (h.one x);
}
  where
    go : (x : ℕ) → ((y == x) ≡ true) ⊎ ((y == x) ≡ false) → IsNoneOf xs x ⊎ IsNoneOf ys x → IsNoneOf (y ∷ xs) x ⊎ IsNoneOf ys x
    go x (inl e) rest = inr (subst (λ z. IsNoneOf ys z) (eqb-true y x e) (turned y ys right))
    go x (inr e) (inl h) = inl (λ i. e i || h i)
    go x (inr e) (inr h) = inr h

-- a first place that is none of those behind it, which are in two lists
parted_first : (x : ℕ) (xs ys : List ℕ) → Differ (x ∷ (xs ++ ys)) → (list_any (λ y. x == y) xs ≡ false) × (list_any (λ y. x == y) ys ≡ false) × Differ (xs ++ ys)
parted_first x xs ys h =
    let both = and_parts (not (list_any (λ y. x == y) (xs ++ ys))) (are_distinct (◌==◌) (xs ++ ys)) h in
    let apart = or_parts (list_any (λ y. x == y) xs) (list_any (λ y. x == y) ys) (sym (list_any-append (λ y. x == y) xs ys) ∙ not-true _ both.0) in
    (apart.0, apart.1, both.1)

parted : (xs ys : List ℕ) → Differ (xs ++ ys) → AreParted xs ys
parted [] ys h = record { left = refl; right = h; one = λ x. inl refl }
parted (x ∷ xs) ys h = let first = parted_first x xs ys h in parted_behind x xs ys first.0 first.1 (parted xs ys first.2)

-- a first place, and those behind others
first_behind : (x : ℕ) (xs ys : List ℕ) → Differ (x ∷ (xs ++ ys)) → Differ (x ∷ ys)
first_behind x xs ys h = let first = parted_first x xs ys h in (λ i. not (first.1 i) && (parted xs ys first.2).right i)

-- Lists of entailments -------------------------------------------------------------------------------------------------

-- none of the entailments has this number at this place
abbrev pub IsAbsent : List PlacedEntailment → (x n : ℕ) → Type 0
IsAbsent gs x n = entailment_among gs x n ≡ None

-- no later one has the place and the number of one before
abbrev pub AreOnce : List PlacedEntailment → Type 0
AreOnce [] = Unit {0}
AreOnce (g ∷ gs) = IsAbsent gs g.place g.number × AreOnce gs

-- no entailment of the one list has the place and the number of one of the other
abbrev AreApart : (gs hs : List PlacedEntailment) → Type 0
AreApart gs hs = (x n : ℕ) → IsAbsent gs x n ⊎ IsAbsent hs x n

absent-append : (gs hs : List PlacedEntailment) (x n : ℕ) → IsAbsent gs x n → IsAbsent hs x n → IsAbsent (gs ++ hs) x n
absent-append [] hs x n h k = k
absent-append (g ∷ gs) hs x n h k = go (λ e. absent-append gs hs x n e k) (g.place == x && g.number == n) h
  where
    go : (IsAbsent gs x n → IsAbsent (gs ++ hs) x n) → (b : Bool) → cond b (Some g) (entailment_among gs x n) ≡ None
        → cond b (Some g) (entailment_among (gs ++ hs) x n) ≡ None
    go rest true h = h
    go rest false h = rest h

absent_rest : (g : PlacedEntailment) (gs : List PlacedEntailment) (x n : ℕ) → IsAbsent (g ∷ gs) x n → IsAbsent gs x n
absent_rest g gs x n h = go (g.place == x && g.number == n) h
  where
    go : (b : Bool) → cond b (Some g) (entailment_among gs x n) ≡ None → IsAbsent gs x n
    go true h = let no : ◌≡◌ {A = Option PlacedEntailment} (Some g) None = h in cc
    go false h = h

apart_turned : (gs hs : List PlacedEntailment) → AreApart gs hs → AreApart hs gs
apart_turned gs hs h = λ x n. elim (h x n) [ inl e ↦ inr e | inr e ↦ inl e ]

apart-append : (gs hs ks : List PlacedEntailment) → AreApart gs hs → AreApart gs ks → AreApart gs (hs ++ ks)
apart-append gs hs ks h k = λ x n. go x n (h x n) (k x n)
  where
    go : (x n : ℕ) → IsAbsent gs x n ⊎ IsAbsent hs x n → IsAbsent gs x n ⊎ IsAbsent ks x n → IsAbsent gs x n ⊎ IsAbsent (hs ++ ks) x n
    go x n (inl e) k = inl e
    go x n (inr e) (inl f) = inl f
    go x n (inr e) (inr f) = inr (absent-append hs ks x n e f)

once-append : (gs hs : List PlacedEntailment) → AreOnce gs → AreOnce hs → AreApart gs hs → AreOnce (gs ++ hs)
once-append [] hs h k apart = k
once-append (g ∷ gs) hs h k apart = (
  absent-append gs hs g.place g.number h.0 (here (apart g.place g.number)),
  once-append gs hs h.1 k (λ x n. behind x n (apart x n)),
)
  where
    there : (g.place == g.place && g.number == g.number) ≡ true
    there = (λ i. eq-eqb g.place g.place refl i && eq-eqb g.number g.number refl i)

    here : IsAbsent (g ∷ gs) g.place g.number ⊎ IsAbsent hs g.place g.number → IsAbsent hs g.place g.number
    here (inl e) =
        let no : ◌≡◌ {A = Option PlacedEntailment} (Some g) None = sym (ap (λ b. cond b (Some g) (entailment_among gs g.place g.number)) there) ∙ e in cc
    here (inr e) = e

    behind : (x n : ℕ) → IsAbsent (g ∷ gs) x n ⊎ IsAbsent hs x n → IsAbsent gs x n ⊎ IsAbsent hs x n
    behind x n (inl e) = inl (absent_rest g gs x n e)
    behind x n (inr e) = inr e

-- Entailments of a statement -------------------------------------------------------------------------------------------

module _ (at : ℕ) where
  elsewhere : (n : ℕ) (gs : List Entailment) (x m : ℕ) → (at == x) ≡ false → IsAbsent (placed_from at n gs) x m
  elsewhere n [] x m h = refl
  elsewhere n (g ∷ gs) x m h =
      ap (λ b. cond (b && n == m) (Some (record { place = at; number = n; entailment = g })) (entailment_among (placed_from at (suc n) gs) x m)) h
      ∙ elsewhere (suc n) gs x m h

  -- a number that none of them has
  unnumbered : (n m : ℕ) → (n == m) ≡ false → (g : Entailment) (gs : List PlacedEntailment) (x : ℕ) → IsAbsent gs x m
      → IsAbsent (record { place = at; number = n; entailment = g } ∷ gs) x m
  unnumbered n m h g gs x rest = go (at == x)
    where
      go : (b : Bool) → cond (b && n == m) (Some (record { place = at; number = n; entailment = g })) (entailment_among gs x m) ≡ None
      go true = ap (λ c. cond c (Some (record { place = at; number = n; entailment = g })) (entailment_among gs x m)) h ∙ rest
      go false = rest

  not_same : (n m : ℕ) → (n < m) ⊎ (m < n) → (n == m) ≡ false
  not_same n m (inl h) = false_from_ne_true (n == m) (λ e. let no : ◌≡◌ {A = ℕ} 0 1 = omega (arith, h, eqb-true n m e) in cc)
  not_same n m (inr h) = false_from_ne_true (n == m) (λ e. let no : ◌≡◌ {A = ℕ} 0 1 = omega (arith, h, eqb-true n m e) in cc)

  before_first : (n : ℕ) (gs : List Entailment) (x m : ℕ) → m < n → IsAbsent (placed_from at n gs) x m
  before_first n [] x m h = refl
  before_first n (g ∷ gs) x m h =
      unnumbered n m (not_same n m (inr h)) g (placed_from at (suc n) gs) x (before_first (suc n) gs x m (omega (arith, h)))

  behind_last : (n : ℕ) (gs : List Entailment) (x m : ℕ) → n + length gs ≤ m → IsAbsent (placed_from at n gs) x m
  behind_last n [] x m h = refl
  behind_last n (g ∷ gs) x m h =
      let under : n < m = omega (arith, h) in
      unnumbered n m (not_same n m (inl under)) g (placed_from at (suc n) gs) x (behind_last (suc n) gs x m (omega (arith, h)))

  once_placed : (n : ℕ) (gs : List Entailment) → AreOnce (placed_from at n gs)
  once_placed n [] = tt
  once_placed n (g ∷ gs) = (before_first (suc n) gs at n (omega arith), once_placed (suc n) gs)

  -- those that a statement asks first and last
  apart_numbers : (gs hs : List Entailment) → AreApart (placed_from at 1 gs) (placed_from at (suc (length gs)) hs)
  apart_numbers gs hs x m = go (cases_lt m (suc (length gs)))
    where
      go : (m < suc (length gs)) ⊎ (suc (length gs) ≤ m) → IsAbsent (placed_from at 1 gs) x m ⊎ IsAbsent (placed_from at (suc (length gs)) hs) x m
      go (inl h) = inr (before_first (suc (length gs)) hs x m h)
      go (inr h) = inl (behind_last 1 gs x m (omega (arith, h)))

-- Blocks ---------------------------------------------------------------------------------------------------------------

-- the entailments have places of a list
abbrev StandAt : List ℕ → List PlacedEntailment → Type 0
StandAt xs gs = (x n : ℕ) → IsNoneOf xs x → IsAbsent gs x n

apart_places : (xs ys : List ℕ) (gs hs : List PlacedEntailment) → StandAt xs gs → StandAt ys hs → Differ (xs ++ ys) → AreApart gs hs
apart_places xs ys gs hs h k d = λ x n. elim ((parted xs ys d).one x) [ inl e ↦ inl (h x n e) | inr e ↦ inr (k x n e) ]

stand_alone : (at n : ℕ) (gs : List Entailment) → StandAt (at ∷ []) (placed_from at n gs)
stand_alone at n gs = λ x m h. elsewhere at n gs x m (or_parts (at == x) false h).0

-- at the place of a statement, or in it
stand_first : (at n : ℕ) (gs : List Entailment) (xs : List ℕ) → StandAt (at ∷ xs) (placed_from at n gs)
stand_first at n gs xs = λ x m h. elsewhere at n gs x m (or_parts (at == x) (list_any (λ y. y == x) xs) h).0

stand_left : (xs ys : List ℕ) (gs : List PlacedEntailment) → StandAt xs gs → StandAt (xs ++ ys) gs
stand_left xs ys gs h = λ x n e.
    h x n (or_parts (list_any (λ y. y == x) xs) (list_any (λ y. y == x) ys) (sym (list_any-append (λ y. y == x) xs ys) ∙ e)).0

stand_right : (xs ys : List ℕ) (gs : List PlacedEntailment) → StandAt ys gs → StandAt (xs ++ ys) gs
stand_right xs ys gs h = λ x n e.
    h x n (or_parts (list_any (λ y. y == x) xs) (list_any (λ y. y == x) ys) (sym (list_any-append (λ y. y == x) xs ys) ∙ e)).1

stand-append : (xs : List ℕ) (gs hs : List PlacedEntailment) → StandAt xs gs → StandAt xs hs → StandAt xs (gs ++ hs)
stand-append xs gs hs h k = λ x n e. absent-append gs hs x n (h x n e) (k x n e)

module _ (p : Plain) (t : ℕ) where
  mutual
    stm_stands : (s : Stm) (at : ℕ) (a : Point) → StandAt (at ∷ places_within s) (stm_entailments p t s at a)
    stm_stands (branch e yes_block no_block join) at a =
        let yes_start = with_guard p t a e in
        let no_start = with_guard p t a (neg e) in
        let gs = guard_follows p t a e ∷ [] in
        let hs = state_follows (after_block p t yes_block yes_start) join ++ state_follows (after_block p t no_block no_start) join in
        let yes = block_entailments p t yes_block yes_start in
        let no = block_entailments p t no_block no_start in
        let last = placed_from at (suc (length gs)) hs in
        let xs = places yes_block ++ places no_block in
        stand-append (at ∷ xs) (placed_from at 1 gs) (yes ++ (no ++ last)) (stand_first at 1 gs xs)
        (stand-append (at ∷ xs) yes (no ++ last)
        (stand_right (at ∷ []) xs yes (stand_left (places yes_block) (places no_block) yes (block_stands yes_block yes_start)))
        (stand-append (at ∷ xs) no last
        (stand_right (at ∷ []) xs no (stand_right (places yes_block) (places no_block) no (block_stands no_block no_start)))
        (stand_first at (suc (length gs)) hs xs)))
    stm_stands (loop e inv b) at a =
        let head = meet p t a inv in
        let start = with_guard p t head e in
        let gs = state_follows a inv ++ guard_follows p t head e ∷ [] in
        let hs = state_follows (after_block p t b start) inv in
        let inside = block_entailments p t b start in
        let last = placed_from at (suc (length gs)) hs in
        stand-append (at ∷ places b) (placed_from at 1 gs) (inside ++ last) (stand_first at 1 gs (places b))
        (stand-append (at ∷ places b) inside last (stand_right (at ∷ []) (places b) inside (block_stands b start))
        (stand_first at (suc (length gs)) hs (places b)))
    stm_stands s at a = stand_alone at 1 (own_entailments p t s a)

    block_stands : (b : Block) (a : Point) → StandAt (places b) (block_entailments p t b a)
    block_stands done a = λ x n e. refl
    block_stands (more at s proofs b) a =
        let first = stm_entailments p t s at a in
        let rest = block_entailments p t b (after_stm p t s a) in
        stand-append (at ∷ (places_within s ++ places b)) first rest (stand_left (at ∷ places_within s) (places b) first (stm_stands s at a))
        (stand_right (at ∷ places_within s) (places b) rest (block_stands b (after_stm p t s a)))

  mutual
    stm_once : (s : Stm) (at : ℕ) (a : Point) → Differ (at ∷ places_within s) → AreOnce (stm_entailments p t s at a)
    stm_once (branch e yes_block no_block join) at a d =
        let yes_start = with_guard p t a e in
        let no_start = with_guard p t a (neg e) in
        let gs = guard_follows p t a e ∷ [] in
        let hs = state_follows (after_block p t yes_block yes_start) join ++ state_follows (after_block p t no_block no_start) join in
        let yes = block_entailments p t yes_block yes_start in
        let no = block_entailments p t no_block no_start in
        let first = placed_from at 1 gs in
        let last = placed_from at (suc (length gs)) hs in
        let at_yes : Differ (at ∷ places yes_block) = (parted (at ∷ places yes_block) (places no_block) d).left in
        let at_no : Differ (at ∷ places no_block) = first_behind at (places yes_block) (places no_block) d in
        let blocks : Differ (places yes_block ++ places no_block) = (parted (at ∷ []) (places yes_block ++ places no_block) d).right in
        let each = parted (places yes_block) (places no_block) blocks in
        let yes_stands = block_stands yes_block yes_start in
        let no_stands = block_stands no_block no_start in
        let first_yes = apart_places (at ∷ []) (places yes_block) first yes (stand_alone at 1 gs) yes_stands at_yes in
        let first_no = apart_places (at ∷ []) (places no_block) first no (stand_alone at 1 gs) no_stands at_no in
        let last_yes = apart_places (at ∷ []) (places yes_block) last yes (stand_alone at (suc (length gs)) hs) yes_stands at_yes in
        let last_no = apart_places (at ∷ []) (places no_block) last no (stand_alone at (suc (length gs)) hs) no_stands at_no in
        let yes_no = apart_places (places yes_block) (places no_block) yes no yes_stands no_stands blocks in
        once-append first (yes ++ (no ++ last)) (once_placed at 1 gs)
        (once-append yes (no ++ last) (block_once yes_block yes_start each.left)
        (once-append no last (block_once no_block no_start each.right) (once_placed at (suc (length gs)) hs)
        (apart_turned last no last_no))
        (apart-append yes no last yes_no (apart_turned last yes last_yes)))
        (apart-append first yes (no ++ last) first_yes (apart-append first no last first_no (apart_numbers at gs hs)))
    stm_once (loop e inv b) at a d =
        let head = meet p t a inv in
        let start = with_guard p t head e in
        let gs = state_follows a inv ++ guard_follows p t head e ∷ [] in
        let hs = state_follows (after_block p t b start) inv in
        let inside = block_entailments p t b start in
        let first = placed_from at 1 gs in
        let last = placed_from at (suc (length gs)) hs in
        let stands = block_stands b start in
        let first_inside = apart_places (at ∷ []) (places b) first inside (stand_alone at 1 gs) stands d in
        let last_inside = apart_places (at ∷ []) (places b) last inside (stand_alone at (suc (length gs)) hs) stands d in
        once-append first (inside ++ last) (once_placed at 1 gs)
        (once-append inside last (block_once b start (parted (at ∷ []) (places b) d).right) (once_placed at (suc (length gs)) hs) (apart_turned last inside last_inside))
        (apart-append first inside last first_inside (apart_numbers at gs hs))
    stm_once s at a d = once_placed at 1 (own_entailments p t s a)

    pub block_once : (b : Block) (a : Point) → Differ (places b) → AreOnce (block_entailments p t b a)
    block_once done a d = tt
    block_once (more at s proofs b) a d =
        let first = stm_entailments p t s at a in
        let rest = block_entailments p t b (after_stm p t s a) in
        let each = parted (at ∷ places_within s) (places b) d in
        once-append first rest (stm_once s at a each.left)
        (block_once b (after_stm p t s a) each.right)
        (apart_places (at ∷ places_within s) (places b) first rest (stm_stands s at a) (block_stands b (after_stm p t s a)) d)
