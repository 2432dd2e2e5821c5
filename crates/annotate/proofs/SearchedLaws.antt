-- What searches come to is what is chosen, and an entailment for which nothing is found stays open.
use Rattle.std.proofs.Common.{◌≡◌, ℕ, zero, suc, ◌+◌, ◌==◌, ◌<◌, ◌≤◌, ◌&&◌, not, List, [], ◌∷◌, ◌++◌, length, map, take, drop, get_or, Bool, true, false, cond, if◌then◌else◌, Option, Some, None, refl, sym, ap, ◌∙◌, arith, append-nil, append_assoc, zero-add}
use Rattle.std.specs.Prelude.{filter, is_none}
use Rattle.std.proofs.lemmas.List.{at_drop_more, drop_all, get_or_past, length-map, map-append}
use Rattle.std.proofs.lemmas.List.FromFn.{length-range_with_len, get_or-range_with_len}
use Rattle.cov_ast.specs.Plain.{plain}
use Rattle.cov_ast.specs.Syntax.{Block, Cert, Program}
use Rattle.cov_ast.specs.View as view
use Rattle.cov_ast.specs.declared.decl.Program.{Program as Tree}
use Rattle.mode_compat.specs.Compatible.{no_thread, numbered, threads_of}
use Rattle.point_law.specs.After.{start}
use Rattle.typing_law.specs.Counts.{entailment_count}
use Rattle.typing_law.specs.ThreadEntailments.{PlacedEntailment, all_entailments, block_entailments, is_proved_in, reached}
use Rattle.typing_law.specs.ThreadObligations.{thread_obligations}
use Rattle.typing_rules.specs.Keeping.{searched_for, view_searched}
use Rattle.typing_rules.specs.declared.kept.Searched.{Searched}
use Rattle.annotate.specs.Annotated.{as_choice, choices, choices_among, open_of, searched}
use Rattle.annotate.specs.NotFound.{is_not_found}
use Rattle.annotate.specs.declared.outcome.Open.{Open}
use Rattle.annotate.specs.Inside.Searches.{found_at, opens, renumbered, unless_found}

-- Lists that are joined ----------------------------------------------------------------------------------------

-- one more item, where what becomes of items is joined
pub joined_more : {X Y : Type 0} (f : List X → List Y) → ((x : X) (xs : List X) → f (x ∷ xs) ≡ f (x ∷ []) ++ f xs)
    → (xs : List X) (i : ℕ) (x : X) (before new : List Y) → i < length xs → get_or xs i x ≡ x → new ≡ before ++ f (x ∷ [])
    → new ++ f (drop (i + 1) xs) ≡ before ++ f (drop i xs)
joined_more f split xs i x before new inside is added =
    ap (λ ys. ys ++ f (drop (i + 1) xs)) added
    ∙ append_assoc before (f (x ∷ [])) (f (drop (i + 1) xs))
    ∙ ap (λ ys. before ++ ys) (sym (split x (drop (i + 1) xs)))
    ∙ ap (λ y. before ++ f (y ∷ drop (i + 1) xs)) (sym is)
    ∙ sym (ap (λ ys. before ++ ys) (at_drop_more f xs i x inside))

pub joined_all : {X Y : Type 0} (f : List X → List Y) → f [] ≡ [] → (xs : List X) (i : ℕ) (made whole : List Y) → length xs ≤ i → made ++ f (drop i xs) ≡ whole → made ≡ whole
joined_all f none xs i made whole past h = sym (append-nil made) ∙ ap (λ ys. made ++ ys) (sym (ap f (drop_all i xs past) ∙ none)) ∙ h

-- What is found ------------------------------------------------------------------------------------------------

pub found_split : (numbers : List ℕ × ℕ) (place : ℕ) (s : Searched) (ss : List Searched)
    → map (renumbered numbers) (found_at (map view_searched (s ∷ ss)) place)
    ≡ map (renumbered numbers) (found_at (map view_searched (s ∷ [])) place) ++ map (renumbered numbers) (found_at (map view_searched ss) place)
found_split numbers place s ss =
    let first : List (ℕ × Cert) = if s.place == place then as_choice s.number (view_searched s).found else [] in
    let rest = found_at (map view_searched ss) place in
    ap (λ cs. map (renumbered numbers) (cs ++ rest)) (sym (append-nil first)) ∙ map-append (renumbered numbers) (first ++ []) rest

pub opens_split : (t : ℕ) (s : Searched) (ss : List Searched)
    → opens t (map view_searched (s ∷ ss)) ≡ opens t (map view_searched (s ∷ [])) ++ opens t (map view_searched ss)
opens_split t s ss =
    let first : List Open = unless_found (record { thread = t; place = s.place; number = s.number }) (view_searched s).found in
    ap (λ os. os ++ opens t (map view_searched ss)) (sym (append-nil first))

-- Entailments of a thread --------------------------------------------------------------------------------------

nothing : (b : Bool) → (let none : List (ℕ × Cert) = [] in cond b none none) ≡ []
nothing true = refl
nothing false = refl

module _ (depth : ℕ) (body : Block) where
  abbrev unproved : List PlacedEntailment → List PlacedEntailment
  unproved gs = filter (λ g. not (is_proved_in body g)) gs

  pub choices_found : (gs : List PlacedEntailment) (place : ℕ)
      → choices_among depth body gs place ≡ found_at (map (searched_for depth) (filter (λ g. not (is_proved_in body g)) gs)) place
  choices_found [] place = refl
  choices_found (g ∷ gs) place = go (is_proved_in body g) (choices_found gs place)
    where
      go : (b : Bool) → choices_among depth body gs place ≡ found_at (map (searched_for depth) (unproved gs)) place
          → (if g.place == place then as_choice g.number (if b then None else searched depth g) else []) ++ choices_among depth body gs place
          ≡ found_at (map (searched_for depth) (cond (not b) (g ∷ unproved gs) (unproved gs))) place
      go true h = ap (λ cs. cs ++ choices_among depth body gs place) (nothing (g.place == place)) ∙ h
      go false h = ap (λ cs. (if g.place == place then as_choice g.number (searched depth g) else []) ++ cs) h

  pub opens_not_found : (t : ℕ) (gs : List PlacedEntailment)
      → map (open_of t) (filter (is_not_found depth body) gs) ≡ opens t (map (searched_for depth) (filter (λ g. not (is_proved_in body g)) gs))
  opens_not_found t [] = refl
  opens_not_found t (g ∷ gs) = go (is_proved_in body g) (opens_not_found t gs)
    where
      unfound : (o : Option Cert) → map (open_of t) (filter (is_not_found depth body) gs) ≡ opens t (map (searched_for depth) (unproved gs))
          → map (open_of t) (cond (is_none o) (g ∷ filter (is_not_found depth body) gs) (filter (is_not_found depth body) gs))
          ≡ unless_found (open_of t g) o ++ opens t (map (searched_for depth) (unproved gs))
      unfound None h = ap (λ os. open_of t g ∷ os) h
      unfound (Some c) h = h

      go : (b : Bool) → map (open_of t) (filter (is_not_found depth body) gs) ≡ opens t (map (searched_for depth) (unproved gs))
          → map (open_of t) (cond (not b && is_none (searched depth g)) (g ∷ filter (is_not_found depth body) gs) (filter (is_not_found depth body) gs))
          ≡ opens t (map (searched_for depth) (cond (not b) (g ∷ unproved gs) (unproved gs)))
      go true h = h
      go false h = unfound (searched depth g) h

-- Past the threads ---------------------------------------------------------------------------------------------

taken_none : {X : Type 0} (n : ℕ) → take n (let none : List X = [] in none) ≡ []
taken_none zero = refl
taken_none (suc n) = refl

-- past the last thread nothing is chosen
pub no_choices : (depth : ℕ) (p : Program) (t place : ℕ) → length p.threads ≤ t → choices depth p t place ≡ []
no_choices depth p t place past =
    let n = entailment_count (reached (thread_obligations p t)) in
    let none : all_entailments p t ≡ [] =
    ap (λ (h : _). block_entailments (plain p) t h.body (start (plain p) t)) (get_or_past p.threads t no_thread past) in
    ap (λ gs. choices_among depth (numbered p t).body (take n gs) place) none
    ∙ ap (λ gs. choices_among depth (numbered p t).body gs place) (taken_none n)

-- The threads of a program -------------------------------------------------------------------------------------

module _ (p : Tree) where
  pub thread_count : length (threads_of (view.program p)) ≡ length p.threads
  thread_count = length-range_with_len 0 (length (map view.thread p.threads)) ∙ length-map p.threads view.thread

  pub thread_is : (t : ℕ) → t < length p.threads → get_or (threads_of (view.program p)) t t ≡ t
  thread_is t inside =
      get_or-range_with_len 0 (length (map view.thread p.threads)) t t (omega (arith, inside, length-map p.threads view.thread)) ∙ zero-add t
