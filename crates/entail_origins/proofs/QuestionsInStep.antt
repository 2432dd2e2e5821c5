-- The questions of a statement go in step with its own entailments: each asks for the one that stands beside it.
use Rattle.std.proofs.Common.{◌≡◌, ℕ, suc, ◌+◌, ◌-◌, ◌||◌, not, List, [], ◌∷◌, ◌++◌, map, get_or, Bool, true, false, refl, sym, ap, ap₂, ◌∙◌, arith, Option, Some, None, option_to_list, if◌then◌else◌}
use Rattle.std.specs.Prelude.{filter}
use Rattle.std.specs.List.{AllZip}
use Rattle.cov_expr.specs.Term.{Term, const, neg}
use Rattle.cov_expr.specs.Trees.{subst}
use Rattle.cov_ast.specs.Declarations.{class_of, invariant_term, is_control, lock_at}
use Rattle.cov_ast.specs.Plain.{Plain}
use Rattle.cov_ast.specs.Syntax.{State, Stm, assign, branch, loop, note, output}
use Rattle.mode_state.specs.Sets.{is_hidden}
use Rattle.typing_law.specs.Blocks.{after_block, value_type}
use Rattle.typing_law.specs.Entailments.{Entailment, controlled_follows, controlled_values, freed_value, from_one_more, from_preds, guard_follows, retype_follows, shown_controlled, shown_value, state_follows, type_follows, written_type}
use Rattle.point_law.specs.After.{meet, with_guard}
use Rattle.point_law.specs.Point.{Point}
use Rattle.statement_parts.specs.Parts.{none, parts, preds_of}
use Rattle.entail_origins.specs.AskedHypotheses.{AreOf, asks_more}
use Rattle.entail_origins.specs.GoalTypes.{asked_point, at_end, goal_of}
use Rattle.entail_origins.specs.OwnEntailments.{own_entailments, returned_entailments}
use Rattle.entail_origins.specs.Questions.{of_controlled, of_parts, of_preds, of_shown, of_state, of_written, questions}
use Rattle.entail_origins.specs.declared.kinds.End.{End}
use Rattle.entail_origins.specs.declared.kinds.End.TheVariants as ends
use Rattle.entail_origins.specs.declared.kinds.Question.{Question}
use Rattle.entail_origins.specs.declared.kinds.Question.TheVariants as q

-- Two lists, place by place --------------------------------------------------------------------------------------

module _ {A B : Type 0} (R : A → B → Type 0) where
  zip_append : (xs : List A) (ys : List B) (us : List A) (vs : List B) → AllZip R xs ys → AllZip R us vs → AllZip R (xs ++ us) (ys ++ vs)
  zip_append [] [] us vs h k = k
  zip_append [] (y ∷ ys) us vs h k = absurd h
  zip_append (x ∷ xs) [] us vs h k = absurd h
  zip_append (x ∷ xs) (y ∷ ys) us vs h k = (h.0, zip_append xs ys us vs h.1 k)

  zip_mapped : {C : Type 0} (f : C → A) (g : C → B) → ((x : C) → R (f x) (g x)) → (xs : List C) → AllZip R (map f xs) (map g xs)
  zip_mapped f g h [] = tt
  zip_mapped f g h (x ∷ xs) = (h x, zip_mapped f g h xs)

  zip_chosen : (b : Bool) (xs : List A) (ys : List B) → AllZip R xs ys → AllZip R (if b then xs else []) (if b then ys else [])
  zip_chosen true xs ys h = h
  zip_chosen false xs ys h = tt

-- Questions ------------------------------------------------------------------------------------------------------

module _ (p : Plain) (t : ℕ) (s : Stm) where
  -- What a question asks of a statement, at a point: from what it is to follow, and its goal.
  abbrev pub OfPoint : Point → Question → Entailment → Type 0
  OfPoint b question g = AreOf (asks_more question) b.preds g.hyps × (g.goal ≡ goal_of p t question s b)

  -- it asks for an entailment at the point in front of the statement
  abbrev pub IsAsked : Point → Question → Entailment → Type 0
  IsAsked a question g = OfPoint (asked_point p t question s a) question g

module _ (p : Plain) (t : ℕ) (s : Stm) (a : Point) where
  of_each_pred : (end : End) (n : ℕ) (rs : List Term) → ((k : ℕ) → get_or rs k (const 0) ≡ goal_of p t (q.Predicate end (n + k)) s a)
      → AllZip (IsAsked p t s a) (of_preds end n rs) (map (from_preds (at_end p t end s a).preds) rs)
  of_each_pred end n [] h = tt
  of_each_pred end n (r ∷ rs) h =
      let first : n + 0 ≡ n = omega arith in (
        (refl, h 0 ∙ ap (λ i. goal_of p t (q.Predicate end i) s a) first),
        of_each_pred end (n + 1) rs (λ k. let same : n + suc k ≡ n + 1 + k = omega arith in h (suc k) ∙ ap (λ i. goal_of p t (q.Predicate end i) s a) same),
      )

  of_each_state : (end : End) (j : State) → preds_of (parts s).state ≡ j.preds
      → AllZip (IsAsked p t s a) (of_state end j) (state_follows (at_end p t end s a) j)
  of_each_state end j same =
      let b = at_end p t end s a in
      zip_append (IsAsked p t s a) (of_preds end 1 j.preds) (map (from_preds b.preds) j.preds) (map (λ r. q.TypeOf end r.0) j.types) (map (type_follows b) j.types)
      (of_each_pred end 1 j.preds (λ k. let number : k ≡ 1 + k - 1 = omega arith in ap₂ (λ rs i. get_or rs i (const 0)) (sym same) number))
      (zip_mapped (IsAsked p t s a) (λ r. q.TypeOf end r.0) (type_follows b) (λ r. ((r.1, refl), refl)) j.types)

  -- where a lock is given back
  of_each_returned : (returned : Option ℕ)
      → AllZip (IsAsked p t s a) (of_parts p (is_hidden p t a.held) None returned None none None) (returned_entailments p t a returned)
  of_each_returned None = tt
  of_each_returned (Some l) =
      let inv = option_to_list (lock_at p l).inv in
      let freed = filter (λ x. not (is_control p x)) (lock_at p l).hide in
      zip_append (IsAsked p t s a) (map (λ r. q.Invariant l) inv) (map (from_preds a.preds) inv) (map q.Freed freed) (map (freed_value p t a) freed)
      (of_invariant (lock_at p l).inv refl)
      (zip_mapped (IsAsked p t s a) q.Freed (freed_value p t a) (λ x. ((class_of p x, refl), refl)) freed)
    where
      of_invariant : (inv : Option Term) → (lock_at p l).inv ≡ inv
          → AllZip (IsAsked p t s a) (map (λ r. q.Invariant l) (option_to_list inv)) (map (from_preds a.preds) (option_to_list inv))
      of_invariant None there = tt
      of_invariant (Some r) there = ((refl, ap invariant_term (sym there)), tt)

module _ (p : Plain) (t : ℕ) (a : Point) (x : ℕ) (e : Term) (w : Option Term) (retypes : List (ℕ × Term)) where
  abbrev IsStored : Question → Entailment → Type 0
  IsStored = IsAsked p t (assign x e w retypes) a

  of_each_written : (v : Option Term) → AllZip IsStored (of_written v) (written_type p t a e v)
  of_each_written None = tt
  of_each_written (Some r) = (((r, refl), refl), tt)

  of_each_shown : AllZip IsStored (of_shown p (is_hidden p t a.held) x) (shown_value p t a x (value_type p t a w e))
  of_each_shown =
      zip_chosen IsStored (is_control p x || not (is_hidden p t a.held x)) (q.Shown x ∷ []) (from_one_more a.preds (class_of p x) (value_type p t a w e) ∷ [])
      (((class_of p x, refl), refl), tt)

  of_each_controlled : AllZip IsStored (of_controlled p (is_hidden p t a.held) x) (controlled_values p t a x e)
  of_each_controlled =
      zip_chosen IsStored (is_control p x) (map q.Controlled (shown_controlled p t a x)) (map (controlled_follows p t a x e) (shown_controlled p t a x))
      (zip_mapped IsStored q.Controlled (controlled_follows p t a x e) (λ y. ((subst (class_of p y) x e, refl), refl)) (shown_controlled p t a x))

  of_each_assignment : AllZip IsStored (questions p t a.held (assign x e w retypes)) (own_entailments p t (assign x e w retypes) a)
  of_each_assignment =
      let asked1 = of_written w in
      let asked2 = of_shown p (is_hidden p t a.held) x in
      let asked3 = of_controlled p (is_hidden p t a.held) x in
      let follows1 = written_type p t a e w in
      let follows2 = shown_value p t a x (value_type p t a w e) in
      let follows3 = controlled_values p t a x e in
      zip_append IsStored (asked1 ++ asked2 ++ asked3) (follows1 ++ follows2 ++ follows3) (map (λ z. q.Retyped z.0) retypes) (map (retype_follows p t a x e) retypes)
      (zip_append IsStored (asked1 ++ asked2) (follows1 ++ follows2) asked3 follows3
      (zip_append IsStored asked1 follows1 asked2 follows2 (of_each_written w) of_each_shown) of_each_controlled)
      (zip_mapped IsStored (λ z. q.Retyped z.0) (retype_follows p t a x e) (λ z. ((subst z.1 x e, refl), refl)) retypes)

-- Statements -----------------------------------------------------------------------------------------------------

pub in_step : (p : Plain) (t : ℕ) (s : Stm) (a : Point) → AllZip (IsAsked p t s a) (questions p t a.held s) (own_entailments p t s a)
in_step p t (assign x e w retypes) a = of_each_assignment p t a x e w retypes
in_step p t (branch e yes_block no_block join) a =
    let s = branch e yes_block no_block join in
    let first = after_block p t yes_block (with_guard p t a e) in
    let second = after_block p t no_block (with_guard p t a (neg e)) in (
      (refl, refl),
      zip_append (IsAsked p t s a) (of_state ends.FirstBlock join) (state_follows first join) (of_state ends.SecondBlock join) (state_follows second join)
          (of_each_state p t s a ends.FirstBlock join refl) (of_each_state p t s a ends.SecondBlock join refl),
    )
in_step p t (loop e inv b) a =
    let s = loop e inv b in
    let head = meet p t a inv in
    let end = after_block p t b (with_guard p t head e) in
    zip_append (IsAsked p t s a) (of_state ends.Entry inv) (state_follows a inv) (q.HeadGuard ∷ of_state ends.Body inv) (guard_follows p t head e ∷ state_follows end inv)
    (of_each_state p t s a ends.Entry inv refl)
    ((refl, refl), of_each_state p t s a ends.Body inv refl)
in_step p t (note j) a = of_each_state p t (note j) a ends.Here j refl
in_step p t (output e) a = ((refl, refl), tt)
in_step p t s a = of_each_returned p t s a (parts s).returned
