-- Two runs side by side, and a run until an expression holds.
use Rattle.std.proofs.Common.{◌≡◌, ℕ, ◌+◌, ◌-◌, ◌<◌, ◌≤◌, List, ◌++◌, length, take, drop, Bool, true, false, IsTrue, ◌↔◌, refl, sym, ap, ap₂, ◌∙◌, subst, arith, below_more, length-append, true≢false}
use Rattle.std.proofs.lemmas.List.{take-append-drop, take-append-le, take_all, length-drop}
use Rattle.cov_expr.specs.Entailment.{Holds}
use Rattle.cov_expr.specs.Term.{Term}
use Rattle.cov_ast.specs.Plain.{Plain}
use Rattle.flow_model.specs.Runs as runs
use Rattle.flow_model.specs.Runs.{AgreeBefore}
use Rattle.flow_model.specs.Source.{Run, stayed_from}
use Rattle.flow_model.specs.declared.agreement.Differ.{Differ}
use Rattle.schedule_replay.specs.Inside.{HasSameFront}
use Rattle.schedule_replay.specs.Machines.{ComeApart, DifferIn, DoAgree, GrowsByOne, Semantics}
use Rattle.schedule_replay.specs.Replays.{after_steps, StopsAt}

-- Outputs ------------------------------------------------------------------------------------------------------

pub front_all : (xs ys : List ℕ) → xs ≡ ys → HasSameFront (length xs) xs ys
front_all xs ys e = record { left = omega arith; right = (let k = ap length e in omega arith); same = ap (take (length xs)) e }

front_of_grown : (n : ℕ) (xs zs : List ℕ) → n ≤ length xs → GrowsByOne xs zs → take n zs ≡ take n xs
front_of_grown n xs zs h g = ap (take n) g.grown ∙ take-append-le n xs g.more h

longer : (n : ℕ) (xs zs : List ℕ) → n ≤ length xs → GrowsByOne xs zs → n ≤ length zs
longer n xs zs h g = let e = ap length g.grown ∙ length-append xs g.more in omega arith

pub front_grown : (n : ℕ) (xs ys zs ws : List ℕ) → HasSameFront n xs ys → GrowsByOne xs zs → GrowsByOne ys ws → HasSameFront n zs ws
front_grown n xs ys zs ws f g h = record {
  left = longer n xs zs f.left g;
  right = longer n ys ws f.right h;
  same = front_of_grown n xs zs f.left g ∙ f.same ∙ sym (front_of_grown n ys ws f.right h);
}

-- the rest of a list from an index on, as a slice has it
abbrev pub rest_of : ℕ → List ℕ → List ℕ
rest_of n xs = take (length xs - n) (drop n xs)

rest_is : (n : ℕ) (xs : List ℕ) → rest_of n xs ≡ drop n xs
rest_is n xs = take_all (length xs - n) (drop n xs) (let e = length-drop n xs in omega arith)

pub same_rest : (n : ℕ) (xs ys : List ℕ) → HasSameFront n xs ys → rest_of n xs ≡ rest_of n ys → xs ≡ ys
same_rest n xs ys f e = sym (take-append-drop n xs) ∙ ap₂ (λ us vs. us ++ vs) f.same (sym (rest_is n xs) ∙ e ∙ rest_is n ys) ∙ take-append-drop n ys

pub rest_same : (n : ℕ) (xs ys : List ℕ) → xs ≡ ys → rest_of n xs ≡ rest_of n ys
rest_same n xs ys e = ap (rest_of n) e

-- Steps --------------------------------------------------------------------------------------------------------

module _ {Code State : Type 0} (semantics : Semantics Code State) (p : Plain) (c : Code) (r s : State) (schedule : List ℕ) (i : ℕ) (now other : State) where
  abbrev left : ℕ → State
  left k = runs.after_steps (semantics.step c) r schedule k

  abbrev right : ℕ → State
  right k = runs.after_steps (semantics.step c) s schedule k

  abbrev pub Before : ℕ → Type 0
  Before n = AgreeBefore (semantics.step c) (DoAgree semantics p) r s schedule n

  pub agree_more : Before (i + 1) → now ≡ left (i + 1) → other ≡ right (i + 1) → DoAgree semantics p now other → Before (i + 1 + 1)
  agree_more before a b x =
      below_more (λ k. 0 < k → DoAgree semantics p (left k) (right k)) (i + 1) before
      (λ z. subst (λ y. DoAgree semantics p (left (i + 1)) y) b (subst (λ y. DoAgree semantics p y other) a x))

  -- behind the first step, the states at which the next begins agree
  pub agree_now : 0 < i → Before (i + 1) → now ≡ left i → other ≡ right i → DoAgree semantics p now other
  agree_now some before a b = subst (λ x. DoAgree semantics p x other) (sym a) (subst (λ y. DoAgree semantics p (left i) y) (sym b) (before i (omega arith) some))

  pub first_apart : (d : Differ) → i < length schedule → Before (i + 1) → now ≡ left (i + 1) → other ≡ right (i + 1)
      → DifferIn semantics p now other d × ¬ DoAgree semantics p now other
      → ComeApart semantics p c r s schedule (record { step = i + 1; differ = d })
  first_apart d l before a b x = record {
    some = omega arith;
    within = omega arith;
    before = before;
    apart = λ y. x.1 (subst (λ z. DoAgree semantics p now z) (sym b) (subst (λ z. DoAgree semantics p z (right (i + 1))) (sym a) y));
    differ = subst (λ z. DifferIn semantics p (left (i + 1)) z d) b (subst (λ z. DifferIn semantics p z other d) a x.0);
  }

-- Until an expression holds ------------------------------------------------------------------------------------

-- where the test of the watch says no after the first steps
pub no_hit : (e : Term) (r : Run) (schedule : List ℕ) (i : ℕ) (hit : Bool) (now : Run) (m : List ℕ) → now ≡ after_steps r schedule i → m ≡ now.memory
    → IsTrue hit ↔ Holds e m → hit ≡ false → ¬ Holds e (after_steps r schedule i).memory
no_hit e r schedule i hit now m at seen h missed k = true≢false (sym (h.1 (subst (Holds e) (sym (seen ∙ ap (λ z. z.memory) at)) k)) ∙ missed)

pub stops_at : (e : Term) (r : Run) (schedule : List ℕ) (i stayed : ℕ) (hit : Bool) (now : Run) (m : List ℕ) → i ≤ length schedule
    → stayed ≡ stayed_from r (take i schedule)
    → ((k : ℕ) → k < i → ¬ Holds e (after_steps r schedule k).memory)
    → now ≡ after_steps r schedule i → m ≡ now.memory → IsTrue hit ↔ Holds e m → (¬ IsTrue hit → i ≡ length schedule)
    → StopsAt e r schedule (record { steps = i; stayed = stayed; hit = hit })
stops_at e r schedule i stayed hit now m l st earlier at seen h missed = record {
  within = l;
  stayed = st;
  earlier = earlier;
  hit = subst (λ z. IsTrue hit ↔ Holds e z) (seen ∙ ap (λ z. z.memory) at) h;
  missed = missed;
}

pub stops_here : (e : Term) (r : Run) (schedule : List ℕ) (i stayed : ℕ) (hit : Bool) (now : Run) (m : List ℕ) → i ≤ length schedule
    → stayed ≡ stayed_from r (take i schedule)
    → ((k : ℕ) → k < i → ¬ Holds e (after_steps r schedule k).memory)
    → now ≡ after_steps r schedule i → m ≡ now.memory → IsTrue hit ↔ Holds e m → hit ≡ true
    → StopsAt e r schedule (record { steps = i; stayed = stayed; hit = true })
stops_here e r schedule i stayed hit now m l st earlier at seen h is =
    stops_at e r schedule i stayed true now m l st earlier at seen (subst (λ b. IsTrue b ↔ Holds e m) is h) (λ missed. absurd (missed refl))

pub stops_behind : (e : Term) (r : Run) (schedule : List ℕ) (i stayed : ℕ) (hit : Bool) (now : Run) (m : List ℕ) → i ≡ length schedule
    → stayed ≡ stayed_from r (take i schedule)
    → ((k : ℕ) → k < i → ¬ Holds e (after_steps r schedule k).memory)
    → now ≡ after_steps r schedule i → m ≡ now.memory → IsTrue hit ↔ Holds e m
    → StopsAt e r schedule (record { steps = length schedule; stayed = stayed; hit = hit })
stops_behind e r schedule i stayed hit now m l st earlier at seen h =
    subst (λ k. StopsAt e r schedule (record { steps = k; stayed = stayed; hit = hit })) l
    (stops_at e r schedule i stayed hit now m (omega (arith, l)) st earlier at seen h (λ _. l))
