-- Laws of what is tried for entailments.
use Rattle.std.proofs.Common.{◌≡◌, ℕ, ◌≤◌, List, [], ◌++◌, true, false, length, map, refl, sym, subst, arith, ◌∙◌, Option, None, Result, Ok, Err}
use Rattle.std.specs.List.{list_all}
use Rattle.std.specs.Prelude.{IfOk}
use Rattle.std.proofs.lemmas.List.{append-nil}
use Rattle.cov_expr.specs.declared.list.NoMemory.{NoMemory}
use Rattle.cov_ast.specs.Syntax.{Proof}
use Rattle.point_law.specs.Point as spec
use Rattle.typing_state.specs.declared.point.Point.{Point}
use Rattle.typing_rules.specs.declared.asked.Entailment as rust
use Rattle.typing_rules.specs.declared.kept.Kept.{Kept}
use Rattle.typing_rules.specs.declared.entailments_tried.Tried.{Tried}
use Rattle.typing_rules.specs.declared.walk.Walk.{Walk}
use Rattle.typing_rules.specs.Listed.{AreListed}
use Rattle.typing_rules.specs.Keeping.{kept_for, view_kept}
use Rattle.std.proofs.lemmas.Bool.{false≢true}
use Rattle.typing_law.specs.Entailments.{Entailment, is_small_entailment}
use Rattle.typing_rules.specs.Inside.Walking.{asked_from, Tries, Wherever}
use Rattle.typing_rules.specs.Unproved.{first_unproved, unproved_for}
use Rattle.typing_rules.specs.declared.purpose.Purpose.{Purpose}
use Rattle.typing_rules.specs.declared.purpose.Purpose.TheVariants.{Judge, Collect, Search}

-- what is tried of entailments is tried of the same in other words
pub tried_same : (w : Walk) (at : ℕ) (kept : Point) (proofs : List Proof) (n : ℕ) (f g : spec.Point → List Entailment) (k0 k1 : List Kept) (result : Result Tried NoMemory)
    → Wherever w kept (λ a. f a ≡ g a) → IfOk result (λ tried. Wherever w kept (λ a. Tries w.purpose at proofs n (f a) k0 k1 tried))
    → IfOk result (λ tried. Wherever w kept (λ a. Tries w.purpose at proofs n (g a) k0 k1 tried))
tried_same w at kept proofs n f g k0 k1 (Ok tried) same h = λ a k. subst (λ gs. Tries w.purpose at proofs n gs k0 k1 tried) (same a k) (h a k)
tried_same w at kept proofs n f g k0 k1 (Err e) same h = tt

pub tried_listed : (w : Walk) (at : ℕ) (kept : Point) (proofs : List Proof) (n : ℕ) (made : Option (List rust.Entailment)) (g : spec.Point → List Entailment) (k0 k1 : List Kept)
    (result : Result Tried NoMemory) → Wherever w kept (λ a. AreListed a.preds (g a) made)
    → IfOk result (λ tried. Wherever w kept (λ a. (gs : List Entailment) → AreListed a.preds gs made → Tries w.purpose at proofs n gs k0 k1 tried))
    → IfOk result (λ tried. Wherever w kept (λ a. Tries w.purpose at proofs n (g a) k0 k1 tried))
tried_listed w at kept proofs n made g k0 k1 (Ok tried) listed h = λ a k. h a k (g a) (listed a k)
tried_listed w at kept proofs n made g k0 k1 (Err e) listed h = tt

-- What came of no entailments, of some of which one is large, and of small ones ----------------------------------------

-- nothing is added
stays : (k : List Kept) → map view_kept k ≡ map view_kept k ++ []
stays k = sym (append-nil (map view_kept k))

pub tries_none : (u : Purpose) (at : ℕ) (proofs : List Proof) (n : ℕ) (k : List Kept) (tried : Tried) → tried.count ≡ 0 → tried.small ≡ true → tried.unproved ≡ None
    → Tries u at proofs n [] k k tried
tries_none Judge at proofs n k tried count small unproved =
    record { few = omega (arith, count); small = small; added = []; grown = stays k; decided = λ _. (count, unproved, refl) }
tries_none (Collect wanted) at proofs n k tried count small unproved =
    record { few = omega (arith, count); small = small; added = []; grown = stays k; decided = λ _. (count, unproved, refl) }
tries_none (Search depth) at proofs n k tried count small unproved =
    record { few = omega (arith, count); small = small; added = []; grown = stays k; decided = λ _. (count, unproved, refl) }

pub tries_large : (u : Purpose) (at : ℕ) (proofs : List Proof) (n : ℕ) (gs : List Entailment) (k : List Kept) (tried : Tried) → tried.count ≡ 0 → tried.small ≡ false
    → list_all is_small_entailment gs ≡ false → Tries u at proofs n gs k k tried
tries_large u at proofs n gs k tried count small large =
    record { few = omega (arith, count); small = small ∙ sym large; added = []; grown = stays k; decided = λ e. absurd (false≢true (sym small ∙ e)) }

module _ (at : ℕ) (proofs : List Proof) (n : ℕ) (gs : List Entailment) (tried : Tried) (count : tried.count ≡ length gs) (small : tried.small ≡ list_all is_small_entailment gs) where
  few : tried.count ≤ length gs
  few = omega (arith, count)

  pub tries_judged : (u : Purpose) (k : List Kept) → u ≡ Judge → tried.unproved ≡ first_unproved proofs n gs → Tries u at proofs n gs k k tried
  tries_judged u k is unproved =
      subst (λ v. Tries v at proofs n gs k k tried) (sym is)
      (record { few = few; small = small; added = []; grown = stays k; decided = λ _. (count, unproved, refl) })

  -- where nothing is judged
  pub tries_kept : (u v : Purpose) (k0 k1 : List Kept) → u ≡ v → tried.unproved ≡ unproved_for v proofs n gs
      → map view_kept k1 ≡ map view_kept k0 ++ kept_for v (asked_from at proofs n gs) → Tries u at proofs n gs k0 k1 tried
  tries_kept u v k0 k1 is unproved grown =
      subst (λ w. Tries w at proofs n gs k0 k1 tried) (sym is)
      (record { few = few; small = small; added = kept_for v (asked_from at proofs n gs); grown = grown; decided = λ _. (count, unproved, refl) })
