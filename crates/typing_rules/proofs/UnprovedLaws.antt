-- Laws of entailments that are small, and of the first without a valid certificate.
use Rattle.std.proofs.Common.{◌≡◌, ℕ, suc, ◌+◌, ◌<◌, ◌≤◌, List, [], ◌∷◌, ◌++◌, Bool, true, false, cond, if◌then◌else◌, ◌&&◌, ◌==◌, length, drop, get_or, refl, sym, ap, subst, arith, ◌∙◌, Option, Some, None, option_map, Err}
use Rattle.std.specs.List.{list_all}
use Rattle.std.specs.Prelude.{filter}
use Rattle.std.specs.Option.{option_or}
use Rattle.std.proofs.lemmas.List.{at_drop_all, at_drop_more}
use Rattle.std.proofs.lemmas.List.Folds.{list_all-append}
use Rattle.cov_expr.specs.Term.{Term}
use Rattle.cov_ast.specs.Obligations.{Decides, first_false}
use Rattle.cov_ast.specs.Plain.{Plain}
use Rattle.cov_ast.specs.Syntax.{Proof}
use Rattle.cov_ast.specs.declared.refusal.CheckFault.{CheckFault}
use Rattle.cov_ast.specs.declared.refusal.CheckFault.TheVariants.{Refused}
use Rattle.cov_ast.specs.declared.refusal.Detail.TheVariants.{Number}
use Rattle.cov_ast.specs.declared.refusal.Refusal.{Refusal}
use Rattle.cov_ast.specs.declared.refusal.Rule.TheVariants.{V9}
use Rattle.typing_rules.specs.declared.asked.Entailment as rust
use Rattle.entail_cert.specs.declared.held.Held.{Held}
use Rattle.entail_cert.specs.HeldTerms.{held_term}
use Rattle.typing_rules.specs.Listed.{entailment_of, entailment_from, entailments_of}
use Rattle.typing_rules.specs.Keeping.{is_other, looked_at}
use Rattle.typing_law.specs.Entailments.{Entailment, is_proved, is_small_entailment}
use Rattle.typing_law.specs.ThreadObligations.{obligation, proved}
use Rattle.typing_rules.specs.Unproved.{first_unproved, unproved_for}
use Rattle.typing_rules.specs.declared.purpose.Purpose.{Purpose}
use Rattle.typing_rules.specs.declared.purpose.Purpose.TheVariants.{Judge, Collect, Search}
use Rattle.point_law.specs.Terms.{is_small}

regroup : (a b c : Bool) → ((a && (b && true)) && c) ≡ (a && ((b && true) && c))
regroup true b c = refl
regroup false b c = refl

-- the predicates are small, and so is the rest of an entailment
small_parts : (preds : List Term) (more : Option Held) (goal : Term)
    → is_small_entailment (entailment_from preds more goal) ≡ (list_all is_small preds && is_small_entailment (entailment_from [] more goal))
small_parts preds None goal = refl
small_parts preds (Some e) goal =
    ap (λ b. b && is_small goal) (list_all-append is_small preds (held_term e ∷ [])) ∙ regroup (list_all is_small preds) (is_small (held_term e)) (is_small goal)

module _ (preds : List Term) where
  pub small_rest : list_all is_small preds ≡ true → (cs : List rust.Entailment)
      → list_all (λ c. is_small_entailment (entailment_of [] c)) cs ≡ list_all is_small_entailment (entailments_of preds cs)
  small_rest small [] = refl
  small_rest small (c ∷ cs) =
      λ i. sym (small_parts preds c.more (held_term c.goal) ∙ ap (λ b. b && is_small_entailment (entailment_of [] c)) small) i && small_rest small cs i

  pub large_preds : list_all is_small preds ≡ false → (cs : List rust.Entailment) → (length cs == 0) ≡ false → list_all is_small_entailment (entailments_of preds cs) ≡ false
  large_preds large [] some = cc
  large_preds large (c ∷ cs) some =
      ap (λ b. b && list_all is_small_entailment (entailments_of preds cs))
      (small_parts preds c.more (held_term c.goal) ∙ ap (λ b. b && is_small_entailment (entailment_of [] c)) large)

-- The first without a valid certificate --------------------------------------------------------------------------

module _ (p : Plain) (t at : ℕ) (proofs : List Proof) where
  refusal : ℕ → Refusal
  refusal n = (obligation p t at V9 (Number n) false).refusal

  unproved_is : (n : ℕ) (gs : List Entailment) → first_false (proved p t at proofs n gs) ≡ option_map refusal (first_unproved proofs n gs)
  unfolding refusal
  unproved_is n [] = refl
  unproved_is n (g ∷ gs) =
      elim (is_proved proofs n g) as (λ v. cond v (first_false (proved p t at proofs (suc n) gs)) (Some (refusal n)) ≡ option_map refusal (cond v (first_unproved proofs (suc n) gs) (Some n)))
      [ true ↦ unproved_is (suc n) gs | false ↦ refl ]

  unproved_refused : (n : ℕ) (gs : List Entailment) (m : ℕ) (fault : CheckFault) → Some m ≡ first_unproved proofs n gs
      → fault ≡ Refused (obligation p t at V9 (Number m) false).refusal → Decides (proved p t at proofs n gs) (Err fault)
  unfolding refusal
  unproved_refused n gs m fault first is =
      subst (λ f. Decides (proved p t at proofs n gs) (Err f)) (sym is) (unproved_is n gs ∙ ap (option_map refusal) (sym first))

  unproved_none : (n : ℕ) (gs : List Entailment) → None ≡ first_unproved proofs n gs → first_false (proved p t at proofs n gs) ≡ None
  unproved_none n gs first = unproved_is n gs ∙ ap (option_map refusal) (sym first)

module _ (p : Plain) (t at : ℕ) (proofs : List Proof) where
  -- a walk that doesn't judge looks at none of them
  pub proved_silent : (n : ℕ) (gs : List Entailment) → filter is_other (proved p t at proofs n gs) ≡ []
  proved_silent n [] = refl
  proved_silent n (g ∷ gs) = proved_silent (suc n) gs

some_number : (m : ℕ) → Some m ≡ None → ⊥
some_number m h = cc

-- where none is found that the walk looks at, each that it looks at is proved
pub unproved_for_none : (u : Purpose) (p : Plain) (t at : ℕ) (proofs : List Proof) (n : ℕ) (gs : List Entailment) → None ≡ unproved_for u proofs n gs
    → first_false (looked_at u (proved p t at proofs n gs)) ≡ None
unproved_for_none Judge p t at proofs n gs h = unproved_none p t at proofs n gs h
unproved_for_none (Collect wanted) p t at proofs n gs h = ap first_false (proved_silent p t at proofs n gs)
unproved_for_none (Search depth) p t at proofs n gs h = ap first_false (proved_silent p t at proofs n gs)

pub unproved_for_refused : (u : Purpose) (p : Plain) (t at : ℕ) (proofs : List Proof) (n : ℕ) (gs : List Entailment) (m : ℕ) (fault : CheckFault) → Some m ≡ unproved_for u proofs n gs
    → fault ≡ Refused (obligation p t at V9 (Number m) false).refusal → Decides (looked_at u (proved p t at proofs n gs)) (Err fault)
unproved_for_refused Judge p t at proofs n gs m fault h is = unproved_refused p t at proofs n gs m fault h is
unproved_for_refused (Collect wanted) p t at proofs n gs m fault h is = absurd (some_number m h)
unproved_for_refused (Search depth) p t at proofs n gs m fault h is = absurd (some_number m h)

module _ (proofs : List Proof) where
  unproved-append : (n : ℕ) (gs hs : List Entailment)
      → first_unproved proofs n (gs ++ hs) ≡ option_or (first_unproved proofs n gs) (first_unproved proofs (n + length gs) hs)
  unproved-append n [] hs = let e : n ≡ n + 0 = omega arith in ap (λ m. first_unproved proofs m hs) e
  unproved-append n (g ∷ gs) hs =
      let e : suc n + length gs ≡ n + suc (length gs) = omega arith in
      let rest = unproved-append (suc n) gs hs ∙ ap (λ m. option_or (first_unproved proofs (suc n) gs) (first_unproved proofs m hs)) e in
      elim (is_proved proofs n g) as (λ v. cond v (first_unproved proofs (suc n) (gs ++ hs)) (Some n)
      ≡ option_or (cond v (first_unproved proofs (suc n) gs) (Some n)) (first_unproved proofs (n + suc (length gs)) hs))
      [ true ↦ rest | false ↦ refl ]

  pub unproved_for-append : (u : Purpose) (n : ℕ) (gs hs : List Entailment)
      → unproved_for u proofs n (gs ++ hs) ≡ option_or (unproved_for u proofs n gs) (unproved_for u proofs (n + length gs) hs)
  unproved_for-append Judge n gs hs = unproved-append n gs hs
  unproved_for-append (Collect wanted) n gs hs = refl
  unproved_for-append (Search depth) n gs hs = refl

  -- one entailment more is tried
  module _ (preds : List Term) (n : ℕ) (xs : List rust.Entailment) (i : ℕ) (x : rust.Entailment) (whole : Option ℕ) (inside : i < length xs) (is : x ≡ get_or xs i x)
      (kept : first_unproved proofs n (entailments_of preds (drop i xs)) ≡ whole) where
    next_tried : (if is_proved proofs n (entailment_of preds x) then first_unproved proofs (suc n) (entailments_of preds (drop (i + 1) xs)) else Some n) ≡ whole
    next_tried =
        ap (λ y. first_unproved proofs n (entailments_of preds (y ∷ drop (i + 1) xs))) is
        ∙ sym (at_drop_more (λ ys. first_unproved proofs n (entailments_of preds ys)) xs i x inside) ∙ kept

    pub unproved_here : is_proved proofs n (entailment_of preds x) ≡ false → Some n ≡ whole
    unproved_here h = sym (ap (λ b. if b then first_unproved proofs (suc n) (entailments_of preds (drop (i + 1) xs)) else Some n) h) ∙ next_tried

    pub unproved_later : is_proved proofs n (entailment_of preds x) ≡ true → first_unproved proofs (n + 1) (entailments_of preds (drop (i + 1) xs)) ≡ whole
    unproved_later h =
        let e : n + 1 ≡ suc n = omega arith in
        ap (λ m. first_unproved proofs m (entailments_of preds (drop (i + 1) xs))) e
        ∙ sym (ap (λ b. if b then first_unproved proofs (suc n) (entailments_of preds (drop (i + 1) xs)) else Some n) h) ∙ next_tried

  pub unproved_end : (preds : List Term) (n : ℕ) (xs : List rust.Entailment) (i : ℕ) (whole : Option ℕ) → length xs ≤ i
      → first_unproved proofs n (entailments_of preds (drop i xs)) ≡ whole → None ≡ whole
  unproved_end preds n xs i whole past kept = sym (at_drop_all (λ ys. first_unproved proofs n (entailments_of preds ys)) xs i past) ∙ kept
