-- The verdict on the parts of a rule, and on entailments that are tried in two batches.
use Rattle.std.proofs.Common.{◌≡◌, ℕ, suc, ◌+◌, ◌&&◌, List, [], ◌∷◌, ◌++◌, length, Bool, true, false, cond, refl, sym, ap, ◌∙◌, subst, arith, append_assoc, Some, None, Result, Err}
use Rattle.std.specs.List.{list_all}
use Rattle.std.proofs.lemmas.Bool.{and_parts}
use Rattle.cov_ast.specs.Obligations.{Decides, Obligation, first_false}
use Rattle.cov_ast.specs.Plain.{Plain}
use Rattle.cov_ast.specs.Syntax.{Proof}
use Rattle.cov_ast.specs.declared.refusal.CheckFault.{CheckFault}
use Rattle.cov_ast.specs.declared.refusal.Refusal.{Refusal}
use Rattle.cov_ast.specs.declared.refusal.Rule.TheVariants.{V16}
use Rattle.cov_ast.specs.declared.refusal.Detail.TheVariants.{Nothing}
use Rattle.cov_ast.proofs.ObligationLaws.{append_decided, append_refused}
use Rattle.typing_law.specs.Entailments.{Entailment, is_small_entailment}
use Rattle.point_law.specs.Point.{Point, has_small_types}
use Rattle.typing_law.specs.ThreadObligations.{obligation, flat, proved, small_terms}
use Rattle.typing_rules.specs.declared.kept.Kept.{Kept}
use Rattle.typing_rules.specs.Keeping.{kept_for}
use Rattle.typing_rules.specs.Inside.Walking.{asked_from, Tries}
use Rattle.typing_rules.specs.Unproved.{unproved_for}
use Rattle.typing_rules.specs.declared.purpose.Purpose.{Purpose}
use Rattle.typing_rules.specs.declared.entailments_tried.Tried.{Tried}

-- The verdict on parts --------------------------------------------------------------------------------------------

pub flat-append : (ess fss : List (List Obligation)) → flat (ess ++ fss) ≡ flat ess ++ flat fss
flat-append [] fss = refl
flat-append (es ∷ ess) fss = ap (λ b. es ++ b) (flat-append ess fss) ∙ sym (append_assoc es (flat ess) (flat fss))

-- what refuses the first parts refuses the rule
pub parts_refused : (ess fss : List (List Obligation)) (fault : CheckFault) → Decides (flat ess) (Err fault) → Decides (flat (ess ++ fss)) (Err fault)
parts_refused ess fss fault h =
    subst (λ b. Decides b (Err fault)) (sym (flat-append ess fss)) (append_refused (flat ess) (flat fss) fault h)

-- where the first parts hold, the others decide
pub parts_decided : (ess fss : List (List Obligation)) (r : Result (Unit {0}) CheckFault) → first_false (flat ess) ≡ None → Decides (flat fss) r
    → Decides (flat (ess ++ fss)) r
parts_decided ess fss r e h = subst (λ b. Decides b r) (sym (flat-append ess fss)) (append_decided (flat ess) (flat fss) r e h)

-- a part that refuses, behind parts that hold
pub part_refused : (ess : List (List Obligation)) (es : List Obligation) (fss : List (List Obligation)) (fault : CheckFault) → first_false (flat ess) ≡ None
    → Decides es (Err fault) → Decides (flat (ess ++ es ∷ fss)) (Err fault)
part_refused ess es fss fault e h = parts_decided ess (es ∷ fss) (Err fault) e (append_refused es (flat fss) fault h)

some_none : (r : Refusal) → Some r ≡ None → ⊥
some_none r h = cc

-- where all hold, those of each part do
pub append_none : (a b : List Obligation) → first_false (a ++ b) ≡ None → (first_false a ≡ None) × (first_false b ≡ None)
append_none [] b h = (refl, h)
append_none (e ∷ es) b h =
    elim e.holds as (λ v. cond v (first_false (es ++ b)) (Some e.refusal) ≡ None → (cond v (first_false es) (Some e.refusal) ≡ None) × (first_false b ≡ None)) [
      | true ↦ append_none es b
      | false ↦ (λ i. absurd (some_none e.refusal i))
    ] h

-- Entailments ----------------------------------------------------------------------------------------------------

-- what holds where an obligation does
pub held_is : (p : Plain) (t at : ℕ) (b : Bool) → first_false (obligation p t at V16 Nothing b ∷ []) ≡ None → b ≡ true
held_is p t at true h = refl
held_is p t at false h = cc

pub proved-append : (p : Plain) (t at : ℕ) (proofs : List Proof) (n : ℕ) (gs hs : List Entailment)
    → proved p t at proofs n (gs ++ hs) ≡ proved p t at proofs n gs ++ proved p t at proofs (n + length gs) hs
proved-append p t at proofs n [] hs = let e : n ≡ n + 0 = omega arith in ap (λ m. proved p t at proofs m hs) e
proved-append p t at proofs n (g ∷ gs) hs =
    let e : suc n + length gs ≡ n + suc (length gs) = omega arith in
    ap (λ es. proved p t at proofs n (g ∷ []) ++ es)
    (proved-append p t at proofs (suc n) gs hs ∙ ap (λ m. proved p t at proofs (suc n) gs ++ proved p t at proofs m hs) e)

-- where entailments and the types after them are small, what came of the entailments is known
pub tried_decided : (u : Purpose) (p : Plain) (t at : ℕ) (proofs : List Proof) (n : ℕ) (gs : List Entailment) (points : List Point) (k0 k1 : List Kept) (tried : Tried)
    → (h : Tries u at proofs n gs k0 k1 tried) → first_false (small_terms p t at gs points) ≡ None
    → (tried.count ≡ length gs) × (tried.unproved ≡ unproved_for u proofs n gs) × (h.added ≡ kept_for u (asked_from at proofs n gs))
tried_decided u p t at proofs n gs points k0 k1 tried h sizes =
    let small = list_all is_small_entailment gs && list_all has_small_types points in
    h.decided (h.small ∙ (and_parts (list_all is_small_entailment gs) (list_all has_small_types points) (held_is p t at small sizes)).0)
