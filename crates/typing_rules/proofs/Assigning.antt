-- An assignment: what is asked before its entailments, and then the rest.
use Rattle.std.proofs.Common.{◌≡◌, ℕ, List, [], ◌∷◌, ◌++◌, length, true, refl, sym, subst, Option, None, Result, Err}
use Rattle.cov_expr.specs.Term.{Term}
use Rattle.cov_ast.specs.Obligations.{Decides, Obligation, first_false}
use Rattle.cov_ast.specs.Plain.{Plain}
use Rattle.cov_ast.specs.Syntax.{Proof, assign}
use Rattle.cov_ast.specs.declared.refusal.CheckFault.{CheckFault}
use Rattle.point_law.specs.After.{after_assign}
use Rattle.point_law.specs.Point.{Point}
use Rattle.typing_law.specs.Blocks.{after_stm, value_type}
use Rattle.typing_law.specs.Entailments.{Entailment, assign_entailments}
use Rattle.typing_law.specs.ThreadEntailments.{PlacedEntailment, stm_entailments}
use Rattle.typing_law.specs.ThreadObligations.{few_preds, flat, numbers, proved, small_terms, stm_parts}
use Rattle.typing_rules.specs.declared.kept.Kept.{Kept}
use Rattle.typing_rules.specs.Keeping.{are_others}
use Rattle.typing_rules.specs.Inside.Passing.{Stops}
use Rattle.typing_rules.specs.Inside.Walking.{Walks, last_parts, value_parts}
use Rattle.typing_rules.specs.declared.purpose.Purpose.{Purpose}
use Rattle.typing_rules.specs.declared.walk.Walked.{Walked}
use Rattle.typing_rules.proofs.Others.{others_value}
use Rattle.typing_rules.proofs.Parts.{flat-append}
use Rattle.typing_rules.proofs.Reaching.{front_stops, front_walks, others-append}

module _ (u : Purpose) (p : Plain) (t at : ℕ) (proofs : List Proof) (a : Point) (x : ℕ) (e : Term) (written : Option Term) (rs : List (ℕ × Term)) where
  abbrev value : List (List Obligation)
  value = value_parts p t at a x e (value_type p t a written e) rs

  abbrev gs : List Entailment
  gs = assign_entailments p t a x e written rs

  abbrev after : Point
  after = after_assign p t a x e (value_type p t a written e) rs

  abbrev few : List Obligation
  few = few_preds p t at (after ∷ [])

  abbrev last : List (List Obligation)
  last = last_parts p t at proofs 1 (length gs) gs (after ∷ [])

  abbrev obligations : List Obligation
  obligations = flat (stm_parts p t (assign x e written rs) at proofs a)

  abbrev asks : List PlacedEntailment
  asks = stm_entailments p t (assign x e written rs) at a

  value_others : are_others (flat value) ≡ true
  value_others = others_value p t at a x e (value_type p t a written e) rs

  whole : flat value ++ (few ++ flat last) ≡ obligations
  whole = sym (flat-append value (few ∷ last))

  -- what is asked of the value doesn't hold
  pub value_stops : (k : List Kept) (fault : CheckFault) → Decides (flat value) (Err fault) → Stops u obligations asks k k fault
  value_stops k fault h = subst (λ o. Stops u o asks k k fault) whole (front_stops u (flat value) (few ++ flat last) value_others asks k fault h)

  -- it holds, and then the rest is walked
  pub value_walks : (counted : ℕ) (k0 k1 : List Kept) (r : Result Walked CheckFault) → first_false (flat value) ≡ None
      → Walks u p t (few ++ flat last) asks after counted k0 k1 r
      → Walks u p t obligations asks (after_stm p t (assign x e written rs) a) counted k0 k1 r
  value_walks counted k0 k1 r h w =
      subst (λ o. Walks u p t o asks after counted k0 k1 r) whole (front_walks u (flat value) (few ++ flat last) value_others asks p t after counted k0 k1 r h w)

-- what is asked before entailments doesn't hold, or these aren't small
module _ (u : Purpose) (p : Plain) (t at : ℕ) (proofs : List Proof) (a : Point) (x : ℕ) (e : Term) (rs : List (ℕ × Term)) where
  abbrev sized : List (List Obligation)
  sized =
      value_parts p t at a x e (value_type p t a None e) rs ++ few_preds p t at (after_assign p t a x e (value_type p t a None e) rs ∷ [])
      ∷ small_terms p t at (assign_entailments p t a x e None rs) (after_assign p t a x e (value_type p t a None e) rs ∷ []) ∷ []

  abbrev certified : List (List Obligation)
  certified = proved p t at proofs 1 (assign_entailments p t a x e None rs) ∷ numbers p t at (length (assign_entailments p t a x e None rs)) proofs ∷ []

  sized_others : are_others (flat sized) ≡ true
  sized_others =
      let q = value_type p t a None e in
      let last = few_preds p t at (after_assign p t a x e q rs ∷ []) ∷ small_terms p t at (assign_entailments p t a x e None rs) (after_assign p t a x e q rs ∷ []) ∷ [] in
      subst (λ o. are_others o ≡ true) (sym (flat-append (value_parts p t at a x e q rs) last))
      (others-append (flat (value_parts p t at a x e q rs)) (flat last) (others_value p t at a x e q rs) refl)

  pub large_stops : (k : List Kept) (fault : CheckFault) → Decides (flat sized) (Err fault)
      → Stops u (flat (stm_parts p t (assign x e None rs) at proofs a)) (stm_entailments p t (assign x e None rs) at a) k k fault
  large_stops k fault h =
      subst (λ o. Stops u o (stm_entailments p t (assign x e None rs) at a) k k fault) (sym (flat-append sized certified))
      (front_stops u (flat sized) (flat certified) sized_others (stm_entailments p t (assign x e None rs) at a) k fault h)
