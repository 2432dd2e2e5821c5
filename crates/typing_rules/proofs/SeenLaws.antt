-- Entailments that are seen to hold without a walk: `auto` proves each.
use Rattle.std.proofs.Common.{◌≡◌, ℕ, ◌<◌, List, [], ◌∷◌, ◌++◌, true, Option, Some, None, length, get_or, map, sym, ap, subst, ◌∙◌}
use Rattle.std.specs.List.{list_any}
use Rattle.std.proofs.lemmas.Bool.{and_from, or_left, or_right}
use Rattle.std.proofs.lemmas.List.{append-nil, get_or-map, length-map}
use Rattle.std.proofs.lemmas.List.Folds.{list_any-append, list_any_at}
use Rattle.cov_expr.specs.declared.expr.Expr.{Expr}
use Rattle.cov_expr.specs.declared.expr.Op.TheVariants.{Both}
use Rattle.cov_expr.specs.Term.{Term, bin}
use Rattle.cov_expr.specs.Trees.{has_term, same}
use Rattle.cov_expr.specs.View.{term}
use Rattle.entail_cert.specs.Valid.{is_all_known, is_false, is_plain}
use Rattle.entail_cert.proofs.Conjuncts.{known_both, stated_known}
use Rattle.typing_law.specs.Entailments.{Entailment}
use Rattle.entail_cert.specs.declared.held.Held.{Held}
use Rattle.entail_cert.specs.HeldTerms.{held_term}
use Rattle.typing_rules.specs.Listed.{entailment_from}

-- the expression at a place is one of them
pub has_at : (es : List Expr) (i : ℕ) (f : Expr) (e : Term) → i < length es → f ≡ get_or es i f → same (term f) e ≡ true → has_term (map term es) e ≡ true
has_at es i f e inside is h =
    let there : i < length (map term es) = rw (length-map es term) inside in
    list_any_at (λ g. same g e) (map term es) i (term f) there (ap (λ g. same g e) (get_or-map term es i f (term f) inside ∙ ap term (sym is)) ∙ h)

pub both_known : (hyps : List Term) (a b : Term) → is_all_known hyps a ≡ true → is_all_known hyps b ≡ true → is_all_known hyps (bin Both a b) ≡ true
both_known hyps a b h k = known_both hyps a b ∙ and_from (is_all_known hyps a) (is_all_known hyps b) h k

pub ruleset seen_rules = (both_known, stated_known)

stated : (hyps : List Term) (goal : Term) → has_term hyps goal ≡ true → is_plain hyps goal ≡ true
stated hyps goal h =
    or_right (list_any is_false hyps) (is_all_known hyps goal) (subst (λ hs. is_all_known hs goal ≡ true) (append-nil hyps) (stated_known hyps [] goal h))

-- `auto` proves it
abbrev pub IsPlain : Entailment → Type 0
IsPlain entailment = is_plain entailment.hyps entailment.goal ≡ true

module _ (preds : List Term) where
  -- what comes beside the predicates is a hypothesis
  pub more_stated : (more : Held) (goal : Term) → same (held_term more) goal ≡ true → has_term (entailment_from preds (Some more) goal).hyps goal ≡ true
  more_stated more goal h =
      let test = λ (f : Term). same f goal in
      list_any-append test preds (held_term more ∷ [])
      ∙ or_right (list_any test preds) (list_any test (held_term more ∷ [])) (or_left (same (held_term more) goal) (list_any test []) h)

  pub stated_plain : (more : Option Held) (goal : Term) → has_term (entailment_from preds more goal).hyps goal ≡ true → IsPlain (entailment_from preds more goal)
  stated_plain None goal h = stated preds goal h
  stated_plain (Some e) goal h = stated (preds ++ held_term e ∷ []) goal h

  -- the predicates are hypotheses
  pub known_plain : (more : Option Held) (goal : Term) → ((others : List Term) → is_all_known (preds ++ others) goal ≡ true)
      → IsPlain (entailment_from preds more goal)
  known_plain None goal h =
      or_right (list_any is_false preds) (is_all_known preds goal) (subst (λ hyps. is_all_known hyps goal ≡ true) (append-nil preds) (h []))
  known_plain (Some e) goal h =
      let hyps = preds ++ held_term e ∷ [] in
      or_right (list_any is_false hyps) (is_all_known hyps goal) (h (held_term e ∷ []))

  pub false_plain : (more : Option Held) (goal : Term) → list_any is_false preds ≡ true → IsPlain (entailment_from preds more goal)
  false_plain None goal h = or_left (list_any is_false preds) (is_all_known preds goal) h
  false_plain (Some e) goal h =
      let hyps = preds ++ held_term e ∷ [] in
      or_left (list_any is_false hyps) (is_all_known hyps goal)
      (list_any-append is_false preds (held_term e ∷ []) ∙ or_left (list_any is_false preds) (list_any is_false (held_term e ∷ [])) h)

pub ruleset plain_rules = (false_plain, stated_plain)
