-- What is known of a conjunction, and by hypotheses in two parts.
use Rattle.std.proofs.Common.{◌≡◌, ◌&&◌, ◌||◌, List, [], ◌∷◌, ◌++◌, Bool, true, false, refl, sym, ◌∙◌, subst, inl, inr}
use Rattle.std.specs.List.{list_all}
use Rattle.std.proofs.lemmas.List.Folds.{list_all-append, list_any-append}
use Rattle.std.proofs.lemmas.Bool.{and_from, or_left, or_right, or_cases}
use Rattle.cov_expr.specs.declared.expr.Op.TheVariants.{Both}
use Rattle.cov_expr.specs.Term.{Term, bin}
use Rattle.cov_expr.specs.Trees.{same, conjuncts, has_term, has_conjunct}
use Rattle.cov_expr.proofs.Trees.{same_is, same_refl}
use Rattle.entail_cert.specs.Valid.{is_true, is_known, is_all_known}

pub known_both : (hyps : List Term) (a b : Term) → is_all_known hyps (bin Both a b) ≡ (is_all_known hyps a && is_all_known hyps b)
known_both hyps a b = list_all-append (λ e. is_true e || is_known hyps e) (conjuncts a) (conjuncts b)

pub known_append : (first more : List Term) (e : Term) → is_known (first ++ more) e ≡ (is_known first e || is_known more e)
known_append first more e = list_any-append (λ h. has_conjunct h e) first more

-- A goal that is a hypothesis --------------------------------------------------------------------------------------

known_in : (h e : Term) (hyps : List Term) → has_term hyps h ≡ true → has_conjunct h e ≡ true → is_known hyps e ≡ true
known_in h e [] i j = let c : false ≡ true = i in cc
known_in h e (f ∷ hyps) i j =
    elim (or_cases (same f h) (has_term hyps h) i) [
      | inl k ↦ or_left (has_conjunct f e) (is_known hyps e) (subst (λ f. has_conjunct f e ≡ true) (sym (same_is f h k)) j)
      | inr k ↦ or_right (has_conjunct f e) (is_known hyps e) (known_in h e hyps k j)
    ]

all_known : (hyps es : List Term) → ((e : Term) → has_term es e ≡ true → is_known hyps e ≡ true) → list_all (λ e. is_true e || is_known hyps e) es ≡ true
all_known hyps [] h = refl
all_known hyps (e ∷ es) h =
    and_from (is_true e || is_known hyps e) (list_all (λ e. is_true e || is_known hyps e) es)
    (or_right (is_true e) (is_known hyps e) (h e (or_left (same e e) (has_term es e) (same_refl e))))
    (all_known hyps es (λ f i. h f (or_right (same e f) (has_term es f) i)))

pub stated_known : (first more : List Term) (goal : Term) → has_term first goal ≡ true → is_all_known (first ++ more) goal ≡ true
stated_known first more goal i =
    all_known (first ++ more) (conjuncts goal)
    (λ e j. known_append first more e ∙ or_left (is_known first e) (is_known more e) (known_in goal e first i j))

pub ruleset known_rules = (known_both, stated_known)
