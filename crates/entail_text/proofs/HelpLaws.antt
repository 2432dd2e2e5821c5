-- What would help is enough, and what is hopeless stays so with fewer hypotheses.
use Rattle.std.proofs.Common.{◌≡◌, ℕ, List, [], ◌∷◌, ◌++◌, true, false, IsTrue, Option, Some, None, is_some, inl, inr, refl, subst}
use Rattle.std.specs.List.{list_all}
use Rattle.std.proofs.lemmas.Bool.{or_cases}
use Rattle.cert_search.specs.declared.finder.TheConstants.{MOST_DEPTH}
use Rattle.cert_search.proofs.Sound.{search_sound}
use Rattle.cov_ast.specs.Syntax.{Cert}
use Rattle.cov_ast.specs.WellFormed.{CertHasWords}
use Rattle.cov_expr.specs.Entailment.{AllHold, Holds}
use Rattle.cov_expr.specs.Term.{Term}
use Rattle.cov_expr.specs.Trees.{has_term, same}
use Rattle.cov_expr.proofs.Tests.{left_true, right_true}
use Rattle.cov_expr.proofs.Trees.{same_is}
use Rattle.entail_cert.specs.Valid.{is_valid}
use Rattle.entail_cert.proofs.Instances.{valid_entails}
use Rattle.entail_counter.specs.Counterexamples.{counterexample, memory}
use Rattle.entail_counter.specs.declared.binding.Binding.{Binding}
use Rattle.entail_counter.proofs.Breaking.{found_breaks}
use Rattle.entail_text.specs.Findings.{IsEnough, is_hopeless, suggested, would_help}

-- Enough --------------------------------------------------------------------------------------------------------

-- a certificate that the search finds with one predicate more
found_is_enough : (hyps : List Term) (goal more : Term) (c : Cert) → suggested (hyps ++ more ∷ []) goal ≡ Some c → IsEnough hyps goal more
unfolding suggested
found_is_enough hyps goal more c h =
    let f = search_sound MOST_DEPTH (hyps ++ more ∷ []) goal c h in
    record { cert = c; found = record { in_class = f.passes; valid = rw f.free refl } }

pub is_enough : (hyps : List Term) (goal more : Term) → IsTrue (would_help hyps goal more) → IsEnough hyps goal more
is_enough hyps goal more = at (suggested (hyps ++ more ∷ []) goal) refl
  where
    at : (o : Option Cert) → suggested (hyps ++ more ∷ []) goal ≡ o → IsTrue (is_some o) → IsEnough hyps goal more
    at (Some c) h is = found_is_enough hyps goal more c h
    at None h is = let f : false ≡ true = is in cc

-- Hopeless ------------------------------------------------------------------------------------------------------

module _ (m : List ℕ) where
  -- one of some expressions that hold
  one_holds : (es : List Term) (e : Term) → has_term es e ≡ true → AllHold es m → Holds e m
  one_holds [] e has hold = let f : false ≡ true = has in cc
  one_holds (f ∷ fs) e has hold = elim (or_cases (same f e) (has_term fs e) has) [
    | inl first ↦ subst (λ g. Holds g m) (same_is f e first) hold.0
    | inr later ↦ one_holds fs e later hold.1
  ]

  -- each of others that are among them
  others_hold : (es known : List Term) → list_all (has_term es) known ≡ true → AllHold es m → AllHold known m
  others_hold es [] all hold = tt
  others_hold es (e ∷ known) all hold = (
    one_holds es e (left_true (has_term es e) (list_all (has_term es) known) all) hold,
    others_hold es known (right_true (has_term es e) (list_all (has_term es) known) all) hold,
  )

pub is_without_hope : (hyps : List Term) (goal : Term) (more : List Term) → IsTrue (is_hopeless hyps goal more)
    → (known : List Term) → IsTrue (list_all (has_term (hyps ++ more)) known) → (c : Cert) → CertHasWords c → IsTrue (is_valid known goal c) → ⊥
is_without_hope hyps goal more h known among c words valid = at (counterexample (hyps ++ more) goal) refl h
  where
    at : (o : Option (List Binding)) → counterexample (hyps ++ more) goal ≡ o → IsTrue (is_some o) → ⊥
    at None is some = let f : false ≡ true = some in cc
    at (Some m) is some =
        let b = found_breaks (hyps ++ more) goal m is in
        valid_entails known goal c words valid (memory m) b.words (others_hold (memory m) (hyps ++ more) known among b.hold) b.fails
