-- What is suggested is valid, and where neither a certificate nor a memory is found, the first search has found none.
use Rattle.std.proofs.Common.{◌≡◌, List, Bool, true, false, IsTrue, Option, Some, None, Ok, ◌⊎◌, inl, inr, refl, sym, ◌∙◌, ap, if◌then◌else◌}
use Rattle.cert_search.specs.Classes.{HasNone, IsFound}
use Rattle.cert_search.specs.declared.finder.TheConstants.{MOST_DEPTH}
use Rattle.cert_search.proofs.Sound.{search_sound}
use Rattle.cert_search.proofs.Told.{told}
use Rattle.cov_ast.specs.Syntax.{Cert}
use Rattle.cov_expr.specs.Term.{Term}
use Rattle.entail_cert.specs.Valid.{is_valid}
use Rattle.entail_counter.specs.Counterexamples.{counterexample}
use Rattle.entail_counter.specs.declared.binding.Binding.{Binding}
use Rattle.entail_search.specs.Deeper.{deeper}
use Rattle.entail_search.specs.Sound.{IsSound}
use Rattle.entail_search.proofs.Sound.{deeper_sound}
use Rattle.entail_text.specs.Findings.{shown, broken, neither, are_small, by_deeper, by_memory, deeper_suggested, finding, found_for, suggested}

-- Of each search ------------------------------------------------------------------------------------------------

by_first : (hyps : List Term) (goal : Term) (c : Cert) → suggested hyps goal ≡ Some c → IsFound MOST_DEPTH hyps goal c
unfolding suggested
by_first hyps goal c h =
    let f = search_sound MOST_DEPTH hyps goal c h in
    record { in_class = f.passes; valid = rw f.free refl }

none_first : (hyps : List Term) (goal : Term) → suggested hyps goal ≡ None → HasNone MOST_DEPTH hyps goal
unfolding suggested
none_first hyps goal h = told MOST_DEPTH hyps goal (Ok None) (sym h)

where_small : (small : Bool) (o : Option Cert) (c : Cert) → (if small then o else None) ≡ Some c → o ≡ Some c
where_small true o c h = h
where_small false o c h = let f : ◌≡◌ {A = Option Cert} None (Some c) = h in absurd cc

by_second : (hyps : List Term) (goal : Term) (c : Cert) → deeper_suggested hyps goal ≡ Some c → IsSound hyps goal c
unfolding deeper_suggested
by_second hyps goal c h = deeper_sound hyps goal c (where_small (are_small hyps goal) (deeper hyps goal) c h)

-- What is shown -------------------------------------------------------------------------------------------------

same_cert : {c d : Cert} → shown c ≡ shown d → c ≡ d
same_cert {c} {d} h = cc

-- of a certificate that is suggested, by which search it comes
pub is_suggested : (hyps : List Term) (goal : Term) (c : Cert) → found_for hyps goal ≡ shown c → IsFound MOST_DEPTH hyps goal c ⊎ IsSound hyps goal c
is_suggested hyps goal c = by_case (suggested hyps goal) refl
  where
    third : (o : Option Cert) → deeper_suggested hyps goal ≡ o → by_deeper o ≡ shown c → IsFound MOST_DEPTH hyps goal c ⊎ IsSound hyps goal c
    third (Some d) is h = inr (by_second hyps goal c (is ∙ ap Some (same_cert h)))
    third None is h = let f : neither ≡ shown c = h in cc

    second : (o : Option (List Binding)) → by_memory hyps goal o ≡ shown c → IsFound MOST_DEPTH hyps goal c ⊎ IsSound hyps goal c
    second (Some m) h = let f : broken m ≡ shown c = h in cc
    second None h = third (deeper_suggested hyps goal) refl h

    by_case : (o : Option Cert) → suggested hyps goal ≡ o → finding hyps goal o ≡ shown c → IsFound MOST_DEPTH hyps goal c ⊎ IsSound hyps goal c
    by_case (Some d) is h = inl (by_first hyps goal c (is ∙ ap Some (same_cert h)))
    by_case None is h = second (counterexample hyps goal) h

pub is_valid_one : (hyps : List Term) (goal : Term) (c : Cert) → found_for hyps goal ≡ shown c → IsTrue (is_valid hyps goal c)
is_valid_one hyps goal c h = elim (is_suggested hyps goal c h) [
  | inl found ↦ found.valid
  | inr sound ↦ sound.valid
]

-- where neither is found
pub has_none : (hyps : List Term) (goal : Term) → found_for hyps goal ≡ neither → HasNone MOST_DEPTH hyps goal
has_none hyps goal = by_case (suggested hyps goal) refl
  where
    by_case : (o : Option Cert) → suggested hyps goal ≡ o → finding hyps goal o ≡ neither → HasNone MOST_DEPTH hyps goal
    by_case (Some c) is h = let f : shown c ≡ neither = h in absurd cc
    by_case None is h = none_first hyps goal is
