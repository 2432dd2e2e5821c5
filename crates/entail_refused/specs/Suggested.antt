-- The certificate that is found for the entailment for which a program is refused, as `by` gives it; and refusals by whether one is found.
use Rattle.std.specs.Prelude.{ℕ, nat_lt, List, [], ◌∷◌, length, flat_map, if◌then◌else◌, Option, Some, None}
use Rattle.cov_ast.specs.Syntax.{Program}
use Rattle.cov_ast.specs.declared.refusal.Refusal.{Refusal}
use Rattle.cov_ast.specs.declared.refusal.Rule.{Rule}
use Rattle.cov_ast.specs.declared.refusal.Rule.TheVariants.{V9}
use Rattle.cov_ast.specs.declared.refusal.Detail.{Detail}
use Rattle.cov_ast.specs.declared.refusal.Detail.TheVariants.{Number}
use Rattle.cov_print.specs.Spelling.{Names}
use Rattle.entail_text.specs.Findings.{Finding, shown, broken, neither, found_for}
use Rattle.entail_text.specs.Suggestions.{entry}
use Rattle.text_parts.specs.VariableNames.{variable_names}
use Rattle.typing_law.specs.ThreadEntailments.{PlacedEntailment}
use Rattle.entail_refused.specs.Asked.{entailment_in}
use Rattle.entail_refused.specs.declared.suggested.Found.{Found}

-- by what is found for the entailment of a number
abbrev pub entry_by : Names → (number : ℕ) → Finding → Option (List ℕ)
entry_by names number (shown c) = Some (entry names number c)
entry_by names number (broken m) = None
entry_by names number neither = None

-- a refusal by whether one is found
abbrev pub open_by : Refusal → (entry : Option (List ℕ)) → List Refusal
open_by r None = r ∷ []
open_by r (Some entry) = []

abbrev pub found_by : Refusal → (entry : Option (List ℕ)) → List Found
found_by r None = []
found_by r (Some entry) = record { refusal = r; entry = entry } ∷ []

module _ (p : Program) where
  abbrev pub entry_for : Option PlacedEntailment → Option (List ℕ)
  entry_for None = None
  entry_for (Some g) = entry_by (variable_names p.vars) g.number (found_for g.entailment.hyps g.entailment.goal)

  -- of the entailment of a number at a place, where the program has so many threads
  abbrev pub entry_of : (t place number : ℕ) → Option (List ℕ)
  entry_of t place number = if nat_lt t (length p.threads) then entry_for (entailment_in p t place number) else None

  -- of the entailment that a refusal for V9 names, by its thread, its place and its number
  abbrev pub entry_named : (thread : Option ℕ) → (place : ℕ) → Detail → Option (List ℕ)
  entry_named (Some t) place (Number n) = entry_of t place n
  entry_named thread place detail = None

  -- where a rule is broken: of V9
  abbrev pub entry_of_rule : Rule → (thread : Option ℕ) → (place : ℕ) → Detail → Option (List ℕ)
  entry_of_rule V9 thread place detail = entry_named thread place detail
  entry_of_rule rule thread place detail = None

  unfoldable pub suggested_entry : Refusal → Option (List ℕ)
  suggested_entry r = entry_of_rule r.rule r.thread r.place r.detail

  -- of several refusals those for which none is found, and the others
  abbrev pub open_among : List Refusal → List Refusal
  open_among rs = flat_map (λ r. open_by r (suggested_entry r)) rs

  abbrev pub found_among : List Refusal → List Found
  found_among rs = flat_map (λ r. found_by r (suggested_entry r)) rs
