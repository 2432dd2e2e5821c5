-- What a walk answers where obligations hold, and where one doesn't, and what it has kept by then.
use Rattle.std.specs.Prelude.{◌≡◌, List, ◌++◌, map, None, Some}
use Rattle.cov_ast.specs.Obligations.{Obligation, first_false}
use Rattle.cov_ast.specs.declared.refusal.CheckFault.{CheckFault}
use Rattle.cov_ast.specs.declared.refusal.CheckFault.TheVariants.{Refused, NoMemory}
use Rattle.typing_law.specs.ThreadEntailments.{PlacedEntailment}
use Rattle.typing_rules.specs.Keeping.{asked_among, kept_for, looked_at, view_kept}
use Rattle.typing_rules.specs.declared.kept.Kept.{Kept}
use Rattle.typing_rules.specs.declared.purpose.Purpose.{Purpose}

-- Of the entailments of these obligations, those that are reached and that the walk keeps were added to those before.
abbrev pub Adds : Purpose → List Obligation → List PlacedEntailment → (before after : List Kept) → Type 0
Adds u obligations entailments before after =
    map view_kept after ≡ map view_kept before ++ kept_for u (asked_among obligations entailments)

-- Each of the obligations holds that the walk looks at.
abbrev pub Passes : Purpose → List Obligation → List PlacedEntailment → (before after : List Kept) → Type 0
Passes u obligations entailments before after = (first_false (looked_at u obligations) ≡ None) × Adds u obligations entailments before after

-- This is the first of them that doesn't hold, unless memory ran out.
abbrev pub Stops : Purpose → List Obligation → List PlacedEntailment → (before after : List Kept) → CheckFault → Type 0
Stops u obligations entailments before after (Refused refusal) =
    (first_false (looked_at u obligations) ≡ Some refusal) × Adds u obligations entailments before after
Stops u obligations entailments before after NoMemory = Unit {0}
