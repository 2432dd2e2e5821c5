-- What searches come to for entailments, by the places of their statements.
use Rattle.std.specs.Prelude.{ℕ, ◌==◌, List, [], ◌∷◌, ◌++◌, get_or, if◌then◌else◌, Option, Some, None}
use Rattle.cov_ast.specs.Syntax.{Cert}
use Rattle.policy_class.specs.Resolved.{resolved_cert}
use Rattle.typing_rules.specs.Keeping.{SearchedEntailment}
use Rattle.annotate.specs.Annotated.{as_choice}
use Rattle.annotate.specs.declared.outcome.Open.{Open}

-- a choice with other numbers for the variables of its certificate: those of a list, and one past its end
abbrev pub renumbered : List ℕ × ℕ → ℕ × Cert → ℕ × Cert
renumbered numbers c = (c.0, resolved_cert (λ x. get_or numbers.0 x numbers.1) (λ l. l) c.1)

-- what is found for the statement at a place
abbrev pub found_at : List SearchedEntailment → (place : ℕ) → List (ℕ × Cert)
found_at [] place = []
found_at (s ∷ ss) place = (if s.place == place then as_choice s.number s.found else []) ++ found_at ss place

abbrev pub unless_found : Open → Option Cert → List Open
unless_found entailment None = entailment ∷ []
unless_found entailment (Some c) = []

-- those of a thread for which nothing is found
abbrev pub opens : (t : ℕ) → List SearchedEntailment → List Open
opens t [] = []
opens t (s ∷ ss) = unless_found (record { thread = t; place = s.place; number = s.number }) s.found ++ opens t ss
