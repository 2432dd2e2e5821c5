-- What is chosen for statements, as the code keeps it.
use Rattle.std.specs.Prelude.{ℕ, nat_eq, List, [], map, slice_get, Option, Some, None}
use Rattle.indexmap.specs.IndexMap.{get}
use Rattle.cov_ast.specs.Syntax.{Cert}
use Rattle.cov_ast.specs.View as view
use Rattle.std.specs.Borrow.{Bor}
use Rattle.cov_ast.specs.declared.cert.Cert.{Cert as CertTree}
use Rattle.annotate.specs.declared.choices.Choice.{Choice}
use Rattle.annotate.specs.declared.choices.ThreadChoices.{ThreadChoices}

-- a choice as plain data
abbrev pub view_choice : Choice → ℕ × Cert
view_choice c = (c.number, view.cert c.cert)

-- a choice, and a certificate, that is lent
abbrev pub lent_choice : Bor Choice → ℕ × Cert
lent_choice c = view_choice c.now

abbrev pub lent_cert : Bor CertTree → Cert
lent_cert c = view.cert c.now

abbrev pub view_choices : Option (List Choice) → List (ℕ × Cert)
view_choices None = []
view_choices (Some cs) = map view_choice cs

-- what is chosen for the statement at a place
abbrev pub chosen_at : ThreadChoices → (place : ℕ) → List (ℕ × Cert)
chosen_at c place = view_choices (get nat_eq c.by_place place)

-- of threads, for the statement at a place in the thread of a number
abbrev pub chosen_of : Option ThreadChoices → (place : ℕ) → List (ℕ × Cert)
chosen_of None place = []
chosen_of (Some c) place = chosen_at c place

abbrev pub chosen_in : List ThreadChoices → (t place : ℕ) → List (ℕ × Cert)
chosen_in cs t = chosen_of (slice_get cs t)
