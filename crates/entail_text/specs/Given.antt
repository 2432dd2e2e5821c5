-- The certificate that a statement gives for the entailment of a number.
use Rattle.std.specs.Prelude.{ℕ, ◌==◌, List, [], ◌∷◌, Option, Some, None, if◌then◌else◌}
use Rattle.cov_ast.specs.Syntax.{Proof, Cert}

-- the first that is given for it
abbrev pub cert_for : List Proof → (number : ℕ) → Option Cert
cert_for [] number = None
cert_for (p ∷ ps) number = if p.number == number then Some p.cert else cert_for ps number
