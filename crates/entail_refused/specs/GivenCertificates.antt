-- The certificate that a thread gives for an entailment: of the statement at its place, which is that of no other statement of the thread,
-- the one for its number there.
use Rattle.std.specs.Prelude.{ℕ, Option, Some, None}
use Rattle.cov_ast.specs.Syntax.{Block, Cert}
use Rattle.entail_text.specs.Given.{cert_for}
use Rattle.statement_paths.specs.Paths.{Way, way_to}

-- of the statement at the end of a way, if there is one
abbrev pub cert_among : Option Way → (number : ℕ) → Option Cert
cert_among None number = None
cert_among (Some w) number = cert_for w.proofs number

-- of the statement at a place of a thread's text
abbrev pub cert_of : Block → (place number : ℕ) → Option Cert
cert_of body place number = cert_among (way_to body place) number
