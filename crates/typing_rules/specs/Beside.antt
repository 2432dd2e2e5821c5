-- What has to hold of a thread beside its certificates.
use Rattle.std.specs.Prelude.{ℕ, List, filter}
use Rattle.cov_ast.specs.Obligations.{Obligation}
use Rattle.cov_ast.specs.Syntax.{Program}
use Rattle.typing_law.specs.ThreadObligations.{thread_obligations}
use Rattle.typing_rules.specs.Keeping.{is_other}

-- the obligations of a thread that aren't about certificates
abbrev pub beside_certificates : Program → (t : ℕ) → List Obligation
beside_certificates p t = filter is_other (thread_obligations p t)
