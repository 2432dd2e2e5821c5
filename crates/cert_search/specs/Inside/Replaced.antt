-- The hypothesis that a replacement in another makes.
use Rattle.std.specs.Prelude.{ℕ}
use Rattle.cov_expr.specs.Term.{Term}
use Rattle.entail_cert.specs.Valid.{filled}
use Rattle.cert_search.specs.Classes.{opened}

-- an expression with another in the place of each occurrence of a variable, and of each hole
abbrev pub replaced : Term → ℕ → Term → Term
replaced h x e = filled (opened h x) e
