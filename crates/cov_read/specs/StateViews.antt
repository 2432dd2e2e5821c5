-- States without where their lists lie.
use Rattle.std.specs.Prelude.{ℕ, map}
use Rattle.cov_expr.specs.Term.{Term}
use Rattle.cov_read.specs.declared.state.Typed.{Typed}
use Rattle.cov_read.specs.declared.state.PlacedState as code
use Rattle.cov_read.specs.CertViews.{whole, cert}
use Rattle.cov_grammar.specs.PlacedTrees.{Placed, State}
use Rattle.cov_grammar.specs.PlacedTrees as t
use Rattle.cov_read.specs.declared.state.PlacedProof.{PlacedProof}

abbrev pub typed : Typed → ℕ × Placed Term
typed t = (t.name, whole t.class)

abbrev pub state : code.PlacedState → State
state s = record { at = s.at; preds = map whole s.preds; types = map typed s.types }

abbrev pub proof : PlacedProof → ℕ × Placed t.Cert
proof p = (p.number, (p.at, cert p.cert))
