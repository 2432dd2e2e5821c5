-- Words of a walk that puts certificates among the proofs of statements.
use Rattle.std.specs.Prelude.{ℕ, List, unwrap_or}
use Rattle.cov_ast.specs.Syntax.{Cert, Proof}
use Rattle.cov_ast.specs.View.{Placed}
use Rattle.annotate.specs.WithCertificates.{chosen_for, put_in_stm, with_certs}

-- a proof with what is chosen for its number
abbrev pub with_chosen : List (ℕ × Cert) → Proof → Proof
with_chosen chosen q = record { number = q.number; cert = unwrap_or (chosen_for chosen q.number) q.cert }

-- a statement with its place and its proofs, with what is chosen for it and for those in it
abbrev pub put_in_stmt : (chosen : (place : ℕ) → List (ℕ × Cert)) → Placed → Placed
put_in_stmt chosen s = record { at = s.at; stm = put_in_stm chosen s.stm; proofs = with_certs (chosen s.at) s.proofs }
