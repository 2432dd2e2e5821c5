-- Words of contracts that no public function has: a statement with its place and its proofs.
use Rattle.std.specs.Prelude.{ℕ, map, All}
use Rattle.cov_ast.specs.View.{Placed}
use Rattle.cov_ast.specs.WellFormed.{CertHasWords, StmHasWords}
use Rattle.policy_class.specs.Resolved.{resolved_stm, resolved_proof}

abbrev pub resolved_stmt : (to_var to_lock : ℕ → ℕ) → Placed → Placed
resolved_stmt to_var to_lock s = record {
  at = s.at;
  stm = resolved_stm to_var to_lock s.stm;
  proofs = map (resolved_proof to_var to_lock) s.proofs;
}

-- each expression of a statement and of its certificates is of words
abbrev pub StmtHasWords : Placed → Type 0
StmtHasWords s = StmHasWords s.stm × All (λ p. CertHasWords p.cert) s.proofs
