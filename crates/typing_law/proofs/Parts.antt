-- Where every obligation of a program holds, those of its declarations and those of each thread hold.
use Rattle.std.proofs.Common.{◌≡◌, ℕ, zero, suc, ◌+◌, ◌<◌, List, IsTrue, length, subst, arith}
use Rattle.std.specs.List.{flat_map, range_with_len}
use Rattle.cov_ast.specs.Syntax.{Program}
use Rattle.cov_ast.specs.Obligations.{Obligation, all_hold}
use Rattle.cov_ast.proofs.ObligationLaws.{both_hold}
use Rattle.mode_compat.specs.Compatible.{threads_of}
use Rattle.mode_compat.specs.Declared.{declaration_obligations}
use Rattle.typing_law.specs.ThreadObligations.{thread_obligations}
use Rattle.typing_law.specs.Accepted.{IsAccepted}

-- of one of the numbers from another on
numbered_hold : (g : ℕ → List Obligation) (from n i : ℕ) → i < n → IsTrue (all_hold (flat_map g (range_with_len from n))) → IsTrue (all_hold (g (from + i)))
numbered_hold g from zero i inside h = let no : ⊥ = omega arith in absurd no
numbered_hold g from (suc n) zero inside h =
    let same : from ≡ from + 0 = omega arith in
    subst (λ x. IsTrue (all_hold (g x))) same (both_hold (g from) (flat_map g (range_with_len (from + 1) n)) h).0
numbered_hold g from (suc n) (suc i) inside h =
    let same : from + 1 + i ≡ from + suc i = omega arith in
    subst (λ x. IsTrue (all_hold (g x))) same
    (numbered_hold g (from + 1) n i (omega arith) (both_hold (g from) (flat_map g (range_with_len (from + 1) n)) h).1)

module _ (p : Program) (accepted : IsAccepted p) where
  pub declarations_hold : IsTrue (all_hold (declaration_obligations p))
  declarations_hold = (both_hold (declaration_obligations p) (flat_map (thread_obligations p) (threads_of p)) accepted).0

  pub thread_holds : (t : ℕ) → t < length p.threads → IsTrue (all_hold (thread_obligations p t))
  thread_holds t inside =
      let same : 0 + t ≡ t = omega arith in
      subst (λ x. IsTrue (all_hold (thread_obligations p x))) same
      (numbered_hold (thread_obligations p) 0 (length p.threads) t inside (both_hold (declaration_obligations p) (flat_map (thread_obligations p) (threads_of p)) accepted).1)
