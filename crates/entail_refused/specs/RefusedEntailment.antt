-- The entailment that a refusal for want of a valid certificate (V9) is about.
use Rattle.std.specs.Prelude.{◌≡◌, ℕ, ◌<◌, List, length, Bool, false, Some, unwrap_or}
use Rattle.cov_ast.specs.Syntax.{Program, auto}
use Rattle.cov_ast.specs.declared.refusal.Detail.TheVariants.{Number}
use Rattle.cov_ast.specs.declared.refusal.Refusal.{Refusal}
use Rattle.entail_cert.specs.Valid.{is_valid}
use Rattle.mode_compat.specs.Compatible.{numbered}
use Rattle.typing_law.specs.ThreadEntailments.{PlacedEntailment, entailment_among, thread_entailments}
use Rattle.entail_refused.specs.Asked.{asked, lines_of_entailment}
use Rattle.entail_refused.specs.GivenCertificates.{cert_of}

-- whether the certificate that a thread gives for an entailment is valid; `auto` stands for one that isn't given
abbrev pub has_valid_certificate : Program → (t : ℕ) → PlacedEntailment → Bool
has_valid_certificate p t g = is_valid g.entailment.hyps g.entailment.goal (unwrap_or (cert_of (numbered p t).body g.place g.number) auto)

-- A refusal names an entailment of a thread: of those that are reached it is the first with the place and the number of the
-- refusal, and it has no valid certificate.
pub record NamesUnproved (p : Program) (t : ℕ) (r : Refusal) : Type 0 where
  pub of_thread : r.thread ≡ Some t
  pub named : PlacedEntailment
  pub placed : named.place ≡ r.place
  pub counted : r.detail ≡ Number named.number
  pub first : entailment_among (thread_entailments p t) r.place named.number ≡ Some named
  pub unproved : has_valid_certificate p t named ≡ false

-- A refusal of a program, which these bytes spell, names an entailment of one of its threads, and that is what is told of.
pub record IsToldOf (p : Program) (bytes : List ℕ) (r : Refusal) : Type 0 where
  pub thread : ℕ
  pub inside : thread < length p.threads
  pub names : NamesUnproved p thread r
  pub told : asked p bytes r.rule r.thread r.place r.detail ≡ lines_of_entailment p bytes thread (Some names.named)
