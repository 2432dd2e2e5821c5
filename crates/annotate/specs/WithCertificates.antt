-- Certificates put into a program: for each place of a statement, certificates that are chosen for numbers of its entailments. Nothing else changes.
use Rattle.std.specs.Prelude.{ℕ, suc, ◌<◌, ◌==◌, List, [], ◌∷◌, map, filter, Bool, not, if◌then◌else◌, Option, Some, None, unwrap_or}
use Rattle.std.specs.List.{list_any}
use Rattle.cov_ast.specs.Syntax.{Cert, Proof, Stm, Block, Thread, Program}
use Rattle.statement_parts.specs.Mapped.{mapped, mapped_in, same_parts}

-- Proofs of a statement ----------------------------------------------------------------------------------------

-- the certificate that is chosen for a number, if one is: the first
abbrev pub chosen_for : List (ℕ × Cert) → ℕ → Option Cert
chosen_for [] n = None
chosen_for (c ∷ cs) n = if c.0 == n then Some c.1 else chosen_for cs n

-- what is chosen for other numbers
abbrev pub for_others : ℕ → List (ℕ × Cert) → List (ℕ × Cert)
for_others n [] = []
for_others n (c ∷ cs) = if c.0 == n then for_others n cs else c ∷ for_others n cs

-- the proof that gives a chosen certificate for its number
abbrev pub proof_of : ℕ × Cert → Proof
proof_of c = record { number = c.0; cert = c.1 }

-- The proofs of a statement with chosen certificates. The first proof of a number has the one that is chosen for it, and keeps its place; those that
-- are chosen for numbers without a proof stand behind, in their order. Further proofs of a number stay.
abbrev pub with_certs : List (ℕ × Cert) → List Proof → List Proof
with_certs chosen [] = map proof_of chosen
with_certs chosen (q ∷ qs) =
    record { number = q.number; cert = unwrap_or (chosen_for chosen q.number) q.cert } ∷ with_certs (for_others q.number chosen) qs

-- whether a proof of a number is given
abbrev pub is_given : List Proof → ℕ → Bool
is_given proofs n = list_any (λ q. q.number == n) proofs

-- of what is chosen, that for which no proof is given
abbrev pub new_among : List (ℕ × Cert) → List Proof → List (ℕ × Cert)
new_among chosen proofs = filter (λ c. not (is_given proofs c.0)) chosen

-- Each number is greater than the one before it, and the first greater than another.
abbrev pub AreRisingAbove : (above : ℕ) → List ℕ → Type 0
AreRisingAbove m [] = Unit {0}
AreRisingAbove m (n ∷ ns) = (m < n) × AreRisingAbove n ns

-- Statements and blocks ----------------------------------------------------------------------------------------

-- the same statements with other proofs, which are made of each statement, its place and the proofs that it has
module _ (made : Stm → (place : ℕ) → List Proof → List Proof) where
  abbrev pub with_proofs_stm : Stm → Stm
  with_proofs_stm c = mapped (record same_parts { proofs = made }) c

  abbrev pub with_proofs : Block → Block
  with_proofs b = mapped_in (record same_parts { proofs = made }) b

module _ (chosen : (place : ℕ) → List (ℕ × Cert)) where
  abbrev pub put_in_stm : Stm → Stm
  put_in_stm c = with_proofs_stm (λ _ at proofs. with_certs (chosen at) proofs) c

  abbrev pub put_in : Block → Block
  put_in b = with_proofs (λ _ at proofs. with_certs (chosen at) proofs) b

  abbrev pub put_in_thread : Thread → Thread
  put_in_thread h = record { name = h.name; at = h.at; modes = h.modes; body = put_in h.body; end = h.end }

-- threads, numbered from a number on, each with what is chosen for it
abbrev pub put_in_threads : (chosen : (t place : ℕ) → List (ℕ × Cert)) → (t : ℕ) → List Thread → List Thread
put_in_threads chosen t [] = []
put_in_threads chosen t (h ∷ hs) = put_in_thread (chosen t) h ∷ put_in_threads chosen (suc t) hs

-- by the number of a thread and the place of a statement in it
abbrev pub put_in_program : (chosen : (t place : ℕ) → List (ℕ × Cert)) → Program → Program
put_in_program chosen p = record { version = p.version; vars = p.vars; locks = p.locks; threads = put_in_threads chosen 0 p.threads }

-- Without proofs -----------------------------------------------------------------------------------------------

abbrev pub without_proofs_stm : Stm → Stm
without_proofs_stm c = with_proofs_stm (λ _ at proofs. []) c

-- the same statements, of which none has a proof
abbrev pub without_proofs : Block → Block
without_proofs b = with_proofs (λ _ at proofs. []) b

abbrev pub thread_without_proofs : Thread → Thread
thread_without_proofs h = record { name = h.name; at = h.at; modes = h.modes; body = without_proofs h.body; end = h.end }

abbrev pub program_without_proofs : Program → Program
program_without_proofs p = record { version = p.version; vars = p.vars; locks = p.locks; threads = map thread_without_proofs p.threads }
