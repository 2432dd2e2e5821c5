-- The annotated program, into which a search puts certificates, and which of its entailments are open.
--
-- An entailment keeps its certificate where that is valid. Where it isn't, and the class of a depth has a valid one, it has the first that the search
-- comes to. Else it keeps what it has, and is open.
use Rattle.std.specs.Prelude.{◌≡◌, ◌⊎◌, ℕ, ◌==◌, List, [], ◌∷◌, ◌++◌, map, filter, flat_map, All, Contains, true, false, not, if◌then◌else◌, Option, Some, None}
use Rattle.cov_expr.specs.Words.{HasVarsBelow, HasWords}
use Rattle.cov_ast.specs.Obligations.{first_false}
use Rattle.cov_ast.specs.Syntax.{Cert, Proof, Block, Program}
use Rattle.cov_ast.specs.declared.refusal.Refusal.{Refusal}
use Rattle.mode_compat.specs.Compatible.{numbered, threads_of}
use Rattle.typing_law.specs.Accepted.{program_obligations}
use Rattle.typing_law.specs.Entailments.{Entailment, cert_for, is_proved}
use Rattle.typing_law.specs.ThreadEntailments.{PlacedEntailment, is_proved_in, proofs_at, thread_entailments}
use Rattle.cert_search.specs.Classes.{IsFound, HasNone}
use Rattle.cert_search.specs.Searching.{search}
use Rattle.annotate.specs.WithCertificates.{put_in_program}
use Rattle.annotate.specs.declared.outcome.Open.{Open}

-- What a body has for an entailment ----------------------------------------------------------------------------

-- the certificate of an entailment
abbrev pub cert_of : Block → PlacedEntailment → Cert
cert_of body g = cert_for (proofs_at body g.place) g.number

-- What is chosen -----------------------------------------------------------------------------------------------

-- what the search of a depth comes to for an entailment
abbrev pub searched : (depth : ℕ) → PlacedEntailment → Option Cert
searched depth g = search depth g.entailment.hyps g.entailment.goal

-- for an entailment without a valid certificate what the search comes to
abbrev pub found_for : (depth : ℕ) → Block → PlacedEntailment → Option Cert
found_for depth body g = if is_proved_in body g then None else searched depth g

-- what is found for a number, as what is chosen: nothing where nothing is found
abbrev pub as_choice : (number : ℕ) → Option Cert → List (ℕ × Cert)
as_choice number None = []
as_choice number (Some c) = (number, c) ∷ []

-- of entailments, for those of the statement at a place
abbrev pub choices_among : (depth : ℕ) → Block → List PlacedEntailment → (place : ℕ) → List (ℕ × Cert)
choices_among depth body [] place = []
choices_among depth body (g ∷ gs) place =
    (if g.place == place then as_choice g.number (found_for depth body g) else []) ++ choices_among depth body gs place

-- for each entailment that is listed of a thread
abbrev pub choices : (depth : ℕ) → Program → (t place : ℕ) → List (ℕ × Cert)
choices depth p t place = choices_among depth (numbered p t).body (thread_entailments p t) place

-- the program with what is chosen
abbrev pub annotated : (depth : ℕ) → Program → Program
annotated depth p = put_in_program (choices depth p) p

-- What is chosen for a number at a place is found for an entailment that is listed, of the statement there, without a valid certificate.
pub record IsChoice (depth : ℕ) (p : Program) (t place : ℕ) (choice : ℕ × Cert) : Type 0 where
  pub of : PlacedEntailment
  pub listed : Contains (thread_entailments p t) of
  pub place_is : of.place ≡ place
  pub number_is : of.number ≡ choice.0
  pub invalid : is_proved_in (numbered p t).body of ≡ false
  pub found : searched depth of ≡ Some choice.1

-- What an entailment has after, by the proofs of its statement before and after: a valid certificate stays. Else there is a valid one of the class; or the class
-- has none, and what there was stays.
abbrev pub IsAnnotated : (depth : ℕ) → (before after : List Proof) → PlacedEntailment → Type 0
IsAnnotated depth before after g =
    (is_proved before g.number g.entailment ≡ true → cert_for after g.number ≡ cert_for before g.number)
    × (is_proved before g.number g.entailment ≡ false
    → IsFound depth g.entailment.hyps g.entailment.goal (cert_for after g.number)
    ⊎ (HasNone depth g.entailment.hyps g.entailment.goal × (cert_for after g.number ≡ cert_for before g.number)))

-- The expressions of an entailment are of words, and of variables below a bound.
pub record IsOfWordsBelow (vars : ℕ) (g : Entailment) : Type 0 where
  pub hyps_below : All (λ h. HasVarsBelow h vars) g.hyps
  pub hyp_words : All HasWords g.hyps
  pub goal_below : HasVarsBelow g.goal vars
  pub goal_words : HasWords g.goal

-- What is open -------------------------------------------------------------------------------------------------

-- an entailment of a thread, by its thread, the place of its statement, and its number there
abbrev pub open_of : (t : ℕ) → PlacedEntailment → Open
open_of t g = record { thread = t; place = g.place; number = g.number }

-- those listed of a thread of which the certificate isn't valid
abbrev pub open_in_thread : Program → (t : ℕ) → List PlacedEntailment
open_in_thread p t = filter (λ g. not (is_proved_in (numbered p t).body g)) (thread_entailments p t)

-- those of a program, thread by thread, in the order in which they are tried
abbrev pub open_in : Program → List Open
open_in p = flat_map (λ t. map (open_of t) (open_in_thread p t)) (threads_of p)

-- the open entailments of the annotated program
abbrev pub unproved : (depth : ℕ) → Program → List Open
unproved depth p = open_in (annotated depth p)

-- the first obligation of the annotated program that doesn't hold, where its names are in order
abbrev pub first_refused : (depth : ℕ) → Program → Option Refusal
first_refused depth p = first_false (program_obligations (annotated depth p))
