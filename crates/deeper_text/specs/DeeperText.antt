-- The text of a program into which a deeper search puts certificates, for entailments that the search of the greatest depth leaves open.
use Rattle.std.specs.Prelude.{◌≡◌, ℕ, ◌==◌, nat_lt, List, [], ◌∷◌, ◌++◌, length, take, flat_map, ◌&&◌, if◌then◌else◌, Option, Some, None, Contains, IsTrue}
use Rattle.annotate.specs.Annotated.{unproved}
use Rattle.annotate.specs.AnnotatedText.{with_choices}
use Rattle.annotate.specs.declared.outcome.Open.{Open}
use Rattle.cert_search.specs.declared.finder.TheConstants.{MOST_DEPTH}
use Rattle.cov_ast.specs.Syntax.{Cert, Parsed, Program}
use Rattle.deeper_text.specs.declared.found.TheConstants.{MOST_TRIED}
use Rattle.entail_cert.specs.Valid.{is_valid}
use Rattle.entail_text.specs.Findings.{Finding, broken, found_for, neither, shown}
use Rattle.policy_class.specs.Resolved.{resolved}
use Rattle.typing_law.specs.ThreadEntailments.{PlacedEntailment, entailment_among, thread_entailments}

-- What is found -------------------------------------------------------------------------------------------------

-- A certificate for an entailment of a program, by its thread, the place of its statement, and its number there.
pub record Found : Type 0 where
  pub thread : ℕ
  pub place : ℕ
  pub number : ℕ
  pub cert : Cert

-- a certificate that is found, for an open entailment
abbrev pub found_by : Open → Finding → List Found
found_by o (shown c) = record { thread = o.thread; place = o.place; number = o.number; cert = c } ∷ []
found_by o (broken m) = []
found_by o neither = []

-- by its hypotheses and its goal, if it is listed
abbrev pub found_where : Open → Option PlacedEntailment → List Found
found_where o None = []
found_where o (Some g) = found_by o (found_for g.entailment.hyps g.entailment.goal)

abbrev pub found_of : Program → Open → List Found
found_of p o = if nat_lt o.thread (length p.threads) then found_where o (entailment_among (thread_entailments p o.thread) o.place o.number) else []

-- for each of some open entailments
abbrev pub all_found : Program → List Open → List Found
all_found p os = flat_map (found_of p) os

-- The search is made for so many of those that stay open where certificates of the greatest depth are searched.
abbrev pub tried : Program → List Open
tried p = take MOST_TRIED (unproved MOST_DEPTH p)

-- What is chosen ------------------------------------------------------------------------------------------------

-- of what is found, that for the statement of a thread at a place
abbrev pub chosen_among : List Found → (t place : ℕ) → List (ℕ × Cert)
chosen_among [] t place = []
chosen_among (f ∷ fs) t place = (if f.thread == t && f.place == place then (f.number, f.cert) ∷ [] else []) ++ chosen_among fs t place

abbrev pub deeper_choices : Program → (t place : ℕ) → List (ℕ × Cert)
deeper_choices p t place = chosen_among (all_found p (tried p)) t place

-- the text with that
abbrev pub deeper_text : Parsed → Parsed
deeper_text p = with_choices (deeper_choices (resolved p)) p

-- What is chosen for a number at a place is a valid certificate of an entailment that is listed there.
pub record IsValidChoice (p : Program) (t place : ℕ) (choice : ℕ × Cert) : Type 0 where
  pub of : PlacedEntailment
  pub listed : Contains (thread_entailments p t) of
  pub place_is : of.place ≡ place
  pub number_is : of.number ≡ choice.0
  pub valid : IsTrue (is_valid of.entailment.hyps of.entailment.goal choice.1)
