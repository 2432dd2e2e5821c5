-- What reading answers is right.
use Rattle.std.proofs.Common.{◌≡◌, ℕ, ◌+◌, List, [], ◌∷◌, refl, ap, sym, ◌∙◌, subst, arith, Some, None, Ok, Err}
use Rattle.risc_machine.specs.Faults.{fault_of, names_of, repeated}
use Rattle.risc_machine.specs.declared.parts.CodeBad.{CodeBad}
use Rattle.risc_machine.specs.declared.parts.CodeBad.TheVariants as bad
use Rattle.risc_machine.specs.declared.parts.Parts.{Parts}
use Rattle.code_text.specs.Inside.Drafts.{Agrees}
use Rattle.code_text.specs.declared.read.Found.{Found}
use Rattle.code_text.specs.Inside.ListingReading.{pieces, row_of, with_row, read_lines, read_text, begun, version_of}
use Rattle.code_text.specs.Listing.{IsListed, IsListingOf}
use Rattle.code_text.specs.ListingAnswers.{IsReading, IsAnswerTo}
use Rattle.code_text.specs.Inside.ListingReading.{Draft}
use Rattle.code_text.specs.declared.fault.CodeFault.{CodeFault}
use Rattle.code_text.specs.declared.fault.CodeFault.TheVariants.{Line, Bad, NoMemory}
use Rattle.code_text.proofs.ChainLaws.{Chain}
use Rattle.code_text.proofs.Complete.{complete, repeated_is_fault, same_fault, faultless_same}
use Rattle.code_text.proofs.Filled.{HasListing, has_listing, is_listed, filled_whole, reached, begun_listing}
use Rattle.code_text.proofs.LineLaws.{faulty_line, unlisted, one_or_two}
use Rattle.code_text.proofs.PhaseLaws.{first_parts}
use Rattle.code_text.proofs.SoundLaws.{Stands, went_on, ended_is, begun_with, text_sound}

-- the rows that were taken, and the last draft, which is whole
abbrev Whole : Draft → Parts → Type 0
Whole d p = (rs : List (List (List ℕ))) × (e : Draft) × Chain d rs e × (e.left ≡ 0) × (e.parts ≡ p)

whole : (ls : List (List ℕ)) (d : Draft) (n : ℕ) (p : Parts) → read_lines ls d n ≡ Ok p → Whole d p
whole [] d n p h = absurd cc
whole (l ∷ []) d n p h = let e = ended_is d n l p h in ([], d, refl, e.1, e.2)
whole (l ∷ m ∷ ls) d n p h =
    let g = went_on n (λ r. read_lines (m ∷ ls) (with_row d r) (n + 1)) (row_of d (pieces 32 l)) p h in
    let k = whole (m ∷ ls) (with_row d g.0) (n + 1) p g.2 in
    (pieces 32 l ∷ k.0, k.1, (g.0, g.1, k.2), k.3, k.4)

read_listed : (ps : List (List ℕ)) (p : Parts) → read_text ps ≡ Ok p → IsListed p
read_listed [] p h = absurd cc
read_listed (l ∷ []) p h = absurd cc
read_listed (l ∷ m ∷ ls) p h =
    let g = begun_with (m ∷ ls) (version_of l) p h in
    let k = whole (m ∷ ls) (begun g.0) 2 p g.2 in
    let none : Stands (begun g.0) = λ some e. omega (arith, some) in
    let r = reached k.0 (begun g.0) k.1 k.2 none (begun_listing g.0 (one_or_two l g.0 g.1)) in
    is_listed p (subst HasListing (filled_whole k.1 k.3 ∙ k.4) r.listing)

module _ (bs : List ℕ) where
  pub listing_read : (p : Parts) → read_text (pieces 10 bs) ≡ Ok p → IsListingOf p bs
  listing_read p h = record { listed = read_listed (pieces 10 bs) p h; spelling = text_sound bs p h }

  pub fault_read : (e : CodeFault) → Agrees {A = Found} (λ found. found.parts) (Err e) (read_text (pieces 10 bs)) → IsReading bs (Err e)
  fault_read (Line n) h = faulty_line bs n h
  fault_read (Bad f) h = absurd h
  fault_read NoMemory h = tt

  pub fault_answers : (e : CodeFault) → Agrees {A = Found} (λ found. found.parts) (Err e) (read_text (pieces 10 bs)) → (p : Parts) → IsListingOf p bs → IsAnswerTo p (Err e)
  fault_answers (Line n) h p g = absurd (unlisted bs n h p g)
  fault_answers (Bad f) h p g = absurd h
  fault_answers NoMemory h p g = tt

  module _ (r p : Parts) (h : read_text (pieces 10 bs) ≡ Ok r) (g : IsListingOf p bs) where
    is_first : first_parts p ≡ r
    is_first = let e : Ok (first_parts p) ≡ Ok r = sym (complete p (has_listing p g.listed)) ∙ ap (λ x. read_text (pieces 10 x)) (sym g.spelling) ∙ h in cc e

    same : fault_of r ≡ fault_of p
    same = ap fault_of (sym is_first) ∙ same_fault p (has_listing p g.listed)

    pub code_answers : fault_of r ≡ None → (fault_of p ≡ None) × (r ≡ p)
    code_answers none = (sym same ∙ none, sym is_first ∙ faultless_same p (has_listing p g.listed) (ap fault_of is_first ∙ none))

    pub bad_answers : (f : CodeBad) → fault_of r ≡ Some f → fault_of p ≡ Some f
    bad_answers f e = sym same ∙ e

  -- a name that equals an earlier one is the first fault
  pub same_name : (p : Parts) → read_text (pieces 10 bs) ≡ Ok p → (n : List ℕ) → repeated [] (names_of p) ≡ Some n → fault_of p ≡ Some (bad.SameName n)
  same_name p h n e = let g = has_listing p (listing_read p h).listed in repeated_is_fault p g p g.version n e
