-- The definition's reading, line by line.
use Rattle.std.proofs.Common.{◌≡◌, ℕ, ◌+◌, ◌<◌, ◌≤◌, zero, suc, nat_lt, ◌==◌, List, [], ◌∷◌, ◌++◌, length, get_or, refl, ap, sym, ◌∙◌, subst, arith, Bool, true, false, if◌then◌else◌, Option, Some, None, Err}
use Rattle.std.specs.Prelude.{Result}
use Rattle.std.proofs.lemmas.List.{append-nil}
use Rattle.risc_machine.specs.Faults.{AreCounted}
use Rattle.risc_machine.specs.declared.parts.Parts.{Parts}
use Rattle.risc_machine.specs.declared.parts.ThreadCode.{ThreadCode}
use Rattle.code_text.specs.Inside.Drafts.{AddsLine, AreShort, Ends, IsSmall}
use Rattle.code_text.specs.Listing.{onto}
use Rattle.code_text.specs.Inside.ListingReading.{pieces, both, weight_of, line_with, line_of, ended, head_of, instr_of, row_of, with_row, read_lines, go_on, read_text, begin_with, begun, version_of}
use Rattle.code_text.specs.Inside.ListingReading.{Draft}
use Rattle.code_text.specs.declared.fault.CodeFault.{CodeFault}
use Rattle.code_text.specs.declared.fault.CodeFault.TheVariants.{Line, Bad, NoMemory}
use Rattle.code_text.specs.declared.row.Row.{Row}
use Rattle.code_text.proofs.Cuts.{glue}

pub few_head : (p : Parts) (fs : List (List ℕ)) → length fs < 2 → head_of p fs ≡ None
few_head p [] h = refl
few_head p (a ∷ []) h = refl
few_head p (a ∷ b ∷ fs) h = absurd (omega (arith, h))

pub many_head : (p : Parts) (fs : List (List ℕ)) → 4 ≤ length fs → head_of p fs ≡ None
many_head p [] h = absurd (omega (arith, h))
many_head p (a ∷ []) h = absurd (omega (arith, h))
many_head p (a ∷ b ∷ []) h = absurd (omega (arith, h))
many_head p (a ∷ b ∷ c ∷ []) h = absurd (omega (arith, h))
many_head p (a ∷ b ∷ c ∷ d ∷ fs) h = refl

pub many_instr : (p : Parts) (fs : List (List ℕ)) → 5 ≤ length fs → instr_of p fs ≡ None
many_instr p [] h = absurd (omega (arith, h))
many_instr p (a ∷ []) h = absurd (omega (arith, h))
many_instr p (a ∷ b ∷ []) h = absurd (omega (arith, h))
many_instr p (a ∷ b ∷ c ∷ []) h = absurd (omega (arith, h))
many_instr p (a ∷ b ∷ c ∷ d ∷ []) h = absurd (omega (arith, h))
many_instr p (a ∷ b ∷ c ∷ d ∷ e ∷ fs) h = refl

none_both : (w : Option ℕ) → both line_with w None ≡ None
none_both None = refl
none_both (Some w) = refl

many_line : (p : Parts) (fs : List (List ℕ)) → 6 ≤ length fs → line_of p fs ≡ None
many_line p [] h = refl
many_line p (w ∷ fs) h = ap (both line_with (weight_of w)) (many_instr p fs (omega (arith, h))) ∙ none_both (weight_of w)

many_row : (d : Draft) (fs : List (List ℕ)) → 6 ≤ length fs → row_of d fs ≡ None
many_row d fs h = by (nat_lt 0 d.left)
  where
    by : (b : Bool) → (if b then line_of d.parts fs else head_of d.parts fs) ≡ None
    by true = many_line d.parts fs h
    by false = many_head d.parts fs (omega (arith, h))

ended_some : (d : Draft) (n : ℕ) (l : List ℕ) → 0 < length l → ended d n l ≡ Err n
ended_some d n [] h = absurd (omega (arith, h))
ended_some d n (b ∷ l) h = refl

-- A first line with too many fields isn't read, whether it ends or not.
pub crowded : (text xs ys : List ℕ) (d : Draft) (n : ℕ) → 0 < length text → glue xs (pieces 10 ys) ≡ pieces 10 text → ((zs : List ℕ) → 6 ≤ length (pieces 32 (xs ++ zs)))
    → read_lines (pieces 10 text) d n ≡ ended d n text
crowded text xs ys d n some cut many = ap (λ ls. read_lines ls d n) (sym cut) ∙ by (pieces 10 ys) ∙ sym (ended_some d n text some)
  where
    some_in : (l : List ℕ) → 6 ≤ length (pieces 32 l) → 0 < length l
    some_in [] h = absurd (omega (arith, h))
    some_in (b ∷ l) h = omega arith

    by : (ls : List (List ℕ)) → read_lines (glue xs ls) d n ≡ Err n
    by [] = ended_some d n xs (some_in xs (subst (λ l. 6 ≤ length (pieces 32 l)) (append-nil xs) (many [])))
    by (l ∷ []) = ended_some d n (xs ++ l) (some_in (xs ++ l) (many l))
    by (l ∷ m ∷ ls) = ap (go_on n (λ r. read_lines (m ∷ ls) (with_row d r) (n + 1))) (many_row d (pieces 32 (xs ++ l)) (many l))

-- A line and what is behind its line feed.
pub read_on : (l : List ℕ) (bs : List ℕ) (d : Draft) (n : ℕ) → read_lines (l ∷ pieces 10 bs) d n ≡ go_on n (λ r. read_lines (pieces 10 bs) (with_row d r) (n + 1)) (row_of d (pieces 32 l))
read_on l [] d n = refl
read_on l (b ∷ bs) d n = by (b == 10) (pieces 10 bs)
  where
    by : (c : Bool) (ps : List (List ℕ)) → read_lines (l ∷ (if c then [] ∷ ps else onto b ps)) d n
        ≡ go_on n (λ r. read_lines (if c then [] ∷ ps else onto b ps) (with_row d r) (n + 1)) (row_of d (pieces 32 l))
    by true ps = refl
    by false [] = refl
    by false (f ∷ fs) = refl

begin_on : (l : List ℕ) (bs : List ℕ) → read_text (l ∷ pieces 10 bs) ≡ begin_with (pieces 10 bs) (version_of l)
begin_on l [] = refl
begin_on l (b ∷ bs) = by (b == 10) (pieces 10 bs)
  where
    by : (c : Bool) (ps : List (List ℕ)) → read_text (l ∷ (if c then [] ∷ ps else onto b ps)) ≡ begin_with (if c then [] ∷ ps else onto b ps) (version_of l)
    by true ps = refl
    by false [] = refl
    by false (f ∷ fs) = refl

pub text_begins : (text l bs : List ℕ) (v : ℕ) → pieces 10 text ≡ l ∷ pieces 10 bs → Some v ≡ version_of l → read_text (pieces 10 text) ≡ read_lines (pieces 10 bs) (begun v) 2
text_begins text l bs v cut is = ap read_text cut ∙ begin_on l bs ∙ ap (begin_with (pieces 10 bs)) (sym is)

module _ (text l bs : List ℕ) (d : Draft) (n : ℕ) (cut : pieces 10 text ≡ l ∷ pieces 10 bs) where
  at_line : read_lines (pieces 10 text) d n ≡ go_on n (λ r. read_lines (pieces 10 bs) (with_row d r) (n + 1)) (row_of d (pieces 32 l))
  at_line = ap (λ ls. read_lines ls d n) cut ∙ read_on l bs d n

  pub line_stops : (fs : List (List ℕ)) → fs ≡ pieces 32 l → None ≡ row_of d fs → read_lines (pieces 10 text) d n ≡ Err n
  line_stops fs are none = at_line ∙ ap (go_on n (λ r. read_lines (pieces 10 bs) (with_row d r) (n + 1))) (ap (row_of d) (sym are) ∙ sym none)

  pub line_goes : (fs : List (List ℕ)) (r : Row) → fs ≡ pieces 32 l → Some r ≡ row_of d fs → read_lines (pieces 10 text) d n ≡ read_lines (pieces 10 bs) (with_row d r) (n + 1)
  line_goes fs r are some = at_line ∙ ap (go_on n (λ q. read_lines (pieces 10 bs) (with_row d q) (n + 1))) (ap (row_of d) (sym are) ∙ sym some)

-- A line that isn't added ends the reading: it is no row, or memory ran out.
pub line_ends : (fault : CodeFault) (n : ℕ) (d e now : Draft) (o : Option Row) (r : Result Parts ℕ) → AddsLine n d o e (Err fault) → (None ≡ o → r ≡ Err n) → Ends (Err fault) now r
line_ends (Line m) n d e now o r h stops = stops (sym h.1) ∙ ap Err (sym h.0)
line_ends (Bad b) n d e now o r h stops = absurd h
line_ends NoMemory n d e now o r h stops = tt

short_at : (n : ℕ) (ts : List ThreadCode) (k : ℕ) (d : ThreadCode) → AreShort n ts → n < 4294967296 → k < length ts → length (get_or ts k d).lines < 4294967296
short_at n [] k d h small inside = absurd (omega (arith, inside))
short_at n (t ∷ ts) zero d h small inside = omega (arith, h.0)
short_at n (t ∷ ts) (suc k) d h small inside = short_at n ts k d h.1 small (omega (arith, inside))

pub counted : (n : ℕ) (p : Parts) → IsSmall n p → n < 4294967296 → AreCounted p
counted n p h small = record {
  vars = omega (arith, h.vars);
  locks = omega (arith, h.locks);
  threads = omega (arith, h.threads);
  lines = λ k d inside. short_at n p.threads k d h.lines small inside;
}
