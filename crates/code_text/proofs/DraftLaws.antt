-- A draft and the rows that are added.
use Rattle.std.proofs.Common.{◌≡◌, ℕ, zero, suc, ◌+◌, List, [], ◌∷◌, ◌++◌, length, get_or, set, refl, ap, arith, length-append}
use Rattle.risc_machine.specs.declared.parts.Line.{Line}
use Rattle.risc_machine.specs.declared.parts.ThreadCode.{ThreadCode}
use Rattle.code_text.specs.Inside.Drafts.{AreShort, IsSmall}
use Rattle.code_text.specs.Inside.ListingReading.{with_line, with_row}
use Rattle.code_text.specs.Inside.ListingReading.{Draft}
use Rattle.code_text.specs.declared.row.Row.{Row}
use Rattle.code_text.specs.declared.row.Row.TheVariants as row

pub with_line_last : (ts : List ThreadCode) (t : ThreadCode) (l : Line) → with_line (ts ++ t ∷ []) l ≡ ts ++ record { name = t.name; lines = t.lines ++ l ∷ [] } ∷ []
with_line_last [] t l = refl
with_line_last (x ∷ []) t l = refl
with_line_last (x ∷ y ∷ ts) t l = ap (λ us. x ∷ us) (with_line_last (y ∷ ts) t l)

-- the same by the index of the last thread
pub with_line_at : (ts : List ThreadCode) (l : Line) (d : ThreadCode) (lines : List Line) (i : ℕ) → i + 1 ≡ length ts → lines ≡ (get_or ts i d).lines ++ l ∷ []
    → set ts i (record { name = (get_or ts i d).name; lines = lines }) ≡ with_line ts l
with_line_at [] l d lines i last more = absurd (omega (arith, last))
with_line_at (x ∷ []) l d lines zero last more = ap (λ ls. record { name = x.name; lines = ls } ∷ []) more
with_line_at (x ∷ []) l d lines (suc i) last more = absurd (omega (arith, last))
with_line_at (x ∷ y ∷ ts) l d lines zero last more = absurd (omega (arith, last))
with_line_at (x ∷ y ∷ ts) l d lines (suc i) last more = ap (λ us. x ∷ us) (with_line_at (y ∷ ts) l d lines i (omega (arith, last)) more)

short_more : (n : ℕ) (ts : List ThreadCode) → AreShort n ts → AreShort (n + 1) ts
short_more n [] h = h
short_more n (t ∷ ts) h = (omega (arith, h.0), short_more n ts h.1)

short_push : (n : ℕ) (ts : List ThreadCode) (name : List ℕ) → AreShort n ts → AreShort n (ts ++ record { name = name; lines = [] } ∷ [])
short_push n [] name h = (omega arith, tt)
short_push n (t ∷ ts) name h = (h.0, short_push n ts name h.1)

short_line : (n : ℕ) (ts : List ThreadCode) (l : Line) → AreShort n ts → AreShort (n + 1) (with_line ts l)
short_line n [] l h = tt
short_line n (t ∷ []) l h = (omega (arith, h.0, length-append t.lines (l ∷ [])), tt)
short_line n (t ∷ u ∷ ts) l h = (omega (arith, h.0), short_line n (u ∷ ts) l h.1)

length_with_line : (ts : List ThreadCode) (l : Line) → length (with_line ts l) ≡ length ts
length_with_line [] l = refl
length_with_line (t ∷ []) l = refl
length_with_line (t ∷ u ∷ ts) l = ap suc (length_with_line (u ∷ ts) l)

pub small_row : (n : ℕ) (d : Draft) (r : Row) → IsSmall n d.parts → IsSmall (n + 1) (with_row d r).parts
small_row n d (row.Var m) h = record { vars = omega (arith, length-append d.parts.vars (m ∷ []), h.vars); locks = omega (arith, h.locks); threads = omega (arith, h.threads); lines = short_more n _ h.lines }
small_row n d (row.Lock m) h = record { vars = omega (arith, h.vars); locks = omega (arith, length-append d.parts.locks (m ∷ []), h.locks); threads = omega (arith, h.threads); lines = short_more n _ h.lines }
small_row n d (row.Thread m count) h = record {
  vars = omega (arith, h.vars);
  locks = omega (arith, h.locks);
  threads = omega (arith, length-append d.parts.threads (record { name = m; lines = [] } ∷ []), h.threads);
  lines = short_push (n + 1) _ m (short_more n _ h.lines);
}
small_row n d (row.Line l) h = record { vars = omega (arith, h.vars); locks = omega (arith, h.locks); threads = omega (arith, length_with_line d.parts.threads l, h.threads); lines = short_line n _ l h.lines }
