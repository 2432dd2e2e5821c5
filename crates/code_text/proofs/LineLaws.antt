-- Where reading stops: the lines before it begin a listing, and together with it they begin none.
use Rattle.std.proofs.Common.{◌≡◌, ℕ, ◌+◌, ◌-◌, ◌==◌, ◌&&◌, suc, List, [], ◌∷◌, ◌++◌, length, map, take, codes, refl, ap, sym, ◌∙◌, subst, arith, length-append, Bool, true, false, if◌then◌else◌, Option, Some, None, Ok, Err, ◌⊎◌, inl, inr}
use Rattle.std.proofs.lemmas.Bool.{eqb-true}
use Rattle.std.proofs.lemmas.List.{map-append, length-map}
use Rattle.std.specs.Str.{bytes_eq}
use Rattle.risc_machine.specs.declared.parts.Parts.{Parts}
use Rattle.code_text.specs.Inside.ListingReading.{pieces, is_none, row_of, with_row, ended, go_on, read_lines, read_text, begin_with, begun, version_of}
use Rattle.code_text.specs.Listing.{head, rows, spelled, onto, lines_of, IsListed, IsListingOf, BeginsListing}
use Rattle.code_text.specs.ListingAnswers.{IsFaultyLine}
use Rattle.code_text.specs.Inside.ListingReading.{Draft}
use Rattle.code_text.specs.declared.row.Row.{Row}
use Rattle.code_text.proofs.ChainLaws.{Chain, chain_takes, IsRowWithout, AreRowsWithout, split, pieces_row}
use Rattle.code_text.proofs.Complete.{complete, rows_without_blanks, version_back}
use Rattle.code_text.proofs.Cuts.{glue, some_piece}
use Rattle.code_text.proofs.Filled.{HasListing, has_listing, is_listed, filled, filled_rows, reached, begun_listing}
use Rattle.code_text.proofs.PhaseLaws.{first_parts, body, chain_body}
use Rattle.code_text.proofs.PiecesBack.{IsFree, AreFree, pieces_free, free_not}
use Rattle.code_text.proofs.SoundLaws.{Stands, joined, spelled_is, spelled_line, version_is}

-- Lines -----------------------------------------------------------------------------------------------------------

-- pieces with the line feeds between them
abbrev marked : List (List ℕ) → List (List ℕ)
marked [] = []
marked (l ∷ []) = l ∷ []
marked (l ∷ m ∷ ls) = (l ++ codes "\n") ∷ marked (m ∷ ls)

marked_onto : (b : ℕ) (l : List ℕ) (ls : List (List ℕ)) → marked ((b ∷ l) ∷ ls) ≡ onto b (marked (l ∷ ls))
marked_onto b l [] = refl
marked_onto b l (m ∷ ls) = refl

lines_marked : (bs : List ℕ) → lines_of bs ≡ marked (pieces 10 bs)
lines_marked [] = refl
lines_marked (b ∷ bs) = by (b == 10) refl (pieces 10 bs) (some_piece 10 bs) (lines_marked bs)
  where
    by : (c : Bool) → (b == 10) ≡ c → (ps : List (List ℕ)) → glue [] ps ≡ ps → lines_of bs ≡ marked ps → (if c then (b ∷ []) ∷ lines_of bs else onto b (lines_of bs)) ≡ marked (if c then [] ∷ ps else onto b ps)
    by c e [] some h = absurd cc
    by true e (l ∷ ls) some h = ap (λ x. (x ∷ []) ∷ lines_of bs) (eqb-true b 10 e) ∙ ap (λ x. codes "\n" ∷ x) h
    by false e (l ∷ ls) some h = ap (onto b) h ∙ sym (marked_onto b l ls)

-- Rows and their spelling -----------------------------------------------------------------------------------------

append_end : (xs ys : List ℕ) (b : ℕ) → xs ++ b ∷ [] ≡ ys ++ b ∷ [] → xs ≡ ys
append_end [] [] b e = refl
append_end [] (y ∷ ys) b e = absurd (omega (arith, ap length e, length-append ys (b ∷ [])))
append_end (x ∷ xs) [] b e = absurd (omega (arith, ap length e, length-append xs (b ∷ [])))
append_end (x ∷ xs) (y ∷ ys) b e =
    let first : x ≡ y = cc e in
    let rest : xs ++ b ∷ [] ≡ ys ++ b ∷ [] = cc e in
    ap (λ z. z ∷ xs) first ∙ ap (λ zs. y ∷ zs) (append_end xs ys b rest)

-- a row is known from its spelling
same_row : (fs gs : List (List ℕ)) → IsRowWithout 32 fs → IsRowWithout 32 gs → spelled fs ≡ spelled gs → fs ≡ gs
same_row fs gs f g e =
    sym (split fs f) ∙ ap (pieces 32) (append_end (joined 32 fs) (joined 32 gs) 10 (sym (spelled_is fs) ∙ e ∙ spelled_is gs)) ∙ split gs g

same_line : (fs : List (List ℕ)) (l : List ℕ) → IsRowWithout 32 fs → spelled fs ≡ l ++ codes "\n" → fs ≡ pieces 32 l
same_line fs l f e = same_row fs (pieces 32 l) f (pieces_row l) (e ∙ sym (spelled_line l))

-- the rows are these, one that is spelled as the line, and others
abbrev Continues : (qs rs : List (List (List ℕ))) → (line : List ℕ) → Type 0
Continues qs rs line = (fs : List (List ℕ)) × (ys : List (List (List ℕ))) × (qs ≡ rs ++ fs ∷ ys) × (spelled fs ≡ line) × IsRowWithout 32 fs

continues_more : (g fs : List (List ℕ)) (qs rs : List (List (List ℕ))) (line : List ℕ) → g ≡ fs → Continues qs rs line → Continues (g ∷ qs) (fs ∷ rs) line
continues_more g fs qs rs line e (hs, ys, same, is, free) = (hs, ys, ap (λ x. x ∷ qs) e ∙ ap (λ x. fs ∷ x) same, is, free)

-- rows that are spelled as others and a line continue these
same_rows : (qs rs : List (List (List ℕ))) (line : List ℕ) (rest : List (List ℕ)) → AreRowsWithout 32 qs → AreRowsWithout 32 rs → map spelled qs ≡ (map spelled rs ++ line ∷ []) ++ rest → Continues qs rs line
same_rows [] [] line rest q r e = absurd cc
same_rows [] (fs ∷ rs) line rest q r e = absurd cc
same_rows (g ∷ qs) [] line rest q r e = (g, qs, refl, (let first : spelled g ≡ line = cc e in first), q.0)
same_rows (g ∷ qs) (fs ∷ rs) line rest q r e =
    let first : spelled g ≡ spelled fs = cc e in
    let others : map spelled qs ≡ (map spelled rs ++ line ∷ []) ++ rest = cc e in
    continues_more g fs qs rs line (same_row g fs q.0 r.0 first) (same_rows qs rs line rest q.1 r.1 others)

-- no row is spelled without a line feed
unfinished : (fs : List (List ℕ)) (l : List ℕ) → IsFree 10 l → spelled fs ≡ l → ⊥
unfinished fs l free e = free_not 10 (joined 32 fs) refl (subst (IsFree 10) (sym e ∙ spelled_is fs) free)

-- Reading that stops ----------------------------------------------------------------------------------------------

-- Reading takes rows until a line stops it.
record Stops (d : Draft) (ls : List (List ℕ)) (n m : ℕ) : Type 0 where
  taken : List (List (List ℕ))
  last : Draft
  chain : Chain d taken last
  plain : AreRowsWithout 32 taken
  line : List ℕ
  rest : List (List ℕ)
  cut : marked ls ≡ map spelled taken ++ line ∷ rest
  number : m ≡ n + length taken
  refused : (fs : List (List ℕ)) → IsRowWithout 32 fs → spelled fs ≡ line → row_of last fs ≡ None

ended_at : (d : Draft) (n m : ℕ) (l : List ℕ) → ended d n l ≡ Err m → m ≡ n
ended_at d n m l h = by (is_none l && d.left == 0) h
  where
    by : (b : Bool) → (if b then Ok d.parts else Err n) ≡ Err m → m ≡ n
    by true h = absurd cc
    by false h = cc h

stops : (l : List ℕ) (ls : List (List ℕ)) (d : Draft) (n m : ℕ) → AreFree 10 (l ∷ ls) → read_lines (l ∷ ls) d n ≡ Err m → Stops d (l ∷ ls) n m
stops l [] d n m free h = record {
  taken = [];
  last = d;
  chain = refl;
  plain = tt;
  line = l;
  rest = [];
  cut = refl;
  number = (let e = ended_at d n m l h in omega (arith, e));
  refused = λ fs f e. absurd (unfinished fs l free.0 e);
}
stops l (k ∷ ls) d n m free h = by (λ r. stops k ls (with_row d r) (n + 1) m free.1) (row_of d (pieces 32 l)) refl h
  where
    by : ((r : Row) → read_lines (k ∷ ls) (with_row d r) (n + 1) ≡ Err m → Stops (with_row d r) (k ∷ ls) (n + 1) m)
        → (o : Option Row) → row_of d (pieces 32 l) ≡ o → go_on n (λ r. read_lines (k ∷ ls) (with_row d r) (n + 1)) o ≡ Err m → Stops d (l ∷ k ∷ ls) n m
    by later None none h = record {
      taken = [];
      last = d;
      chain = refl;
      plain = tt;
      line = l ++ codes "\n";
      rest = marked (k ∷ ls);
      cut = refl;
      number = (let e : n ≡ m = cc h in omega (arith, e));
      refused = λ fs f e. ap (row_of d) (same_line fs l f e) ∙ none;
    }
    by later (Some r) some h =
        let s = later r h in
        record {
          taken = pieces 32 l ∷ s.taken;
          last = s.last;
          chain = (r, some, s.chain);
          plain = (pieces_row l, s.plain);
          line = s.line;
          rest = s.rest;
          cut = ap (λ x. (l ++ codes "\n") ∷ x) s.cut ∙ ap (λ x. x ∷ (map spelled s.taken ++ s.line ∷ s.rest)) (sym (spelled_line l));
          number = omega (arith, s.number);
          refused = s.refused;
        }

-- Lists of which a front is taken
take_front : {A : Type 0} (xs ys : List A) → take (length xs) (xs ++ ys) ≡ xs
take_front [] ys = refl
take_front (x ∷ xs) ys = ap (λ zs. x ∷ zs) (take_front xs ys)

take_one : {A : Type 0} (xs ys : List A) (y : A) → take (suc (length xs)) (xs ++ y ∷ ys) ≡ xs ++ y ∷ []
take_one [] ys y = refl
take_one (x ∷ xs) ys y = ap (λ zs. x ∷ zs) (take_one xs ys y)

pub one_or_two : (l : List ℕ) (v : ℕ) → version_of l ≡ Some v → (v ≡ 1) ⊎ (v ≡ 2)
one_or_two l v h = by (bytes_eq l (codes "code 1")) (bytes_eq l (codes "code 2")) h
  where
    by : (b c : Bool) → (if b then Some 1 else (if c then Some 2 else None)) ≡ Some v → (v ≡ 1) ⊎ (v ≡ 2)
    by true c h = inl (cc h)
    by false true h = inr (cc h)
    by false false h = absurd cc

-- the version that a line says
said_version : (q : Parts) → IsListed q → (l : List ℕ) → spelled (head q.version) ≡ l ++ codes "\n" → version_of l ≡ Some q.version
said_version q h l e = ap version_of (append_end l (joined 32 (head q.version)) 10 (sym e ∙ spelled_is (head q.version))) ∙ version_back q.version h.version

module _ (l : List ℕ) (v m : ℕ) (ls : List (List ℕ)) (says : version_of l ≡ Some v) (s : Stops (begun v) ls 2 m) where
  all_taken : List (List (List ℕ))
  all_taken = head v ∷ s.taken

  none_left_over : Stands (begun v)
  none_left_over = λ some e. omega (arith, some)

  here : spelled (head v) ≡ l ++ codes "\n"
  here = sym (version_is l v says)

  before : BeginsListing ((l ++ codes "\n") ∷ map spelled s.taken)
  before =
      let r = reached s.taken (begun v) s.last s.chain none_left_over (begun_listing v (one_or_two l v says)) in
      let k = filled_rows s.last in (
        filled s.last,
        is_listed (filled s.last) r.listing,
        map spelled k.0,
        ap (map spelled) (k.1 ∙ ap (λ x. x ++ k.0) r.grown) ∙ map-append spelled (head v ∷ s.taken) k.0 ∙ ap (λ x. x ∷ (map spelled s.taken ++ map spelled k.0)) here,
      )

  -- no parts of this version continue these rows by the line
  refuted : (q : Parts) → HasListing q → v ≡ q.version → Continues (body q) s.taken s.line → ⊥
  refuted q h version (fs, ys, same, is, free) =
      let e : Draft = record { parts = first_parts q; left = 0 } in
      let from_v : Chain (begun v) (body q) e = subst (λ w. Chain (begun w) (body q) e) (sym version) (chain_body q h) in
      chain_takes s.taken ys fs (begun v) s.last e (subst (λ rs. Chain (begun v) rs e) same from_v) s.chain (s.refused fs free is)

  faulty : ¬ BeginsListing ((l ++ codes "\n") ∷ (map spelled s.taken ++ s.line ∷ []))
  faulty (q, listed, rest, e) =
      let h = has_listing q listed in
      let first : spelled (head q.version) ≡ l ++ codes "\n" = cc e in
      let others : map spelled (body q) ≡ (map spelled s.taken ++ s.line ∷ []) ++ rest = cc e in
      let same : Some v ≡ Some q.version = sym says ∙ said_version q listed l first in
      let version : v ≡ q.version = cc same in
      refuted q h version (same_rows (body q) s.taken s.line rest (rows_without_blanks q h).1 s.plain others)

-- Texts -----------------------------------------------------------------------------------------------------------

pub unlisted : (bs : List ℕ) (n : ℕ) → read_text (pieces 10 bs) ≡ Err n → (p : Parts) → ¬ IsListingOf p bs
unlisted bs n h p g = let e : Ok (first_parts p) ≡ Err n = sym (complete p (has_listing p g.listed)) ∙ ap (λ x. read_text (pieces 10 x)) (sym g.spelling) ∙ h in cc

nothing_begins : BeginsListing []
nothing_begins = let h = begun_listing 1 (inl refl) in ((begun 1).parts, is_listed (begun 1).parts h, map spelled (rows (begun 1).parts), refl)

-- The lines before number `n` begin a listing, and those up to it begin none.
abbrev IsStop : List (List ℕ) → ℕ → Type 0
IsStop ls n = BeginsListing (take (n - 1) ls) × ¬ BeginsListing (take n ls)

first_line : (l : List ℕ) (ls : List (List ℕ)) → ((q : Parts) → IsListed q → spelled (head q.version) ≡ l → ⊥) → IsStop (l ∷ ls) 1
first_line l ls none = (nothing_begins, λ b. none b.0 b.1 (let e : spelled (head b.0.version) ≡ l = cc b.3 in e))

later_line : (l : List ℕ) (v n : ℕ) (ls : List (List ℕ)) → version_of l ≡ Some v → Stops (begun v) ls 2 n → IsStop ((l ++ codes "\n") ∷ marked ls) n
later_line l v n ls says s =
    let x : List ℕ = l ++ codes "\n" in
    let ys : List (List ℕ) = map spelled s.taken in
    let same : length ys ≡ length s.taken = length-map s.taken spelled in
    let front : take (n - 1) (x ∷ marked ls) ≡ x ∷ ys =
    ap (λ zs. take (n - 1) (x ∷ zs)) s.cut ∙ ap (λ k. take k (x ∷ (ys ++ s.line ∷ s.rest))) (let e : n - 1 ≡ suc (length ys) = omega (arith, s.number, same) in e)
    ∙ ap (λ zs. x ∷ zs) (take_front ys (s.line ∷ s.rest)) in
    let whole : take n (x ∷ marked ls) ≡ x ∷ (ys ++ s.line ∷ []) =
    ap (λ zs. take n (x ∷ zs)) s.cut ∙ ap (λ k. take k (x ∷ (ys ++ s.line ∷ s.rest))) (let e : n ≡ suc (suc (length ys)) = omega (arith, s.number, same) in e)
    ∙ ap (λ zs. x ∷ zs) (take_one ys s.rest s.line) in
    (subst BeginsListing (sym front) (before l v n ls says s), λ b. faulty l v n ls says s (subst BeginsListing whole b))

pub faulty_line : (bs : List ℕ) (n : ℕ) → read_text (pieces 10 bs) ≡ Err n → IsFaultyLine bs n
faulty_line bs n h =
    let stop = subst (λ ls. IsStop ls n) (sym (lines_marked bs)) (by (pieces 10 bs) (some_piece 10 bs) (pieces_free 10 bs) h) in
    record { unlisted = unlisted bs n h; before = stop.0; faulty = stop.1 }
  where
    by_version : (l m : List ℕ) (ls : List (List ℕ)) → AreFree 10 (m ∷ ls) → (o : Option ℕ) → version_of l ≡ o → begin_with (m ∷ ls) o ≡ Err n → IsStop ((l ++ codes "\n") ∷ marked (m ∷ ls)) n
    by_version l m ls free None e h =
        subst (IsStop ((l ++ codes "\n") ∷ marked (m ∷ ls))) (let k : 1 ≡ n = cc h in k)
        (first_line (l ++ codes "\n") (marked (m ∷ ls)) (λ q listed f. let g : Some q.version ≡ None = sym (said_version q listed l f) ∙ e in cc))
    by_version l m ls free (Some v) e h = later_line l v n (m ∷ ls) e (stops m ls (begun v) 2 n free h)

    by : (ps : List (List ℕ)) → glue [] ps ≡ ps → AreFree 10 ps → read_text ps ≡ Err n → IsStop (marked ps) n
    by [] some free h = absurd cc
    by (l ∷ []) some free h = subst (IsStop (l ∷ [])) (let k : 1 ≡ n = cc h in k) (first_line l [] (λ q listed f. unfinished (head q.version) l free.0 f))
    by (l ∷ m ∷ ls) some free h = by_version l m ls free.1 (version_of l) refl h
