-- What is read is spelled as the text.
use Rattle.std.proofs.Common.{◌≡◌, ℕ, ◌+◌, ◌-◌, ◌<◌, ◌==◌, ◌&&◌, nat_lt, List, [], ◌∷◌, ◌++◌, length, map, flat_map, refl, ap, sym, ◌∙◌, subst, arith, codes, decimal, append_assoc, length-append, Bool, true, false, if◌then◌else◌, Option, Some, None, Result, Ok, Err, inl, inr}
use Rattle.std.proofs.lemmas.Bool.{and_parts, eqb-true, ltb-true, ltb-false}
use Rattle.std.proofs.lemmas.Fmt.{decimal_digit}
use Rattle.std.proofs.lemmas.Grind.{flat_map-append}
use Rattle.std.proofs.lemmas.List.{append-nil, map-append}
use Rattle.std.specs.Str.{bytes_eq}
use Rattle.cov_expr.specs.Names.{IsName}
use Rattle.cov_expr.specs.Words.{IsWord}
use Rattle.risc_machine.specs.declared.parts.Line.{Line}
use Rattle.risc_machine.specs.declared.parts.Parts.{Parts}
use Rattle.risc_machine.specs.declared.parts.ThreadCode.{ThreadCode}
use Rattle.code_text.specs.Listing.{onto, declared, head, line, thread_head, thread_rows, rows, spelled, listing, IsListedLine}
use Rattle.code_text.specs.Inside.Drafts.{CanStand}
use Rattle.code_text.specs.Inside.ListingReading.{pieces, is_none, name_of, number_of, weight_of, both, instr_of, line_of, line_with, head_of, name_row, thread_row, row_of, with_line, with_row, begun, ended, go_on, read_lines, read_text, begin_with, version_of}
use Rattle.code_text.specs.Inside.ListingReading.{Draft}
use Rattle.code_text.specs.declared.row.Row.{Row}
use Rattle.code_text.specs.declared.row.Row.TheVariants as row
use Rattle.code_text.proofs.Cuts.{glue, some_piece}
use Rattle.code_text.proofs.FieldLaws.{chosen, same_word, name_is, number_is, weight_is}
use Rattle.code_text.proofs.RangeLaws.{name_ranges, number_ranges, weight_ranges}
use Rattle.code_text.proofs.InstrLaws.{map_is, both_are, instr_is}

-- Rows ---------------------------------------------------------------------------------------------------------

-- the fields are those of the row, it may stand there, and it has a listing
abbrev pub IsRow : Draft → List (List ℕ) → Row → Type 0
IsRow d fs (row.Var n) = (fs ≡ declared (codes "var") n) × (d.left ≡ 0) × (d.parts.locks ≡ []) × (d.parts.threads ≡ []) × IsName n
IsRow d fs (row.Lock n) = (fs ≡ declared (codes "lock") n) × (d.left ≡ 0) × (d.parts.threads ≡ []) × IsName n
IsRow d fs (row.Thread n count) = (fs ≡ thread_head n count) × (d.left ≡ 0) × IsName n × IsWord count
IsRow d fs (row.Line l) = (fs ≡ line d.parts.vars d.parts.locks l) × (0 < d.left) × IsListedLine d.parts.version (length d.parts.vars) (length d.parts.locks) l

none_there : {A : Type 0} (xs : List A) → is_none xs ≡ true → xs ≡ []
none_there [] h = refl
none_there (x ∷ xs) h = absurd cc

line_row : (d : Draft) (fs : List (List ℕ)) (r : Row) → 0 < d.left → line_of d.parts fs ≡ Some r → IsRow d fs r
line_row d [] r some h = absurd cc
line_row d (w ∷ fs) r some h =
    let m = both_are line_with (weight_of w) (instr_of d.parts fs) r h in
    let i = instr_is d.parts fs m.1 m.3 in
    subst (IsRow d (w ∷ fs)) m.4
    (ap (λ x. x ∷ fs) (weight_is w m.0 m.2) ∙ ap (λ x. decimal m.0 ∷ x) i.same, some, record { weight = weight_ranges w m.0 m.2; instr = i.listed })

declared_row : (w v n m : List ℕ) → bytes_eq w v ≡ true → n ≡ m → w ∷ n ∷ [] ≡ declared v m
declared_row w v n m h e = ap (λ x. x ∷ n ∷ []) (same_word w v h) ∙ ap (λ x. v ∷ x ∷ []) e

name_row_is : (d : Draft) (w n : List ℕ) (r : Row) → d.left ≡ 0 → name_row d.parts w n ≡ Some r → IsRow d (w ∷ n ∷ []) r
name_row_is d w n r z h = elim (chosen (bytes_eq w (codes "var") && is_none d.parts.locks && is_none d.parts.threads) _ _ r h) [
  | inl c ↦ (
      let p = and_parts (bytes_eq w (codes "var") && is_none d.parts.locks) (is_none d.parts.threads) c.0 in
      let q = and_parts (bytes_eq w (codes "var")) (is_none d.parts.locks) p.0 in
      let m = map_is row.Var (name_of n) r c.1 in
      subst (IsRow d (w ∷ n ∷ [])) m.2 (declared_row w (codes "var") n m.0 q.0 (name_is n m.0 m.1), z, none_there d.parts.locks q.1, none_there d.parts.threads p.1, name_ranges n m.0 m.1))
  | inr h ↦ (elim (chosen (bytes_eq w (codes "lock") && is_none d.parts.threads) _ _ r h) [
    | inl c ↦ (
        let p = and_parts (bytes_eq w (codes "lock")) (is_none d.parts.threads) c.0 in
        let m = map_is row.Lock (name_of n) r c.1 in
        subst (IsRow d (w ∷ n ∷ [])) m.2 (declared_row w (codes "lock") n m.0 p.0 (name_is n m.0 m.1), z, none_there d.parts.threads p.1, name_ranges n m.0 m.1))
    | inr h ↦ absurd cc
  ])
]

thread_row_is : (d : Draft) (w n count : List ℕ) (r : Row) → d.left ≡ 0 → thread_row w n count ≡ Some r → IsRow d (w ∷ n ∷ count ∷ []) r
thread_row_is d w n count r z h = elim (chosen (bytes_eq w (codes "thread")) (both row.Thread (name_of n) (number_of count)) None r h) [
  | inl c ↦ (
      let m = both_are row.Thread (name_of n) (number_of count) r c.1 in
      subst (IsRow d (w ∷ n ∷ count ∷ [])) m.4
      (ap (λ x. x ∷ n ∷ count ∷ []) (same_word w (codes "thread") c.0) ∙ ap (λ x. codes "thread" ∷ x ∷ count ∷ []) (name_is n m.0 m.2) ∙ ap (λ x. codes "thread" ∷ m.0 ∷ x ∷ []) (number_is count m.1 m.3), z, name_ranges n m.0 m.2, number_ranges count m.1 m.3))
  | inr h ↦ absurd cc
]

head_row : (d : Draft) (fs : List (List ℕ)) (r : Row) → d.left ≡ 0 → head_of d.parts fs ≡ Some r → IsRow d fs r
head_row d [] r z h = absurd cc
head_row d (w ∷ []) r z h = absurd cc
head_row d (w ∷ n ∷ []) r z h = name_row_is d w n r z h
head_row d (w ∷ n ∷ count ∷ []) r z h = thread_row_is d w n count r z h
head_row d (w ∷ n ∷ count ∷ x ∷ fs) r z h = absurd cc

left_none : (n : ℕ) → nat_lt 0 n ≡ false → n ≡ 0
left_none n h = omega (arith, ltb-false 0 n h)

pub row_is : (d : Draft) (fs : List (List ℕ)) (r : Row) → row_of d fs ≡ Some r → IsRow d fs r
row_is d fs r h = by (nat_lt 0 d.left) refl h
  where
    by : (b : Bool) → nat_lt 0 d.left ≡ b → (if b then line_of d.parts fs else head_of d.parts fs) ≡ Some r → IsRow d fs r
    by true e h = line_row d fs r (ltb-true 0 d.left e) h
    by false e h = head_row d fs r (left_none d.left e) h

-- so a row that is read may stand there
pub can_stand : (d : Draft) (fs : List (List ℕ)) (r : Row) → Some r ≡ row_of d fs → CanStand d r
can_stand d fs r h = by r (row_is d fs r (sym h))
  where
    by : (r : Row) → IsRow d fs r → CanStand d r
    by (row.Var n) g = (g.4, g.2, g.3)
    by (row.Lock n) g = (g.3, g.2)
    by (row.Thread n count) g = tt
    by (row.Line l) g = tt

-- Drafts -------------------------------------------------------------------------------------------------------

module _ (vars locks : List (List ℕ)) where
  -- the rows of threads, where so many lines of the last are to come
  abbrev pub open_rows : ℕ → List ThreadCode → List (List (List ℕ))
  open_rows left [] = []
  open_rows left (t ∷ []) = thread_head t.name (length t.lines + left) ∷ map (line vars locks) t.lines
  open_rows left (t ∷ u ∷ ts) = thread_rows vars locks t ++ open_rows left (u ∷ ts)

  pub open_none : (ts : List ThreadCode) → open_rows 0 ts ≡ flat_map (thread_rows vars locks) ts
  open_none [] = refl
  open_none (t ∷ []) = ap (λ n. thread_head t.name n ∷ map (line vars locks) t.lines) (let e : length t.lines + 0 ≡ length t.lines = omega arith in e) ∙ sym (append-nil (thread_rows vars locks t))
  open_none (t ∷ u ∷ ts) = ap (λ x. thread_rows vars locks t ++ x) (open_none (u ∷ ts))

  pub open_thread : (ts : List ThreadCode) (n : List ℕ) (count : ℕ) → open_rows count (ts ++ record { name = n; lines = [] } ∷ []) ≡ open_rows 0 ts ++ thread_head n count ∷ []
  open_thread [] n count = ap (λ k. thread_head n k ∷ []) (let e : 0 + count ≡ count = omega arith in e)
  open_thread (t ∷ []) n count =
      ap (λ k. thread_rows vars locks t ++ thread_head n k ∷ []) (let e : 0 + count ≡ count = omega arith in e)
      ∙ ap (λ k. (thread_head t.name k ∷ map (line vars locks) t.lines) ++ thread_head n count ∷ []) (let e : length t.lines ≡ length t.lines + 0 = omega arith in e)
  open_thread (t ∷ u ∷ ts) n count =
      ap (λ x. thread_rows vars locks t ++ x) (open_thread (u ∷ ts) n count) ∙ sym (append_assoc (thread_rows vars locks t) (open_rows 0 (u ∷ ts)) (thread_head n count ∷ []))

  with_line_some : (t : ThreadCode) (ts : List ThreadCode) (l : Line) → (x : ThreadCode) × (xs : List ThreadCode) × (with_line (t ∷ ts) l ≡ x ∷ xs)
  with_line_some t [] l = (record { name = t.name; lines = t.lines ++ l ∷ [] }, [], refl)
  with_line_some t (u ∷ ts) l = (t, with_line (u ∷ ts) l, refl)

  open_more : (left : ℕ) (t x : ThreadCode) (xs ts : List ThreadCode) → ts ≡ x ∷ xs → open_rows left (t ∷ ts) ≡ thread_rows vars locks t ++ open_rows left ts
  open_more left t x xs ts e = subst (λ us. open_rows left (t ∷ us) ≡ thread_rows vars locks t ++ open_rows left us) (sym e) refl

  pub open_line : (left : ℕ) (t : ThreadCode) (ts : List ThreadCode) (l : Line) → 0 < left → open_rows (left - 1) (with_line (t ∷ ts) l) ≡ open_rows left (t ∷ ts) ++ line vars locks l ∷ []
  open_line left t [] l some =
      ap (λ n. thread_head t.name n ∷ map (line vars locks) (t.lines ++ l ∷ [])) (let e : length (t.lines ++ l ∷ []) + (left - 1) ≡ length t.lines + left = omega (arith, length-append t.lines (l ∷ [])) in e)
      ∙ ap (λ x. thread_head t.name (length t.lines + left) ∷ x) (map-append (line vars locks) t.lines (l ∷ []))
  open_line left t (u ∷ ts) l some =
      let w = with_line_some u ts l in
      open_more (left - 1) t w.0 w.1 (with_line (u ∷ ts) l) w.2 ∙ ap (λ x. thread_rows vars locks t ++ x) (open_line left u ts l some)
      ∙ sym (append_assoc (thread_rows vars locks t) (open_rows left (u ∷ ts)) (line vars locks l ∷ []))

abbrev pub names_rows : Parts → List (List (List ℕ))
names_rows p = map (declared (codes "var")) p.vars ++ map (declared (codes "lock")) p.locks

abbrev pub draft_rows : Draft → List (List (List ℕ))
draft_rows d = head d.parts.version ∷ (names_rows d.parts ++ open_rows d.parts.vars d.parts.locks d.left d.parts.threads)

-- where lines are to come, there is a thread
abbrev pub Stands : Draft → Type 0
Stands d = 0 < d.left → d.parts.threads ≡ [] → ⊥

begun_so : (p : Parts) → p.threads ≡ [] → (q : Parts) → q.threads ≡ [] → (left : ℕ) → open_rows p.vars p.locks left p.threads ≡ open_rows q.vars q.locks left q.threads
begun_so p e q f left = ap (open_rows p.vars p.locks left) e ∙ ap (open_rows q.vars q.locks left) (sym f)

some_thread : (d : Draft) → Stands d → 0 < d.left → (t : ThreadCode) × (ts : List ThreadCode) × (d.parts.threads ≡ t ∷ ts)
some_thread d stands some = by d.parts.threads refl
  where
    by : (ts : List ThreadCode) → d.parts.threads ≡ ts → (t : ThreadCode) × (us : List ThreadCode) × (d.parts.threads ≡ t ∷ us)
    by [] e = absurd (stands some e)
    by (t ∷ us) e = (t, us, e)

-- a row that is added is the next
pub added : (d : Draft) (fs : List (List ℕ)) (r : Row) → Stands d → IsRow d fs r → draft_rows (with_row d r) ≡ draft_rows d ++ fs ∷ []
added d fs (row.Var n) stands h =
    ap (λ x. head d.parts.version ∷ x) (
    ap (λ x. (map (declared (codes "var")) (d.parts.vars ++ n ∷ []) ++ map (declared (codes "lock")) d.parts.locks) ++ x) (ap (open_rows (d.parts.vars ++ n ∷ []) d.parts.locks d.left) h.3)
    ∙ append-nil (map (declared (codes "var")) (d.parts.vars ++ n ∷ []) ++ map (declared (codes "lock")) d.parts.locks)
    ∙ ap (λ x. map (declared (codes "var")) (d.parts.vars ++ n ∷ []) ++ map (declared (codes "lock")) x) h.2
    ∙ append-nil (map (declared (codes "var")) (d.parts.vars ++ n ∷ []))
    ∙ map-append (declared (codes "var")) d.parts.vars (n ∷ [])
    ∙ ap (λ f. map (declared (codes "var")) d.parts.vars ++ f ∷ []) (sym h.0)
    ∙ ap (λ x. x ++ fs ∷ []) (sym (append-nil (map (declared (codes "var")) d.parts.vars)))
    ∙ ap (λ x. (map (declared (codes "var")) d.parts.vars ++ map (declared (codes "lock")) x) ++ fs ∷ []) (sym h.2)
    ∙ ap (λ x. x ++ fs ∷ []) (sym (append-nil (names_rows d.parts)))
    ∙ ap (λ x. (names_rows d.parts ++ x) ++ fs ∷ []) (ap (open_rows d.parts.vars d.parts.locks d.left) (sym h.3)))
added d fs (row.Lock n) stands h =
    ap (λ x. head d.parts.version ∷ x) (
    ap (λ x. (map (declared (codes "var")) d.parts.vars ++ map (declared (codes "lock")) (d.parts.locks ++ n ∷ [])) ++ x) (ap (open_rows d.parts.vars (d.parts.locks ++ n ∷ []) d.left) h.2)
    ∙ append-nil (map (declared (codes "var")) d.parts.vars ++ map (declared (codes "lock")) (d.parts.locks ++ n ∷ []))
    ∙ ap (λ x. map (declared (codes "var")) d.parts.vars ++ x) (map-append (declared (codes "lock")) d.parts.locks (n ∷ []))
    ∙ ap (λ f. map (declared (codes "var")) d.parts.vars ++ (map (declared (codes "lock")) d.parts.locks ++ f ∷ [])) (sym h.0)
    ∙ sym (append_assoc (map (declared (codes "var")) d.parts.vars) (map (declared (codes "lock")) d.parts.locks) (fs ∷ []))
    ∙ ap (λ x. x ++ fs ∷ []) (sym (append-nil (names_rows d.parts)))
    ∙ ap (λ x. (names_rows d.parts ++ x) ++ fs ∷ []) (ap (open_rows d.parts.vars d.parts.locks d.left) (sym h.2)))
added d fs (row.Thread n count) stands h =
    ap (λ x. head d.parts.version ∷ x) (
    ap (λ x. names_rows d.parts ++ x) (
    open_thread d.parts.vars d.parts.locks d.parts.threads n count
    ∙ ap (λ f. open_rows d.parts.vars d.parts.locks 0 d.parts.threads ++ f ∷ []) (sym h.0)
    ∙ ap (λ k. open_rows d.parts.vars d.parts.locks k d.parts.threads ++ fs ∷ []) (sym h.1))
    ∙ sym (append_assoc (names_rows d.parts) (open_rows d.parts.vars d.parts.locks d.left d.parts.threads) (fs ∷ [])))
added d fs (row.Line l) stands h =
    let t = some_thread d stands h.1 in
    ap (λ x. head d.parts.version ∷ x) (
    ap (λ x. names_rows d.parts ++ x) (
    ap (λ ts. open_rows d.parts.vars d.parts.locks (d.left - 1) (with_line ts l)) t.2
    ∙ open_line d.parts.vars d.parts.locks d.left t.0 t.1 l h.1
    ∙ ap (λ ts. open_rows d.parts.vars d.parts.locks d.left ts ++ line d.parts.vars d.parts.locks l ∷ []) (sym t.2)
    ∙ ap (λ f. open_rows d.parts.vars d.parts.locks d.left d.parts.threads ++ f ∷ []) (sym h.0))
    ∙ sym (append_assoc (names_rows d.parts) (open_rows d.parts.vars d.parts.locks d.left d.parts.threads) (fs ∷ [])))

not_empty : (ts : List ThreadCode) (t : ThreadCode) → ts ++ t ∷ [] ≡ [] → ⊥
not_empty [] t e = cc
not_empty (u ∷ ts) t e = cc

line_there : (ts : List ThreadCode) (l : Line) → with_line ts l ≡ [] → ts ≡ []
line_there [] l e = refl
line_there (t ∷ []) l e = absurd cc
line_there (t ∷ u ∷ ts) l e = absurd cc

pub still : (d : Draft) (fs : List (List ℕ)) (r : Row) → Stands d → IsRow d fs r → Stands (with_row d r)
still d fs (row.Var n) stands h some e = stands some e
still d fs (row.Lock n) stands h some e = stands some e
still d fs (row.Thread n count) stands h some e = not_empty d.parts.threads (record { name = n; lines = [] }) e
still d fs (row.Line l) stands h some e = stands h.1 (line_there d.parts.threads l e)

-- Texts --------------------------------------------------------------------------------------------------------

-- pieces with a byte between
abbrev pub joined : ℕ → List (List ℕ) → List ℕ
joined at [] = []
joined at (f ∷ []) = f
joined at (f ∷ g ∷ fs) = f ++ at ∷ joined at (g ∷ fs)

joined_onto : (at b : ℕ) (f : List ℕ) (fs : List (List ℕ)) → joined at ((b ∷ f) ∷ fs) ≡ b ∷ joined at (f ∷ fs)
joined_onto at b f [] = refl
joined_onto at b f (g ∷ fs) = refl

pub joined_pieces : (at : ℕ) (bs : List ℕ) → joined at (pieces at bs) ≡ bs
joined_pieces at [] = refl
joined_pieces at (b ∷ bs) = by (b == at) refl (pieces at bs) (some_piece at bs) (joined_pieces at bs)
  where
    by : (c : Bool) → (b == at) ≡ c → (ps : List (List ℕ)) → glue [] ps ≡ ps → joined at ps ≡ bs → joined at (if c then [] ∷ ps else onto b ps) ≡ b ∷ bs
    by c e [] some h = absurd cc
    by true e (f ∷ fs) some h = ap (λ x. x ∷ joined at (f ∷ fs)) (sym (eqb-true b at e)) ∙ ap (λ x. b ∷ x) h
    by false e (f ∷ fs) some h = joined_onto at b f fs ∙ ap (λ x. b ∷ x) h

pub spelled_is : (fs : List (List ℕ)) → spelled fs ≡ joined 32 fs ++ codes "\n"
spelled_is [] = refl
spelled_is (f ∷ []) = refl
spelled_is (f ∷ g ∷ fs) = ap (λ x. f ++ 32 ∷ x) (spelled_is (g ∷ fs)) ∙ sym (append_assoc f (32 ∷ joined 32 (g ∷ fs)) (codes "\n"))

pub spelled_line : (l : List ℕ) → spelled (pieces 32 l) ≡ l ++ codes "\n"
spelled_line l = spelled_is (pieces 32 l) ∙ ap (λ x. x ++ codes "\n") (joined_pieces 32 l)

pub went_on : (n : ℕ) (f : Row → Result Parts ℕ) (o : Option Row) (p : Parts) → go_on n f o ≡ Ok p → (r : Row) × (o ≡ Some r) × (f r ≡ Ok p)
went_on n f None p h = absurd cc
went_on n f (Some r) p h = (r, refl, h)

pub ended_is : (d : Draft) (n : ℕ) (l : List ℕ) (p : Parts) → ended d n l ≡ Ok p → (l ≡ []) × (d.left ≡ 0) × (d.parts ≡ p)
ended_is d n l p h = by (is_none l && d.left == 0) refl h
  where
    by : (b : Bool) → (is_none l && d.left == 0) ≡ b → (if b then Ok d.parts else Err n) ≡ Ok p → (l ≡ []) × (d.left ≡ 0) × (d.parts ≡ p)
    by true e h = let q = and_parts (is_none l) (d.left == 0) e in (none_there l q.0, eqb-true d.left 0 q.1, cc)
    by false e h = absurd cc

whole : (d : Draft) → d.left ≡ 0 → draft_rows d ≡ rows d.parts
whole d z = ap (λ x. head d.parts.version ∷ (names_rows d.parts ++ x)) (ap (λ k. open_rows d.parts.vars d.parts.locks k d.parts.threads) z ∙ open_none d.parts.vars d.parts.locks d.parts.threads)

pub read_sound : (ls : List (List ℕ)) (d : Draft) (n : ℕ) (p : Parts) → Stands d → read_lines ls d n ≡ Ok p → flat_map spelled (draft_rows d) ++ joined 10 ls ≡ listing p
read_sound [] d n p stands h = absurd cc
read_sound (l ∷ []) d n p stands h =
    let e = ended_is d n l p h in
    ap (λ x. flat_map spelled (draft_rows d) ++ x) e.0 ∙ append-nil (flat_map spelled (draft_rows d)) ∙ ap (flat_map spelled) (whole d e.1) ∙ ap listing e.2
read_sound (l ∷ m ∷ ls) d n p stands h =
    let g = went_on n (λ r. read_lines (m ∷ ls) (with_row d r) (n + 1)) (row_of d (pieces 32 l)) p h in
    let r = row_is d (pieces 32 l) g.0 g.1 in
    let rest = read_sound (m ∷ ls) (with_row d g.0) (n + 1) p (still d (pieces 32 l) g.0 stands r) g.2 in
    sym (ap (λ x. flat_map spelled x ++ joined 10 (m ∷ ls)) (added d (pieces 32 l) g.0 stands r)
    ∙ ap (λ x. x ++ joined 10 (m ∷ ls)) (flat_map-append spelled (draft_rows d) (pieces 32 l ∷ []))
    ∙ ap (λ x. (flat_map spelled (draft_rows d) ++ x) ++ joined 10 (m ∷ ls)) (append-nil (spelled (pieces 32 l)) ∙ spelled_line l)
    ∙ regroup (flat_map spelled (draft_rows d)) l (joined 10 (m ∷ ls)))
    ∙ rest
  where
    regroup : (a b c : List ℕ) → (a ++ (b ++ 10 ∷ [])) ++ c ≡ a ++ (b ++ 10 ∷ c)
    regroup a b c = append_assoc a (b ++ 10 ∷ []) c ∙ ap (λ x. a ++ x) (append_assoc b (10 ∷ []) c)

pub version_is : (l : List ℕ) (v : ℕ) → version_of l ≡ Some v → l ++ codes "\n" ≡ spelled (head v)
version_is l v h = elim (chosen (bytes_eq l (codes "code 1")) (Some 1) (if bytes_eq l (codes "code 2") then Some 2 else None) v h) [
  | inl c ↦ (let e : 1 ≡ v = cc (c.1) in ap (λ x. x ++ codes "\n") (same_word l (codes "code 1") c.0) ∙ one ∙ ap (λ k. spelled (head k)) e)
  | inr h ↦ (elim (chosen (bytes_eq l (codes "code 2")) (Some 2) None v h) [
    | inl c ↦ (let e : 2 ≡ v = cc (c.1) in ap (λ x. x ++ codes "\n") (same_word l (codes "code 2") c.0) ∙ two ∙ ap (λ k. spelled (head k)) e)
    | inr h ↦ absurd cc
  ])
]
  where
    one : codes "code 1" ++ codes "\n" ≡ spelled (head 1)
    one = ap (λ x. spelled (codes "code" ∷ x ∷ [])) (sym (decimal_digit 1 (omega arith)))

    two : codes "code 2" ++ codes "\n" ≡ spelled (head 2)
    two = ap (λ x. spelled (codes "code" ∷ x ∷ [])) (sym (decimal_digit 2 (omega arith)))

pub begun_with : (ls : List (List ℕ)) (o : Option ℕ) (p : Parts) → begin_with ls o ≡ Ok p → (v : ℕ) × (o ≡ Some v) × (read_lines ls (begun v) 2 ≡ Ok p)
begun_with ls None p h = absurd cc
begun_with ls (Some v) p h = (v, refl, h)

text_joined : (ls : List (List ℕ)) (p : Parts) → read_text ls ≡ Ok p → joined 10 ls ≡ listing p
text_joined [] p h = absurd cc
text_joined (l ∷ []) p h = absurd cc
text_joined (l ∷ m ∷ ls) p h =
    let g = begun_with (m ∷ ls) (version_of l) p h in
    let none : Stands (begun g.0) = λ some e. omega (arith, some) in
    let rest = read_sound (m ∷ ls) (begun g.0) 2 p none g.2 in
    sym (append_assoc l (codes "\n") (joined 10 (m ∷ ls))) ∙ ap (λ x. x ++ joined 10 (m ∷ ls)) (version_is l g.0 g.1 ∙ sym (append-nil (spelled (head g.0)))) ∙ rest

-- A text that is read as parts is their listing.
pub text_sound : (bs : List ℕ) (p : Parts) → read_text (pieces 10 bs) ≡ Ok p → bs ≡ listing p
text_sound bs p h = sym (joined_pieces 10 bs) ∙ text_joined (pieces 10 bs) p h
