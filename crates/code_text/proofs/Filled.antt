-- A draft in which the lines that are to come are filled in has a listing.
use Rattle.std.proofs.Common.{◌≡◌, ℕ, ◌+◌, ◌-◌, ◌<◌, List, [], ◌∷◌, ◌++◌, length, map, flat_map, replicate, refl, ap, sym, ◌∙◌, subst, arith, append_assoc, length-append, ◌⊎◌}
use Rattle.std.proofs.lemmas.List.{append-nil, map-append, length-replicate}
use Rattle.cov_expr.specs.Names.{IsName}
use Rattle.cov_expr.specs.Words.{IsWord}
use Rattle.risc_machine.specs.declared.parts.Instr.TheVariants.{Nop}
use Rattle.risc_machine.specs.declared.parts.Line.{Line}
use Rattle.risc_machine.specs.declared.parts.Parts.{Parts}
use Rattle.risc_machine.specs.declared.parts.ThreadCode.{ThreadCode}
use Rattle.code_text.specs.Inside.ListingReading.{with_line, with_row, begun}
use Rattle.code_text.specs.Listing.{line, thread_head, thread_rows, rows, head, IsListed, IsListedLine, IsListedThread}
use Rattle.code_text.specs.Inside.ListingReading.{Draft}
use Rattle.code_text.specs.declared.row.Row.{Row}
use Rattle.code_text.specs.declared.row.Row.TheVariants as row
use Rattle.code_text.proofs.ChainLaws.{Chain}
use Rattle.code_text.proofs.Every.{Every, every_from, all_from, every_append, every_front, every_copy, every_same}
use Rattle.code_text.proofs.SoundLaws.{IsRow, Stands, row_is, added, still, draft_rows, names_rows, open_rows}

-- Item by item ----------------------------------------------------------------------------------------------------

pub record IsThread (version vars locks : ℕ) (t : ThreadCode) : Type 0 where
  pub name : IsName t.name
  pub count : IsWord (length t.lines)
  pub lines : Every (IsListedLine version vars locks) t.lines

pub record HasListing (p : Parts) : Type 0 where
  pub version : (p.version ≡ 1) ⊎ (p.version ≡ 2)
  pub vars : Every IsName p.vars
  pub locks : Every IsName p.locks
  pub threads : Every (IsThread p.version (length p.vars) (length p.locks)) p.threads

pub has_listing : (p : Parts) → IsListed p → HasListing p
has_listing p h = record {
  version = h.version;
  vars = every_from IsName p.vars h.vars;
  locks = every_from IsName p.locks h.locks;
  threads = every_same (IsListedThread p.version (length p.vars) (length p.locks)) (IsThread p.version (length p.vars) (length p.locks))
      (λ t g. record { name = g.name; count = g.count; lines = every_from (IsListedLine p.version (length p.vars) (length p.locks)) t.lines g.lines })
      p.threads (every_from (IsListedThread p.version (length p.vars) (length p.locks)) p.threads h.threads);
}

pub is_listed : (p : Parts) → HasListing p → IsListed p
is_listed p h = record {
  version = h.version;
  vars = all_from IsName p.vars h.vars;
  locks = all_from IsName p.locks h.locks;
  threads = all_from (IsListedThread p.version (length p.vars) (length p.locks)) p.threads
      (every_same (IsThread p.version (length p.vars) (length p.locks)) (IsListedThread p.version (length p.vars) (length p.locks))
      (λ t g. record { name = g.name; count = g.count; lines = all_from (IsListedLine p.version (length p.vars) (length p.locks)) t.lines g.lines }) p.threads h.threads);
}

-- Lines that are to come ------------------------------------------------------------------------------------------

abbrev nop : Line
nop = record { weight = 0; instr = Nop }

-- with so many lines more of the last thread
abbrev fill : ℕ → List ThreadCode → List ThreadCode
fill left [] = []
fill left (t ∷ []) = record { name = t.name; lines = t.lines ++ replicate left nop } ∷ []
fill left (t ∷ u ∷ ts) = t ∷ fill left (u ∷ ts)

abbrev pub filled : Draft → Parts
filled d = record (d.parts) { threads = fill d.left d.parts.threads }

fill_more : (left : ℕ) (t x : ThreadCode) (xs ts : List ThreadCode) → ts ≡ x ∷ xs → fill left (t ∷ ts) ≡ t ∷ fill left ts
fill_more left t x xs ts e = subst (λ us. fill left (t ∷ us) ≡ t ∷ fill left us) (sym e) refl

fill_none : (ts : List ThreadCode) → fill 0 ts ≡ ts
fill_none [] = refl
fill_none (t ∷ []) = ap (λ ls. record { name = t.name; lines = ls } ∷ []) (append-nil t.lines)
fill_none (t ∷ u ∷ ts) = ap (λ us. t ∷ us) (fill_none (u ∷ ts))

fill_new : (ts : List ThreadCode) (n : List ℕ) (count : ℕ) → fill count (ts ++ record { name = n; lines = [] } ∷ []) ≡ ts ++ record { name = n; lines = replicate count nop } ∷ []
fill_new [] n count = refl
fill_new (t ∷ []) n count = refl
fill_new (t ∷ u ∷ ts) n count = ap (λ us. t ∷ us) (fill_new (u ∷ ts) n count)

pub filled_whole : (d : Draft) → d.left ≡ 0 → filled d ≡ d.parts
filled_whole d z = ap (λ ts. record (d.parts) { threads = ts }) (ap (λ k. fill k d.parts.threads) z ∙ fill_none d.parts.threads)

module _ (version vars locks : ℕ) where
  nop_listed : IsListedLine version vars locks nop
  nop_listed = record { weight = omega arith; instr = record { registers = refl; variable = refl; lock = refl; output = refl; words = tt } }

  -- a line more in the place of one that is to come
  line_keeps : (left : ℕ) (ts : List ThreadCode) (l : Line) → 0 < left → IsListedLine version vars locks l → Every (IsThread version vars locks) (fill left ts) → Every (IsThread version vars locks) (fill (left - 1) (with_line ts l))
  line_keeps left [] l some g h = tt
  line_keeps left (t ∷ []) l some g h = (
    record {
      name = h.0.name;
      count = subst IsWord (
          let before : length (t.lines ++ replicate left nop) ≡ length t.lines + left = length-append t.lines (replicate left nop) ∙ ap (λ k. length t.lines + k) (length-replicate left nop) in
          let one : length (t.lines ++ l ∷ []) ≡ length t.lines + 1 = length-append t.lines (l ∷ []) in
          let after : length ((t.lines ++ l ∷ []) ++ replicate (left - 1) nop) ≡ length (t.lines ++ l ∷ []) + (left - 1) =
          length-append (t.lines ++ l ∷ []) (replicate (left - 1) nop) ∙ ap (λ k. length (t.lines ++ l ∷ []) + k) (length-replicate (left - 1) nop) in
          let e : length (t.lines ++ replicate left nop) ≡ length ((t.lines ++ l ∷ []) ++ replicate (left - 1) nop) = omega (arith, before, one, after, some) in e) h.0.count;
      lines = every_append (IsListedLine version vars locks) (t.lines ++ l ∷ []) (replicate (left - 1) nop)
          (every_append (IsListedLine version vars locks) t.lines (l ∷ []) (every_front (IsListedLine version vars locks) t.lines (replicate left nop) h.0.lines) (g, tt))
          (every_copy (IsListedLine version vars locks) (left - 1) nop nop_listed);
    },
    tt,
  )
  line_keeps left (t ∷ u ∷ ts) l some g h =
      let w = with_line_some u ts l in
      subst (Every (IsThread version vars locks)) (sym (fill_more (left - 1) t w.0 w.1 (with_line (u ∷ ts) l) w.2)) (h.0, line_keeps left (u ∷ ts) l some g h.1)
    where
      with_line_some : (t : ThreadCode) (ts : List ThreadCode) (l : Line) → (x : ThreadCode) × (xs : List ThreadCode) × (with_line (t ∷ ts) l ≡ x ∷ xs)
      with_line_some t [] l = (record { name = t.name; lines = t.lines ++ l ∷ [] }, [], refl)
      with_line_some t (u ∷ ts) l = (t, with_line (u ∷ ts) l, refl)

-- Rows ------------------------------------------------------------------------------------------------------------

keeps : (d : Draft) (fs : List (List ℕ)) (r : Row) → IsRow d fs r → HasListing (filled d) → HasListing (filled (with_row d r))
keeps d fs (row.Var n) g h = record {
  version = h.version;
  vars = every_append IsName d.parts.vars (n ∷ []) h.vars (g.4, tt);
  locks = h.locks;
  threads = subst (λ ts. Every (IsThread d.parts.version (length (d.parts.vars ++ n ∷ [])) (length d.parts.locks)) (fill d.left ts)) (sym g.3) tt;
}
keeps d fs (row.Lock n) g h = record {
  version = h.version;
  vars = h.vars;
  locks = every_append IsName d.parts.locks (n ∷ []) h.locks (g.3, tt);
  threads = subst (λ ts. Every (IsThread d.parts.version (length d.parts.vars) (length (d.parts.locks ++ n ∷ []))) (fill d.left ts)) (sym g.2) tt;
}
keeps d fs (row.Thread n count) g h =
    let Each : ThreadCode → Type 0 = IsThread d.parts.version (length d.parts.vars) (length d.parts.locks) in
    record {
      version = h.version;
      vars = h.vars;
      locks = h.locks;
      threads = subst (Every (IsThread d.parts.version (length d.parts.vars) (length d.parts.locks))) (sym (fill_new d.parts.threads n count))
          (every_append (IsThread d.parts.version (length d.parts.vars) (length d.parts.locks)) d.parts.threads (record { name = n; lines = replicate count nop } ∷ [])
          (subst (Every (IsThread d.parts.version (length d.parts.vars) (length d.parts.locks))) (ap (λ k. fill k d.parts.threads) g.1 ∙ fill_none d.parts.threads) h.threads) (
            record {
              name = g.2;
              count = subst IsWord (sym (length-replicate count nop)) g.3;
              lines = every_copy (IsListedLine d.parts.version (length d.parts.vars) (length d.parts.locks)) count nop (nop_listed d.parts.version (length d.parts.vars) (length d.parts.locks));
            },
            tt,
          ));
    }
keeps d fs (row.Line l) g h = record {
  version = h.version;
  vars = h.vars;
  locks = h.locks;
  threads = line_keeps d.parts.version (length d.parts.vars) (length d.parts.locks) d.left d.parts.threads l g.1 g.2 h.threads;
}

-- what is true of a draft that was reached
pub record IsReached (d : Draft) (rs : List (List (List ℕ))) (e : Draft) : Type 0 where
  pub stands : Stands e
  pub listing : HasListing (filled e)
  pub grown : draft_rows e ≡ draft_rows d ++ rs

pub reached : (rs : List (List (List ℕ))) (d e : Draft) → Chain d rs e → Stands d → HasListing (filled d) → IsReached d rs e
reached [] d e h stands g = subst (IsReached d []) h (record { stands = stands; listing = g; grown = sym (append-nil (draft_rows d)) })
reached (fs ∷ rs) d e h stands g =
    let r = row_is d fs h.0 h.1 in
    let rest = reached rs (with_row d h.0) e h.2 (still d fs h.0 stands r) (keeps d fs h.0 r g) in
    record {
      stands = rest.stands;
      listing = rest.listing;
      grown = rest.grown ∙ ap (λ x. x ++ rs) (added d fs h.0 stands r) ∙ append_assoc (draft_rows d) (fs ∷ []) rs;
    }

pub begun_listing : (version : ℕ) → (version ≡ 1) ⊎ (version ≡ 2) → HasListing (filled (begun version))
begun_listing version h = record { version = h; vars = tt; locks = tt; threads = tt }

-- the rows of a draft, and then those that are to come
module _ (vars locks : List (List ℕ)) where
  fill_rows : (left : ℕ) (t : ThreadCode) (ts : List ThreadCode) → flat_map (thread_rows vars locks) (fill left (t ∷ ts)) ≡ open_rows vars locks left (t ∷ ts) ++ map (line vars locks) (replicate left nop)
  fill_rows left t [] =
      append-nil (thread_rows vars locks (record { name = t.name; lines = t.lines ++ replicate left nop }))
      ∙ ap (λ n. thread_head t.name n ∷ map (line vars locks) (t.lines ++ replicate left nop)) (length-append t.lines (replicate left nop) ∙ ap (λ k. length t.lines + k) (length-replicate left nop))
      ∙ ap (λ x. thread_head t.name (length t.lines + left) ∷ x) (map-append (line vars locks) t.lines (replicate left nop))
  fill_rows left t (u ∷ ts) =
      ap (λ x. thread_rows vars locks t ++ x) (fill_rows left u ts) ∙ sym (append_assoc (thread_rows vars locks t) (open_rows vars locks left (u ∷ ts)) (map (line vars locks) (replicate left nop)))

  rest_rows : (left : ℕ) (ts : List ThreadCode) → (ys : List (List (List ℕ))) × (flat_map (thread_rows vars locks) (fill left ts) ≡ open_rows vars locks left ts ++ ys)
  rest_rows left [] = ([], refl)
  rest_rows left (t ∷ ts) = (map (line vars locks) (replicate left nop), fill_rows left t ts)

pub filled_rows : (d : Draft) → (ys : List (List (List ℕ))) × (rows (filled d) ≡ draft_rows d ++ ys)
filled_rows d =
    let k = rest_rows d.parts.vars d.parts.locks d.left d.parts.threads in (
      k.0,
      ap (λ x. head d.parts.version ∷ x) (ap (λ x. names_rows d.parts ++ x) k.1 ∙ sym (append_assoc (names_rows d.parts) (open_rows d.parts.vars d.parts.locks d.left d.parts.threads) k.0)),
    )
