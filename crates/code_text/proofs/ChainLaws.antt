-- Rows that a draft takes one after another are read.
use Rattle.std.proofs.Common.{◌≡◌, ℕ, ◌+◌, List, [], ◌∷◌, ◌++◌, map, refl, ap, sym, ◌∙◌, subst, eq-eqb, if◌then◌else◌, Some, None, Ok, Err}
use Rattle.code_text.specs.Inside.ListingReading.{pieces, row_of, with_row, ended, go_on, read_lines}
use Rattle.code_text.specs.Inside.ListingReading.{Draft}
use Rattle.code_text.specs.declared.row.Row.{Row}
use Rattle.code_text.proofs.Every.{Every}
use Rattle.code_text.proofs.Cuts.{glue, some_piece}
use Rattle.code_text.proofs.PiecesBack.{AreFree, pieces_joined, pieces_free}
use Rattle.code_text.proofs.SoundLaws.{joined}

-- each of these rows is taken, and the last draft is `e`
abbrev pub Chain : Draft → List (List (List ℕ)) → Draft → Type 0
Chain d [] e = d ≡ e
Chain d (fs ∷ rs) e = (r : Row) × (row_of d fs ≡ Some r) × Chain (with_row d r) rs e

pub chain_append : (xs ys : List (List (List ℕ))) (d e f : Draft) → Chain d xs e → Chain e ys f → Chain d (xs ++ ys) f
chain_append [] ys d e f h k = subst (λ q. Chain q ys f) (sym h) k
chain_append (x ∷ xs) ys d e f h k = (h.0, h.1, chain_append xs ys (with_row d h.0) e f h.2 k)

-- a row that the draft takes behind others
pub chain_takes : (xs ys : List (List (List ℕ))) (fs : List (List ℕ)) (d e f : Draft) → Chain d (xs ++ fs ∷ ys) f → Chain d xs e → row_of e fs ≡ None → ⊥
chain_takes [] ys fs d e f h k none = let e : Some h.0 ≡ None = sym h.1 ∙ ap (λ q. row_of q fs) k ∙ none in cc
chain_takes (x ∷ xs) ys fs d e f h k none =
    let same : Some h.0 ≡ Some k.0 = sym h.1 ∙ k.1 in
    let r : h.0 ≡ k.0 = cc same in
    chain_takes xs ys fs (with_row d k.0) e f (subst (λ r. Chain (with_row d r) (xs ++ fs ∷ ys) f) r h.2) k.2 none

-- a row has a field, and no field has the byte `at`
abbrev pub IsRowWithout : ℕ → List (List ℕ) → Type 0
IsRowWithout at [] = ⊥
IsRowWithout at (f ∷ fs) = AreFree at (f ∷ fs)

abbrev pub AreRowsWithout : ℕ → List (List (List ℕ)) → Type 0
AreRowsWithout at rs = Every (IsRowWithout at) rs

pub split : (fs : List (List ℕ)) → IsRowWithout 32 fs → pieces 32 (joined 32 fs) ≡ fs
split [] h = absurd h
split (f ∷ fs) h = pieces_joined 32 f fs refl h.0 h.1

pub pieces_row : (l : List ℕ) → IsRowWithout 32 (pieces 32 l)
pieces_row l = by (pieces 32 l) (some_piece 32 l) (pieces_free 32 l)
  where
    by : (fs : List (List ℕ)) → glue [] fs ≡ fs → AreFree 32 fs → IsRowWithout 32 fs
    by [] some free = absurd cc
    by (f ∷ fs) some free = free

next_line : (l : List ℕ) (rs : List (List (List ℕ))) (d : Draft) (n : ℕ)
    → read_lines (l ∷ (map (joined 32) rs ++ [] ∷ [])) d n ≡ go_on n (λ r. read_lines (map (joined 32) rs ++ [] ∷ []) (with_row d r) (n + 1)) (row_of d (pieces 32 l))
next_line l [] d n = refl
next_line l (r ∷ rs) d n = refl

pub read_chain : (rs : List (List (List ℕ))) (d e : Draft) (n : ℕ) → AreRowsWithout 32 rs → Chain d rs e → e.left ≡ 0 → read_lines (map (joined 32) rs ++ [] ∷ []) d n ≡ Ok e.parts
read_chain [] d e n a h z = ap (λ q. ended q n []) h ∙ ap (λ b. if b then Ok e.parts else Err n) (eq-eqb e.left 0 z)
read_chain (fs ∷ rs) d e n a h z =
    next_line (joined 32 fs) rs d n
    ∙ ap (go_on n (λ r. read_lines (map (joined 32) rs ++ [] ∷ []) (with_row d r) (n + 1))) (ap (row_of d) (split fs a.0) ∙ h.1)
    ∙ read_chain rs (with_row d h.0) e (n + 1) a.1 h.2 z
