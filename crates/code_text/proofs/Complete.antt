-- The listing of parts is read, as the parts in which each number of a variable or a lock is that of the first declaration of
-- its name. These are the parts themselves where no name equals an earlier one.
use Rattle.std.proofs.Common.{◌≡◌, ℕ, nat_lt, ◌<◌, ◌^◌, ◌==◌, ◌||◌, List, [], ◌∷◌, ◌++◌, length, map, flat_map, codes, zero, suc, refl, ap, sym, ◌∙◌, arith, append_assoc, true, if◌then◌else◌, Option, Some, None, Ok, ◌⊎◌, inl, inr}
use Rattle.std.specs.Option.{option_or}
use Rattle.std.proofs.lemmas.Bool.{ltb-true}
use Rattle.std.proofs.lemmas.Fmt.{decimal_digit}
use Rattle.cov_expr.specs.Names.{IsName}
use Rattle.cov_expr.specs.declared.expr.Op.{Op}
use Rattle.cov_expr.specs.declared.expr.Op.TheVariants.{Add, Sub, Mul, And, Or, Xor, Eq, Ne, Lt, Le, Both, Either}
use Rattle.risc_machine.specs.Faults.{fault_of, repeated, names_of, thread_names, first_in, thread_fault, name_fault}
use Rattle.risc_machine.specs.declared.parts.CodeBad.TheVariants as bad
use Rattle.risc_machine.specs.declared.parts.Instr.{Instr}
use Rattle.risc_machine.specs.declared.parts.Instr.TheVariants.{Load, Store, Jump, Jz, Nop, MovC, MovR, Bin, Acquire, Release, Out}
use Rattle.risc_machine.specs.declared.parts.Line.{Line}
use Rattle.risc_machine.specs.declared.parts.Parts.{Parts}
use Rattle.risc_machine.specs.declared.parts.ThreadCode.{ThreadCode}
use Rattle.risc_machine.proofs.FaultLaws.{repeated-append}
use Rattle.risc_machine.proofs.StepLaws.{none_left, none_right}
use Rattle.code_text.specs.Inside.ListingReading.{pieces, read_text, begin_with, begun, version_of}
use Rattle.code_text.specs.Listing.{name, sign, declared, instr, line, head, thread_rows, rows, spelled, listing, IsListedInstr, IsListedLine}
use Rattle.code_text.proofs.ChainLaws.{IsRowWithout, AreRowsWithout, read_chain}
use Rattle.code_text.proofs.Every.{Every, every_append}
use Rattle.code_text.proofs.Filled.{HasListing, IsThread}
use Rattle.code_text.proofs.FreeLaws.{free_name, free_words, free_decimal, free_register}
use Rattle.code_text.proofs.InstrBack.{first_id, first_instr, first_line, id_back}
use Rattle.code_text.proofs.NamesBack.{AreExact, exact}
use Rattle.code_text.proofs.PhaseLaws.{first_thread, first_parts, body, chain_body}
use Rattle.code_text.proofs.PiecesBack.{IsFree, AreFree, free_append, piece_first}
use Rattle.code_text.proofs.SoundLaws.{joined, spelled_is}

-- No field has a blank or a line feed -----------------------------------------------------------------------------

module _ (at : ℕ) (low : at < 48) (signs : (o : Op) → IsFree at (sign o)) where
  free_at : (names : List (List ℕ)) (x : ℕ) → Every IsName names → IsFree at (name names x)
  free_at [] x h = tt
  free_at (n ∷ ns) zero h = free_name at low n h.0
  free_at (n ∷ ns) (suc x) h = free_at ns x h.1

  module _ (version : ℕ) (vars locks : List (List ℕ)) (v : Every IsName vars) (l : Every IsName locks) where
    free_instr : (i : Instr) → IsListedInstr version (length vars) (length locks) i → AreFree at (instr vars locks i)
    free_instr (Load r x) h = (free_words at low (codes "load") refl, (free_register at low r, (free_at vars x v, tt)))
    free_instr (Store x r) h = (free_words at low (codes "store") refl, (free_at vars x v, (free_register at low r, tt)))
    free_instr (Jump i) h = (free_words at low (codes "jump") refl, (free_decimal at low i (omega (arith, h.words)), tt))
    free_instr (Jz r i) h = (free_words at low (codes "jz") refl, (free_register at low r, (free_decimal at low i (omega (arith, h.words)), tt)))
    free_instr Nop h = (free_words at low (codes "nop") refl, tt)
    free_instr (MovC r k) h = (free_words at low (codes "movc") refl, (free_register at low r, (free_decimal at low k (omega (arith, h.words)), tt)))
    free_instr (MovR r q) h = (free_words at low (codes "movr") refl, (free_register at low r, (free_register at low q, tt)))
    free_instr (Bin o r q) h = (free_words at low (codes "op") refl, (signs o, (free_register at low r, (free_register at low q, tt))))
    free_instr (Acquire x) h = (free_words at low (codes "acquire") refl, (free_at locks x l, tt))
    free_instr (Release x) h = (free_words at low (codes "release") refl, (free_at locks x l, tt))
    free_instr (Out r) h = (free_words at low (codes "out") refl, (free_register at low r, tt))

    free_lines : (ls : List Line) → Every (IsListedLine version (length vars) (length locks)) ls → AreRowsWithout at (map (line vars locks) ls)
    free_lines [] h = tt
    free_lines (x ∷ xs) h = ((free_decimal at low x.weight (omega (arith, h.0.weight)), free_instr x.instr h.0.instr), free_lines xs h.1)

    free_threads : (ts : List ThreadCode) → Every (IsThread version (length vars) (length locks)) ts → AreRowsWithout at (flat_map (thread_rows vars locks) ts)
    free_threads [] h = tt
    free_threads (t ∷ ts) h = (
      (free_words at low (codes "thread") refl, (free_name at low t.name h.0.name, (free_decimal at low (length t.lines) (omega (arith, h.0.count)), tt))),
      every_append (IsRowWithout at) (map (line vars locks) t.lines) (flat_map (thread_rows vars locks) ts) (free_lines t.lines h.0.lines) (free_threads ts h.1),
    )

  free_names : (word : List ℕ) → IsFree at word → (ns : List (List ℕ)) → Every IsName ns → AreRowsWithout at (map (declared word) ns)
  free_names word w [] h = tt
  free_names word w (n ∷ ns) h = ((w, (free_name at low n h.0, tt)), free_names word w ns h.1)

  free_body : (p : Parts) → HasListing p → AreRowsWithout at (body p)
  free_body p h =
      every_append (IsRowWithout at) (map (declared (codes "var")) p.vars ++ map (declared (codes "lock")) p.locks) (flat_map (thread_rows p.vars p.locks) p.threads)
      (every_append (IsRowWithout at) (map (declared (codes "var")) p.vars) (map (declared (codes "lock")) p.locks)
      (free_names (codes "var") (free_words at low (codes "var") refl) p.vars h.vars) (free_names (codes "lock") (free_words at low (codes "lock") refl) p.locks h.locks))
      (free_threads p.version p.vars p.locks h.vars h.locks p.threads h.threads)

  free_head : (v : ℕ) → (v ≡ 1) ⊎ (v ≡ 2) → IsRowWithout at (head v)
  free_head v h = (free_words at low (codes "code") refl, (free_decimal at low v (small h), tt))
    where
      small : (v ≡ 1) ⊎ (v ≡ 2) → v < 2 ^ 64
      small (inl e) = omega (arith, e)
      small (inr e) = omega (arith, e)

  pub free_rows : (p : Parts) → HasListing p → AreRowsWithout at (rows p)
  free_rows p h = (free_head p.version h.version, free_body p h)

blank_signs : (o : Op) → IsFree 32 (sign o)
blank_signs Add = (refl, tt)
blank_signs Sub = (refl, tt)
blank_signs Mul = (refl, tt)
blank_signs And = (refl, tt)
blank_signs Or = (refl, tt)
blank_signs Xor = (refl, tt)
blank_signs Eq = (refl, (refl, tt))
blank_signs Ne = (refl, (refl, tt))
blank_signs Lt = (refl, tt)
blank_signs Le = (refl, (refl, tt))
blank_signs Both = (refl, (refl, tt))
blank_signs Either = (refl, (refl, tt))

feed_signs : (o : Op) → IsFree 10 (sign o)
feed_signs Add = (refl, tt)
feed_signs Sub = (refl, tt)
feed_signs Mul = (refl, tt)
feed_signs And = (refl, tt)
feed_signs Or = (refl, tt)
feed_signs Xor = (refl, tt)
feed_signs Eq = (refl, (refl, tt))
feed_signs Ne = (refl, (refl, tt))
feed_signs Lt = (refl, tt)
feed_signs Le = (refl, (refl, tt))
feed_signs Both = (refl, (refl, tt))
feed_signs Either = (refl, (refl, tt))

pub rows_without_blanks : (p : Parts) → HasListing p → AreRowsWithout 32 (rows p)
rows_without_blanks p h = free_rows 32 (omega arith) blank_signs p h

pub rows_without_feeds : (p : Parts) → HasListing p → AreRowsWithout 10 (rows p)
rows_without_feeds p h = free_rows 10 (omega arith) feed_signs p h

-- Texts -----------------------------------------------------------------------------------------------------------

free_joined : (f : List ℕ) (fs : List (List ℕ)) → AreFree 10 (f ∷ fs) → IsFree 10 (joined 32 (f ∷ fs))
free_joined f [] h = h.0
free_joined f (g ∷ fs) h = free_append 10 f (32 ∷ joined 32 (g ∷ fs)) h.0 (refl, free_joined g fs h.1)

free_row : (fs : List (List ℕ)) → IsRowWithout 10 fs → IsFree 10 (joined 32 fs)
free_row [] h = absurd h
free_row (f ∷ fs) h = free_joined f fs h

pub listing_pieces : (rs : List (List (List ℕ))) → AreRowsWithout 10 rs → pieces 10 (flat_map spelled rs) ≡ map (joined 32) rs ++ [] ∷ []
listing_pieces [] h = refl
listing_pieces (fs ∷ rs) h =
    ap (pieces 10) (ap (λ x. x ++ flat_map spelled rs) (spelled_is fs) ∙ append_assoc (joined 32 fs) (codes "\n") (flat_map spelled rs))
    ∙ piece_first 10 (joined 32 fs) (flat_map spelled rs) refl (free_row fs h.0)
    ∙ ap (λ x. joined 32 fs ∷ x) (listing_pieces rs h.1)

pub version_back : (v : ℕ) → (v ≡ 1) ⊎ (v ≡ 2) → version_of (joined 32 (head v)) ≡ Some v
version_back v (inl e) = ap (λ w. version_of (joined 32 (head w))) e ∙ ap (λ x. version_of (joined 32 (codes "code" ∷ x ∷ []))) (decimal_digit 1 (omega arith)) ∙ ap Some (sym e)
version_back v (inr e) = ap (λ w. version_of (joined 32 (head w))) e ∙ ap (λ x. version_of (joined 32 (codes "code" ∷ x ∷ []))) (decimal_digit 2 (omega arith)) ∙ ap Some (sym e)

begin_list : (l : List ℕ) (rs : List (List (List ℕ))) → read_text (l ∷ (map (joined 32) rs ++ [] ∷ [])) ≡ begin_with (map (joined 32) rs ++ [] ∷ []) (version_of l)
begin_list l [] = refl
begin_list l (r ∷ rs) = refl

pub complete : (p : Parts) → HasListing p → read_text (pieces 10 (listing p)) ≡ Ok (first_parts p)
complete p h =
    ap read_text (listing_pieces (rows p) (rows_without_feeds p h))
    ∙ begin_list (joined 32 (head p.version)) (body p)
    ∙ ap (begin_with (map (joined 32) (body p) ++ [] ∷ [])) (version_back p.version h.version)
    ∙ read_chain (body p) (begun p.version) (record { parts = first_parts p; left = 0 }) 2 (free_body 32 (omega arith) blank_signs p h) (chain_body p h) refl

-- Distinct names --------------------------------------------------------------------------------------------------

module _ (version : ℕ) (vars locks : List (List ℕ)) (v : AreExact vars) (l : AreExact locks) where
  exact_id : (names : List (List ℕ)) → AreExact names → (x : ℕ) → nat_lt x (length names) ≡ true → first_id names x ≡ x
  exact_id names e x h = let g : Some (first_id names x) ≡ Some x = sym (id_back names x h) ∙ e x (ltb-true x (length names) h) in cc g

  exact_instr : (i : Instr) → IsListedInstr version (length vars) (length locks) i → first_instr vars locks i ≡ i
  exact_instr (Load r x) h = ap (Load r) (exact_id vars v x h.variable)
  exact_instr (Store x r) h = ap (λ y. Store y r) (exact_id vars v x h.variable)
  exact_instr (Jump i) h = refl
  exact_instr (Jz r i) h = refl
  exact_instr Nop h = refl
  exact_instr (MovC r k) h = refl
  exact_instr (MovR r q) h = refl
  exact_instr (Bin o r q) h = refl
  exact_instr (Acquire x) h = ap Acquire (exact_id locks l x h.lock)
  exact_instr (Release x) h = ap Release (exact_id locks l x h.lock)
  exact_instr (Out r) h = refl

  exact_lines : (ls : List Line) → Every (IsListedLine version (length vars) (length locks)) ls → map (first_line vars locks) ls ≡ ls
  exact_lines [] h = refl
  exact_lines (x ∷ xs) h =
      ap (λ i. record { weight = x.weight; instr = i } ∷ map (first_line vars locks) xs) (exact_instr x.instr h.0.instr) ∙ ap (λ ys. x ∷ ys) (exact_lines xs h.1)

  exact_threads : (ts : List ThreadCode) → Every (IsThread version (length vars) (length locks)) ts → map (first_thread version vars locks) ts ≡ ts
  exact_threads [] h = refl
  exact_threads (t ∷ ts) h =
      ap (λ ls. record { name = t.name; lines = ls } ∷ map (first_thread version vars locks) ts) (exact_lines t.lines h.0.lines) ∙ ap (λ us. t ∷ us) (exact_threads ts h.1)

same_names : (version : ℕ) (vars locks : List (List ℕ)) (ts : List ThreadCode) → thread_names (map (first_thread version vars locks) ts) ≡ thread_names ts
same_names version vars locks [] = refl
same_names version vars locks (t ∷ ts) = ap (λ ns. t.name ∷ ns) (same_names version vars locks ts)

module _ (p : Parts) (h : HasListing p) where
  unrepeated : repeated [] (names_of p) ≡ None → first_parts p ≡ p
  unrepeated e =
      let a = none_left (repeated [] (p.vars ++ p.locks)) (repeated (p.vars ++ p.locks) (thread_names p.threads)) (sym (repeated-append [] (p.vars ++ p.locks) (thread_names p.threads)) ∙ e) in
      let b = sym (repeated-append [] p.vars p.locks) ∙ a in
      let c = none_left (repeated [] p.vars) (repeated p.vars p.locks) b in
      let d = none_right (repeated [] p.vars) (repeated p.vars p.locks) b in
      ap (λ ts. record p { threads = ts }) (exact_threads p.version p.vars p.locks (exact [] p.vars c) (exact p.vars p.locks d) p.threads h.threads)

  no_version_fault : (q : Parts) → (q.version ≡ 1) ⊎ (q.version ≡ 2) → (if q.version == 1 || q.version == 2 then None else Some (bad.BadVersion q.version)) ≡ None
  no_version_fault q (inl e) = ap (λ v. if v == 1 || v == 2 then None else Some (bad.BadVersion v)) e
  no_version_fault q (inr e) = ap (λ v. if v == 1 || v == 2 then None else Some (bad.BadVersion v)) e

  pub repeated_is_fault : (q : Parts) → (q.version ≡ 1) ⊎ (q.version ≡ 2) → (n : List ℕ) → repeated [] (names_of q) ≡ Some n → fault_of q ≡ Some (bad.SameName n)
  repeated_is_fault q v n e =
      ap (λ o. option_or o (option_or (name_fault (repeated [] (names_of q))) (first_in (thread_fault q) 0 q.threads))) (no_version_fault q v)
      ∙ ap (λ o. option_or (name_fault o) (first_in (thread_fault q) 0 q.threads)) e

  first_named : (n : List ℕ) → repeated [] (names_of p) ≡ Some n → fault_of (first_parts p) ≡ Some (bad.SameName n)
  first_named n e = repeated_is_fault (first_parts p) h.version n (ap (λ ns. repeated [] ((p.vars ++ p.locks) ++ ns)) (same_names p.version p.vars p.locks p.threads) ∙ e)

  -- the first fault is the same
  pub same_fault : fault_of (first_parts p) ≡ fault_of p
  same_fault = by (repeated [] (names_of p)) refl
    where
      by : (o : Option (List ℕ)) → repeated [] (names_of p) ≡ o → fault_of (first_parts p) ≡ fault_of p
      by None e = ap fault_of (unrepeated e)
      by (Some n) e = first_named n e ∙ sym (repeated_is_fault p h.version n e)

  -- parts without a fault are read as they are
  pub faultless_same : fault_of (first_parts p) ≡ None → first_parts p ≡ p
  faultless_same none = by (repeated [] (names_of p)) refl
    where
      by : (o : Option (List ℕ)) → repeated [] (names_of p) ≡ o → first_parts p ≡ p
      by None e = unrepeated e
      by (Some n) e = let g : None ≡ Some (bad.SameName n) = sym none ∙ first_named n e in absurd cc
