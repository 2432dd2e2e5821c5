-- The fields of a line of code are read as the line, in which each number of a variable or a lock is that of the first
-- declaration of its name.
use Rattle.std.proofs.Common.{◌≡◌, ℕ, ◌+◌, ◌<◌, nat_le, nat_lt, zero, suc, List, [], ◌∷◌, length, get_or, refl, ap, sym, ◌∙◌, arith, decimal, Bool, true, false, if◌then◌else◌, Option, Some, None, option_map}
use Rattle.std.proofs.lemmas.Bool.{and_parts, ltb-true}
use Rattle.std.proofs.lemmas.Slice.Eq.{bytes_eq-Decides}
use Rattle.std.specs.Str.{bytes_eq}
use Rattle.risc_machine.specs.declared.parts.Instr.{Instr}
use Rattle.risc_machine.specs.declared.parts.Instr.TheVariants.{Load, Store, Jump, Jz, Nop, MovC, MovR, Bin, Acquire, Release, Out}
use Rattle.risc_machine.specs.declared.parts.Line.{Line}
use Rattle.risc_machine.specs.declared.parts.Parts.{Parts}
use Rattle.code_text.specs.Inside.ListingReading.{both, register_of, number_of, id_from, id_of, with_op, instr_of, line_of, line_with}
use Rattle.code_text.specs.Listing.{register, name, instr, line, IsListedInstr, IsListedLine}
use Rattle.code_text.specs.declared.row.Row.TheVariants as row
use Rattle.code_text.proofs.BackLaws.{taken, number_back, register_back, weight_back, op_back}

-- The first declaration ------------------------------------------------------------------------------------------

abbrev or_else : Option ℕ → ℕ → ℕ
or_else None x = x
or_else (Some y) x = y

-- the number of the first declaration of the name with this number
abbrev pub first_id : List (List ℕ) → ℕ → ℕ
first_id names x = or_else (id_of names (name names x)) x

found_from : (i : ℕ) (names : List (List ℕ)) (x : ℕ) (f : List ℕ) → x < length names → f ≡ get_or names x [] → (j : ℕ) × (id_from i names f ≡ Some j)
found_from i [] x f inside is = absurd (omega (arith, inside))
found_from i (n ∷ ns) zero f inside is = (i, ap (λ c. if c then Some i else id_from (i + 1) ns f) ((bytes_eq-Decides f n).1 is))
found_from i (n ∷ ns) (suc x) f inside is = by (bytes_eq f n) (found_from (i + 1) ns x f (omega (arith, inside)) is)
  where
    by : (b : Bool) → (j : ℕ) × (id_from (i + 1) ns f ≡ Some j) → (j : ℕ) × ((if b then Some i else id_from (i + 1) ns f) ≡ Some j)
    by true rest = (i, refl)
    by false rest = rest

pub id_back : (names : List (List ℕ)) (x : ℕ) → nat_lt x (length names) ≡ true → id_of names (name names x) ≡ Some (first_id names x)
id_back names x h =
    let f = found_from 0 names x (name names x) (ltb-true x (length names) h) refl in
    f.1 ∙ ap Some (sym (ap (λ o. or_else o x) f.1))

-- Instructions ---------------------------------------------------------------------------------------------------

module _ (vars locks : List (List ℕ)) where
  abbrev pub first_instr : Instr → Instr
  first_instr (Load r x) = Load r (first_id vars x)
  first_instr (Store x r) = Store (first_id vars x) r
  first_instr (Acquire l) = Acquire (first_id locks l)
  first_instr (Release l) = Release (first_id locks l)
  first_instr (Jump i) = Jump i
  first_instr (Jz r i) = Jz r i
  first_instr Nop = Nop
  first_instr (MovC r k) = MovC r k
  first_instr (MovR r q) = MovR r q
  first_instr (Bin op r q) = Bin op r q
  first_instr (Out r) = Out r

  abbrev pub first_line : Line → Line
  first_line l = record { weight = l.weight; instr = first_instr l.instr }

module _ (p : Parts) where
  abbrev Listed : Instr → Type 0
  Listed i = IsListedInstr p.version (length p.vars) (length p.locks) i

  abbrev First : Instr → Instr
  First i = first_instr p.vars p.locks i

  instr_back : (i : Instr) → Listed i → instr_of p (instr p.vars p.locks i) ≡ Some (First i)
  instr_back (Load r x) h =
      ap (λ o. both Load o (id_of p.vars (name p.vars x))) (register_back r (ltb-true r 8 h.registers)) ∙ ap (both Load (Some r)) (id_back p.vars x h.variable)
  instr_back (Store x r) h =
      ap (λ o. both Store o (register_of (register r))) (id_back p.vars x h.variable) ∙ ap (both Store (Some (first_id p.vars x))) (register_back r (ltb-true r 8 h.registers))
  instr_back (Jump i) h = ap (option_map Jump) (number_back i h.words)
  instr_back (Jz r i) h = ap (λ o. both Jz o (number_of (decimal i))) (register_back r (ltb-true r 8 h.registers)) ∙ ap (both Jz (Some r)) (number_back i h.words)
  instr_back Nop h = refl
  instr_back (MovC r k) h = ap (λ o. both MovC o (number_of (decimal k))) (register_back r (ltb-true r 8 h.registers)) ∙ ap (both MovC (Some r)) (number_back k h.words)
  instr_back (MovR r q) h =
      let f = and_parts (nat_lt r 8) (nat_lt q 8) h.registers in
      ap (λ o. both MovR o (register_of (register q))) (register_back r (ltb-true r 8 f.0)) ∙ ap (both MovR (Some r)) (register_back q (ltb-true q 8 f.1))
  instr_back (Bin op r q) h =
      let f = and_parts (nat_lt r 8) (nat_lt q 8) h.registers in
      ap (λ o. with_op o (register_of (register r)) (register_of (register q))) (op_back op)
      ∙ ap (λ o. both (Bin op) o (register_of (register q))) (register_back r (ltb-true r 8 f.0)) ∙ ap (both (Bin op) (Some r)) (register_back q (ltb-true q 8 f.1))
  instr_back (Acquire l) h = ap (option_map Acquire) (id_back p.locks l h.lock)
  instr_back (Release l) h = ap (option_map Release) (id_back p.locks l h.lock)
  instr_back (Out r) h = taken (nat_le 2 p.version) (option_map Out (register_of (register r))) None h.output ∙ ap (option_map Out) (register_back r (ltb-true r 8 h.registers))

  pub line_back : (l : Line) → IsListedLine p.version (length p.vars) (length p.locks) l → line_of p (line p.vars p.locks l) ≡ Some (row.Line (first_line p.vars p.locks l))
  line_back l h =
      ap (λ o. both line_with o (instr_of p (instr p.vars p.locks l.instr))) (weight_back l.weight (omega (arith, h.weight)))
      ∙ ap (both line_with (Some l.weight)) (instr_back l.instr h.instr)
