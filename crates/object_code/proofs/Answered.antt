-- What is answered of parts that have an object.
use Rattle.std.proofs.Common.{◌≡◌, ℕ, ◌+◌, ◌==◌, ◌||◌, nat_le, List, [], ◌∷◌, length, ap, sym, ◌∙◌, subst, Bool, true, false, if◌then◌else◌, Option, Some, None, Result, Ok, Err, ◌⊎◌, inl, inr}
use Rattle.std.proofs.lemmas.Bool.{le-leb, eq-eqb, or_left, or_right}
use Rattle.std.specs.Option.{option_or}
use Rattle.risc_machine.specs.Faults.{AreCounted, fault_of, first_in, thread_fault, line_fault, name_fault, repeated, names_of, has_registers, has_variable, has_lock, has_target, has_version}
use Rattle.risc_machine.specs.declared.parts.CodeBad.{CodeBad}
use Rattle.risc_machine.specs.declared.parts.CodeBad.TheVariants as bad
use Rattle.risc_machine.specs.declared.parts.Line.{Line}
use Rattle.risc_machine.specs.declared.parts.Parts.{Parts}
use Rattle.risc_machine.specs.declared.parts.ThreadCode.{ThreadCode}
use Rattle.std.specs.List.{AllByRecursion}
use Rattle.std.proofs.lemmas.List.Elements.{recursion_from_All}
use Rattle.object_code.specs.Object.{IsLineInRange, IsThreadInRange, HasObject, IsObjectOf}
use Rattle.object_code.specs.ObjectAnswers.{IsReading, IsAnswerTo, IsFaultOfObject}
use Rattle.object_code.specs.Inside.Given.{Judges}
use Rattle.object_code.specs.declared.fault.ObjectFault.{ObjectFault}
use Rattle.object_code.specs.declared.fault.ObjectFault.TheVariants as faults
use Rattle.object_code.proofs.Whole.{one_to_one}

pub counted : (p : Parts) → HasObject p → AreCounted p
counted p h = record { vars = h.var_count; locks = h.lock_count; threads = h.thread_count; lines = λ k d inside. (h.threads k d inside).count }

-- Faults -----------------------------------------------------------------------------------------------------------

version_free : (p : Parts) → HasObject p → (if p.version == 1 || p.version == 2 then None else Some (bad.BadVersion p.version)) ≡ None
version_free p h = ap (λ b. if b then None else Some (bad.BadVersion p.version)) (by h.version)
  where
    by : (p.version ≡ 1) ⊎ (p.version ≡ 2) → (p.version == 1 || p.version == 2) ≡ true
    by (inl e) = or_left (p.version == 1) (p.version == 2) (eq-eqb p.version 1 e)
    by (inr e) = or_right (p.version == 1) (p.version == 2) (eq-eqb p.version 2 e)

-- what is found first besides the version
abbrev later_fault : Parts → Option CodeBad
later_fault p = option_or (name_fault (repeated [] (names_of p))) (first_in (thread_fault p) 0 p.threads)

no_version_fault : (p : Parts) → HasObject p → fault_of p ≡ later_fault p
no_version_fault p h = ap (λ o. option_or o (later_fault p)) (version_free p h)

pub repeated_is_first : (p : Parts) (n : List ℕ) → HasObject p → repeated [] (names_of p) ≡ Some n → fault_of p ≡ Some (bad.SameName n)
repeated_is_first p n h e = no_version_fault p h ∙ ap (λ o. option_or (name_fault o) (first_in (thread_fault p) 0 p.threads)) e

one_of : {B : Type 0} (x y : Option B) (b : B) → option_or x y ≡ Some b → (x ≡ Some b) ⊎ (y ≡ Some b)
one_of None y b h = inr h
one_of (Some a) y b h = inl h

-- what is true of everything that may be found at an item is true of what is found first
first_such : {A B : Type 0} (found : ℕ → A → Option B) (In : A → Type 0) (Such : B → Type 0) → ((i : ℕ) (x : A) (b : B) → In x → found i x ≡ Some b → Such b)
    → (i : ℕ) (xs : List A) (b : B) → AllByRecursion In xs → first_in found i xs ≡ Some b → Such b
first_such found In Such each i [] b all h = absurd cc
first_such found In Such each i (x ∷ xs) b all h = elim (one_of (found i x) (first_in found (i + 1) xs) b h) [
  | inl here ↦ each i x b all.0 here
  | inr later ↦ first_such found In Such each (i + 1) xs b all.1 later
]

target_alone : (w r v l g o : Bool) (x1 x2 x3 x4 x5 x6 f : CodeBad) → w ≡ true → r ≡ true → v ≡ true → l ≡ true → o ≡ true
    → option_or (if w then None else Some x1) (option_or (if r then None else Some x2) (option_or (if v then None else Some x3)
    (option_or (if l then None else Some x4) (option_or (if g then None else Some x5) (if o then None else Some x6))))) ≡ Some f
    → x5 ≡ f
target_alone true true true true false true x1 x2 x3 x4 x5 x6 f hw hr hv hl ho h = cc
target_alone true true true true true true x1 x2 x3 x4 x5 x6 f hw hr hv hl ho h = absurd cc
target_alone false r v l g o x1 x2 x3 x4 x5 x6 f hw hr hv hl ho h = absurd cc
target_alone true false v l g o x1 x2 x3 x4 x5 x6 f hw hr hv hl ho h = absurd cc
target_alone true true false l g o x1 x2 x3 x4 x5 x6 f hw hr hv hl ho h = absurd cc
target_alone true true true false g o x1 x2 x3 x4 x5 x6 f hw hr hv hl ho h = absurd cc
target_alone true true true true g false x1 x2 x3 x4 x5 x6 f hw hr hv hl ho h = absurd cc

module _ (p : Parts) where
  line_such : (t lines i : ℕ) (l : Line) (f : CodeBad) → IsLineInRange p.version (length p.vars) (length p.locks) l → line_fault p t lines i l ≡ Some f → IsFaultOfObject f
  line_such t lines i l f h e =
      subst IsFaultOfObject
      (target_alone (nat_le l.weight 2) (has_registers l.instr) (has_variable (length p.vars) l.instr) (has_lock (length p.locks) l.instr) (has_target lines l.instr) (has_version p.version l.instr)
      (bad.BadWeight t i) (bad.BadRegister t i) (bad.BadVariable t i) (bad.BadLock t i) (bad.BadTarget t i) (bad.BadOut t i) f
      (le-leb l.weight 2 h.weight) h.instr.registers h.instr.variable h.instr.lock h.instr.output e) tt

  thread_such : (t : ℕ) (thread : ThreadCode) (f : CodeBad) → IsThreadInRange p.version (length p.vars) (length p.locks) thread → thread_fault p t thread ≡ Some f → IsFaultOfObject f
  thread_such t thread f h e =
      first_such (line_fault p t (length thread.lines)) (IsLineInRange p.version (length p.vars) (length p.locks)) IsFaultOfObject (line_such t (length thread.lines)) 0 thread.lines f
      (recursion_from_All (IsLineInRange p.version (length p.vars) (length p.locks)) thread.lines h.lines) e

pub two_faults : (p : Parts) → HasObject p → (f : CodeBad) → fault_of p ≡ Some f → IsFaultOfObject f
two_faults p h f e = elim (one_of (name_fault (repeated [] (names_of p))) (first_in (thread_fault p) 0 p.threads) f (sym (no_version_fault p h) ∙ e)) [
  | inl named ↦ same_name (repeated [] (names_of p)) named
  | inr lined ↦ first_such (thread_fault p) (IsThreadInRange p.version (length p.vars) (length p.locks)) IsFaultOfObject (thread_such p) 0 p.threads f
      (recursion_from_All (IsThreadInRange p.version (length p.vars) (length p.locks)) p.threads h.threads) lined
]
  where
    same_name : (o : Option (List ℕ)) → name_fault o ≡ Some f → IsFaultOfObject f
    same_name None g = absurd cc
    same_name (Some n) g = subst IsFaultOfObject (let is : bad.SameName n ≡ f = cc (g) in is) tt

-- Answers ----------------------------------------------------------------------------------------------------------

module _ (bytes : List ℕ) (p : Parts) (is : IsObjectOf p bytes) where
  pub judged_reading : (r : Result Parts ObjectFault) → Judges p r → IsReading bytes r
  judged_reading (Ok code) h = subst (λ q. IsObjectOf q bytes × (fault_of q ≡ None)) (sym h.0) (is, h.1)
  judged_reading (Err (faults.Code f)) h = (p, is, h)
  judged_reading (Err (faults.Bad at)) h = absurd h
  judged_reading (Err faults.NoMemory) h = tt

  pub judged_answer : (r : Result Parts ObjectFault) → Judges p r → (q : Parts) → IsObjectOf q bytes → IsAnswerTo q r
  judged_answer r h q other = by r (subst (λ s. Judges s r) same h)
    where
      same : p ≡ q
      same = one_to_one p q is.whole other.whole (sym is.spelling ∙ other.spelling)

      by : (r : Result Parts ObjectFault) → Judges q r → IsAnswerTo q r
      by (Ok code) g = (g.1, g.0)
      by (Err (faults.Code f)) g = g
      by (Err (faults.Bad at)) g = absurd g
      by (Err faults.NoMemory) g = tt
