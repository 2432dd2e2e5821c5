-- Where a variable isn't stable, the line for it tells why.
use Rattle.std.proofs.Common.{◌≡◌, ◌⊎◌, ℕ, ◌+◌, ◌<◌, List, length, Bool, true, false, ◌&&◌, ◌||◌, Option, true≢false, refl, sym, ap, ◌∙◌, arith, inl, inr}
use Rattle.std.specs.List.{list_any}
use Rattle.cov_ast.specs.Declarations.{assumes, lock_at, under}
use Rattle.cov_ast.specs.Plain.{plain}
use Rattle.cov_ast.specs.Syntax.{Lock, Program}
use Rattle.cov_ast.specs.Tables.{has}
use Rattle.text_parts.specs.VariableNames.{variable_names}
use Rattle.mode_state.specs.Sets.{is_stable, locks_of}
use Rattle.mode_state.proofs.HeldLaws.{any_from}
use Rattle.refusal_names.proofs.ForbiddenLaws.{IsFirst, IsNone, none_or_first, unforbidden}
use Rattle.refusal_names.specs.NameLines.{held_text}
use Rattle.refusal_names.specs.ForbiddenAccess.{first_forbidding, lock_text, IsOfLock}
use Rattle.refusal_names.specs.UnstableVariables.{assumption_text, lock_or_assumption, lock_or_copy, unstable_line, unstable_part_line, IsOfNone, TellsOfPart, TellsWhyUnstable}

module _ (b : Bool) where
  -- of two of which not even one holds, neither does
  neither : (a : Bool) → (a || b) ≡ false → (a ≡ false) × (b ≡ false)
  neither false h = (refl, h)
  neither true h = absurd (true≢false h)

module _ (p : Program) (bytes : List ℕ) (t : ℕ) (held : List Bool) (x : ℕ) where
  abbrev line_by : Option (Lock × List ℕ) → List ℕ
  line_by found = lock_or_assumption (variable_names p.vars) bytes found x (held_text p.locks held)

  abbrev listed : ℕ → Bool
  listed l = has held l && under (plain p) l x

  -- a lock that is held doesn't have it in a list
  held_is_free : (l : ℕ) → l < length p.locks → list_any listed (locks_of (plain p)) ≡ false → has held l ≡ true → (b : Bool) → under (plain p) l x ≡ b → b ≡ false
  held_is_free l inside none is_held false is = refl
  held_is_free l inside none is_held true is =
      absurd (true≢false (sym (any_from listed 0 (length p.locks) l (omega arith) (omega (arith, inside)) (ap (λ b. b && under (plain p) l x) is_held ∙ is)) ∙ none))

  free_by : (l : ℕ) → l < length p.locks → list_any listed (locks_of (plain p)) ≡ false → IsNone held true x 0 p.locks → (b : Bool) → has held l ≡ b
      → under (plain p) l x ≡ false
  free_by l inside none n true is_held = held_is_free l inside none is_held (under (plain p) l x) refl
  free_by l inside none n false apart =
      unforbidden (lock_at (plain p) l).nowrite (lock_at (plain p) l).hide true x
      (n.each l inside (ap (has held) (let e : 0 + l ≡ l = omega arith in e) ∙ apart))

  of_lock : (f : IsFirst held true x 0 p.locks) → (text : List ℕ) → text ≡ lock_text (variable_names p.vars) bytes (lock_at (plain p) f.at) f.word x (held_text p.locks held)
      → IsOfLock p bytes t held true x text
  of_lock f text told = record {
    number = f.at;
    there = f.inside;
    apart = ap (has held) (let e : f.at ≡ 0 + f.at = omega arith in e) ∙ f.apart;
    word = f.word;
    forbids = f.forbids;
    told = told;
  }

  of_none : is_stable (plain p) t held x ≡ false → IsNone held true x 0 p.locks → (text : List ℕ) → text ≡ assumption_text (variable_names p.vars) x
      → IsOfNone p bytes t held x text
  of_none h n text told =
      let none = neither (list_any listed (locks_of (plain p))) (assumes (plain p) t x) h in
      record { free = λ l inside. free_by l inside none.1 n (has held l) refl; unassumed = none.0; told = told }

  by_lock : is_stable (plain p) t held x ≡ false → IsNone held true x 0 p.locks ⊎ IsFirst held true x 0 p.locks
      → TellsWhyUnstable p bytes t held x (unstable_line (variable_names p.vars) bytes p.locks held x)
  by_lock h (inr f) = inl (of_lock f (line_by (first_forbidding held true x 0 p.locks)) (ap line_by f.is))
  by_lock h (inl n) = inr (of_none h n (line_by (first_forbidding held true x 0 p.locks)) (ap line_by n.none))

  abbrev part_by : Option (Lock × List ℕ) → List ℕ
  part_by found = lock_or_copy (variable_names p.vars) bytes found x (held_text p.locks held)

  part_by_lock : is_stable (plain p) t held x ≡ false → IsNone held true x 0 p.locks ⊎ IsFirst held true x 0 p.locks
      → TellsOfPart p bytes t held x (unstable_part_line (variable_names p.vars) bytes p.locks held x)
  part_by_lock h (inr f) = inl (of_lock f (part_by (first_forbidding held true x 0 p.locks)) (ap part_by f.is))
  part_by_lock h (inl n) =
      let why = assumption_text (variable_names p.vars) x in
      inr (why, of_none h n why refl, ap part_by n.none)

pub told : (p : Program) → (bytes : List ℕ) → (t x : ℕ) → (held : List Bool) → is_stable (plain p) t held x ≡ false
    → TellsWhyUnstable p bytes t held x (unstable_line (variable_names p.vars) bytes p.locks held x)
told p bytes t x held h = by_lock p bytes t held x h (none_or_first held true x 0 p.locks)

pub part_told : (p : Program) → (bytes : List ℕ) → (t x : ℕ) → (held : List Bool) → is_stable (plain p) t held x ≡ false
    → TellsOfPart p bytes t held x (unstable_part_line (variable_names p.vars) bytes p.locks held x)
part_told p bytes t x held h = part_by_lock p bytes t held x h (none_or_first held true x 0 p.locks)
