-- Which register is kept for which variable. (After the register record of Sison and Murray.)
--
-- A plan has eight slots, one for each register, from r0: the variable whose word the register has, if there is one.
use Rattle.std.specs.Prelude.{ℕ, zero, suc, ◌==◌, List, [], ◌∷◌, length, get_or, set, map, Bool, false, slice_get, Option, Some, None, nat_le, if◌then◌else◌}

abbrev pub Plan : Type 0
Plan = List (Option ℕ)

-- no register is kept for anything
abbrev pub start : Plan
start = None ∷ None ∷ None ∷ None ∷ None ∷ None ∷ None ∷ None ∷ []

-- Records of variables ------------------------------------------------------------------------------------------

abbrev pub is_for : ℕ → Option ℕ → Bool
is_for x None = false
is_for x (Some y) = y == x

-- the lowest register that is kept for a variable, where the first item of the list is that of register r
abbrev pub held_from : (r : ℕ) → Plan → (x : ℕ) → Option ℕ
held_from r [] x = None
held_from r (o ∷ os) x = if is_for x o then Some r else held_from (suc r) os x

abbrev pub held : Plan → (x : ℕ) → Option ℕ
held plan x = held_from 0 plan x

-- the register is kept for the variable and for nothing else
abbrev pub keep : Plan → (x r : ℕ) → Plan
keep plan x r = set plan r (Some x)

-- the register is kept for nothing
abbrev pub spoil : Plan → (r : ℕ) → Plan
spoil plan r = set plan r None

-- no register is kept for the variable
abbrev pub stored : Plan → (x : ℕ) → Plan
stored plan x = map (λ o. if is_for x o then None else o) plan

-- what is kept for a variable that passes a test
abbrev pub only : (ℕ → Bool) → Option ℕ → Option ℕ
only test None = None
only test (Some x) = if test x then Some x else None

-- what is kept for variables that pass a test
abbrev pub restrict : (ℕ → Bool) → Plan → Plan
restrict test plan = map (only test) plan

-- the variable for which both are kept
abbrev pub both : Option ℕ → Option ℕ → Option ℕ
both None q = None
both (Some x) q = if is_for x q then Some x else None

-- what both plans keep
abbrev pub meet : Plan → Plan → Plan
meet [] qs = []
meet (o ∷ os) [] = []
meet (o ∷ os) (q ∷ qs) = both o q ∷ meet os qs

-- Registers for parts -------------------------------------------------------------------------------------------

abbrev pub add_free : Option ℕ → (r : ℕ) → List ℕ → List ℕ
add_free None r rs = r ∷ rs
add_free (Some x) r rs = rs

-- those of some registers that are kept for nothing
abbrev pub free_among : Plan → List ℕ → List ℕ
free_among plan [] = []
free_among plan (r ∷ rs) = add_free (get_or plan r None) r (free_among plan rs)

abbrev pub below_seven : List ℕ
below_seven = 0 ∷ 1 ∷ 2 ∷ 3 ∷ 4 ∷ 5 ∷ 6 ∷ []

-- those of r0 to r6 that are kept for nothing, the lowest first
unfoldable pub frees : Plan → List ℕ
frees plan = free_among plan below_seven

-- the register for a part of an expression at a depth: the one of that rank, from 0
abbrev pub part : Plan → (depth : ℕ) → Option ℕ
part plan depth = slice_get (frees plan) depth

-- the registers below one are given up, the highest first, until n of r0 to r6 are kept for nothing
abbrev pub room_below : (r : ℕ) → Plan → (n : ℕ) → Plan
room_below zero plan n = plan
room_below (suc r) plan n = if nat_le n (length (frees plan)) then plan else room_below r (spoil plan r) n

-- r6, then r5 and so on are given up, until n of r0 to r6 are kept for nothing
unfoldable pub room : Plan → (n : ℕ) → Plan
room plan n = room_below 7 plan n
