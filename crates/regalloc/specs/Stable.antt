-- What a plan keeps where variables cease to be stable.
use Rattle.std.specs.Prelude.{◌≡◌, ℕ, ◌<◌, List, Bool, length, get_or, Some, None}
use Rattle.cov_ast.specs.Plain.{Plain}
use Rattle.mode_state.specs.Sets.{Sets, modes_at, is_stable}
use Rattle.regalloc.specs.Plan.{Plan, restrict}

-- what is kept is for variables of a program that has so many
abbrev pub KeepsBelow : (count : ℕ) → Plan → Type 0
KeepsBelow count plan = (r x : ℕ) → get_or plan r None ≡ Some x → x < count

-- Whatever program and thread the sets are of, and whichever locks it holds: what is kept for variables of the program is left
-- exactly where they are stable.
abbrev pub KeepsStable : Sets → (old new : Plan) → Type 0
KeepsStable sets old new =
    (p : Plain) (t : ℕ) (held : List Bool) → sets ≡ modes_at p t held → KeepsBelow (length p.vars) old → new ≡ restrict (is_stable p t held) old
