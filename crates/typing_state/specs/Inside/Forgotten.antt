-- Which types a walk over the variables forgets, and what it leaves.
use Rattle.std.specs.Prelude.{ℕ, ◌<◌, ◌&&◌, List, [], Bool, false, not, get_or, is_some, Option, option_map}
use Rattle.cov_expr.specs.Term.{Term}
use Rattle.cov_expr.specs.declared.limits.TheConstants.{MOST_VARIABLES}
use Rattle.cov_ast.specs.Plain.{Plain}
use Rattle.cov_ast.specs.Tables.{has}
use Rattle.mode_state.specs.Sets.{Sets}
use Rattle.point_law.specs.After.{forgotten_type, unlocked_type}
use Rattle.point_law.specs.Point.{default_type, is_over_stable, is_tracked}
use Rattle.point_law.specs.Terms.{is_closed_type}
use Rattle.typing_state.specs.Groups.{is_free}
use Rattle.typing_state.specs.Inside.Tells.{IsTrackedBeside, passes}
use Rattle.typing_state.specs.declared.forget.Forgotten.{Forgotten}
use Rattle.typing_state.specs.declared.forget.Forgotten.TheVariants.{Every, Mentioning, Unstable}

-- the number of a lock or of a variable is in range
abbrev pub IsInRange : (locks : ℕ) → Forgotten → Type 0
IsInRange locks Every = Unit {0}
IsInRange locks (Mentioning x) = x < MOST_VARIABLES
IsInRange locks (Unstable l) = l < locks

-- whether a walk may pass over a variable, by its type
abbrev pub is_passed : Sets → Forgotten → (z : ℕ) → Option Term → Bool
is_passed sets Every z q = false
is_passed sets (Mentioning x) z q = is_free x q
is_passed sets (Unstable l) z q = not (has (get_or sets.listed l []) z) && is_closed_type q

module _ (p : Plain) (t : ℕ) (held : List Bool) where
  -- what a variable has then, which had a type or none
  abbrev pub left : Forgotten → (z : ℕ) → Option Term → Option Term
  left Every z q = option_map (λ g. default_type p t held z) q
  left (Mentioning x) z q = option_map (forgotten_type p t held x z) q
  left (Unstable l) z q = unlocked_type p t held z q

  -- whether the variable has no type any longer
  abbrev pub is_left_out : Forgotten → (z : ℕ) → Bool
  is_left_out Every z = false
  is_left_out (Mentioning x) z = false
  is_left_out (Unstable l) z = not (is_tracked p t held z)

  -- whether the type, if there is one, stays
  abbrev pub stays : Forgotten → Option Term → Bool
  stays Every q = not (is_some q)
  stays (Mentioning x) q = is_free x q
  stays (Unstable l) q = passes (is_over_stable p t held) q

  -- what a walk may take for granted of the types
  abbrev pub AreFit : Forgotten → List (Option Term) → Type 0
  AreFit Every types = Unit {0}
  AreFit (Mentioning x) types = Unit {0}
  AreFit (Unstable l) types = IsTrackedBeside p t held l types
