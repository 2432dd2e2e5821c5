-- What answers and changes of parts of a point say, whichever thread they are of.
use Rattle.std.specs.Prelude.{◌≡◌, ℕ, ◌<◌, List, Bool, true, false, length, get_or, is_some, Option, Some, None}
use Rattle.cov_expr.specs.Term.{Term}
use Rattle.cov_ast.specs.Declarations.{under}
use Rattle.cov_ast.specs.Plain.{Plain}
use Rattle.mode_state.specs.Sets.{Sets, modes_at}
use Rattle.point_law.specs.Point.{is_tracked}
use Rattle.point_law.specs.Point as spec
use Rattle.typing_state.specs.KeptVariables.{AreVariables}
use Rattle.typing_state.specs.declared.variables.Variables.{Variables}
use Rattle.typing_state.specs.KeptPoints.{KeepsParts}
use Rattle.typing_state.specs.declared.parts.Parts.{Parts}

-- Whatever point these parts are kept of, something holds of it.
abbrev pub OfParts : Plain → Parts → ((t : ℕ) (a : spec.Point) → Type 0) → Type 0
OfParts p kept P = (t : ℕ) (a : spec.Point) → KeepsParts p t a kept → P t a

-- whatever thread of the program the sets are of, and whichever locks it holds, where what is declared of the variables is known
abbrev pub AtEach : Plain → Sets → Variables → ((t : ℕ) (held : List Bool) → Type 0) → Type 0
AtEach p sets variables P = (t : ℕ) (held : List Bool) → sets ≡ modes_at p t held → AreVariables p variables → P t held

-- Whatever program and thread the sets are of, and whichever locks are held, the answer is what the definition says.
abbrev pub Tells : ((p : Plain) (t : ℕ) (held : List Bool) (x : ℕ) → Bool) → Sets → Variables → ℕ → Bool → Type 0
Tells definition sets variables x answer =
    (p : Plain) → AtEach p sets variables (λ t held. x < length p.vars → answer ≡ definition p t held x)

-- whether a type passes a test, if there is one
abbrev pub passes : (Term → Bool) → Option Term → Bool
passes test None = true
passes test (Some q) = test q

-- of the variables that a lock doesn't list, those that are tracked have a type
abbrev pub IsTrackedBeside : Plain → (t : ℕ) → (held : List Bool) → (l : ℕ) → List (Option Term) → Type 0
IsTrackedBeside p t held l types = (x : ℕ) → x < length p.vars → under p l x ≡ false → is_some (get_or types x None) ≡ is_tracked p t held x
