-- What is said of a thread by its sets, whichever locks it holds.
use Rattle.std.specs.Prelude.{◌≡◌, ℕ, List, Bool, length}
use Rattle.cov_expr.specs.Term.{Term}
use Rattle.cov_expr.specs.Words.{HasVarsBelow}
use Rattle.cov_ast.specs.Plain.{Plain}
use Rattle.mode_state.specs.Sets.{Sets, modes_at}

-- whichever locks the thread holds for which these are its sets
abbrev pub AtHeld : Plain → (t : ℕ) → Sets → (List Bool → Type 0) → Type 0
AtHeld p t sets P = (held : List Bool) → sets ≡ modes_at p t held → P held

-- whatever thread of the program the sets are of, and whichever locks it holds
abbrev pub AtModes : Plain → Sets → ((t : ℕ) (held : List Bool) → Type 0) → Type 0
AtModes p sets P = (t : ℕ) (held : List Bool) → sets ≡ modes_at p t held → P t held

-- Whatever program and thread the sets are of, and whichever locks are held, the answer is what the definition says of an
-- expression over variables of the program.
abbrev pub TellsOf : ((p : Plain) (t : ℕ) (held : List Bool) → Term → Bool) → Sets → Term → Bool → Type 0
TellsOf definition sets e answer =
    (p : Plain) (t : ℕ) (held : List Bool) → sets ≡ modes_at p t held → HasVarsBelow e (length p.vars) → answer ≡ definition p t held e
