-- A remark on each hypothesis of an entailment: what gives it, and in which line.
use Rattle.std.specs.Prelude.{ℕ, List, [], ◌∷◌, ◌++◌, Bool, true, false, ◌&&◌, Option, Some, None, codes, decimal}
use Rattle.cov_expr.specs.Term.{Term}
use Rattle.cov_ast.specs.Declarations.{lock_at}
use Rattle.cov_ast.specs.Plain.{Plain}
use Rattle.statement_paths.specs.Paths.{Step}
use Rattle.text_parts.specs.Lines.{line}
use Rattle.entail_origins.specs.Origins.{origin}
use Rattle.entail_origins.specs.declared.hypothesis_origin.Origin.{Origin}
use Rattle.entail_origins.specs.declared.hypothesis_origin.HypothesisSource.{HypothesisSource}
use Rattle.entail_origins.specs.declared.hypothesis_origin.HypothesisSource.TheVariants.{Assigned, Invariant, Join, LoopLeft, LoopState, Noted, GuardHolds, GuardFails}

abbrev pub invariant_of : Plain → (l : ℕ) → List ℕ
invariant_of p l = codes "invariant of " ++ (lock_at p l).name

-- what gives a hypothesis
abbrev pub source_text : Plain → HypothesisSource → List ℕ
source_text p Assigned = codes "assignment"
source_text p (Invariant l) = invariant_of p l
source_text p Join = codes "join of the `if`"
source_text p LoopLeft = codes "guard"
source_text p LoopState = codes "inv of the `while`"
source_text p Noted = codes "note"
source_text p GuardHolds = codes "guard"
source_text p GuardFails = codes "guard"

-- an origin, with its line in the text of the program
abbrev pub origin_text : Plain → (bytes : List ℕ) → Origin → List ℕ
origin_text p bytes o = source_text p o.source ++ codes ", line " ++ decimal (line bytes o.at)

abbrev pub origin_remark : Plain → (bytes : List ℕ) → Option Origin → List ℕ
origin_remark p bytes None = []
origin_remark p bytes (Some o) = origin_text p bytes o

-- The remark on a hypothesis behind steps. Of one that is asked together with the goal it says that alone; of one that no step gives it
-- is empty.
abbrev pub remark : Plain → (bytes : List ℕ) → List Step → (asked : Bool) → (hypothesis : Term) → List ℕ
remark p bytes steps true h = codes "asked with the goal"
remark p bytes steps false h = origin_remark p bytes (origin p steps h)

abbrev pub are_none : List Term → Bool
are_none [] = true
are_none (h ∷ hs) = false

-- a remark on each hypothesis behind steps, of which the last may be asked together with the goal
abbrev pub remarks : Plain → (bytes : List ℕ) → List Step → (asked_with_goal : Bool) → (hypotheses : List Term) → List (List ℕ)
remarks p bytes steps asked [] = []
remarks p bytes steps asked (h ∷ hs) = remark p bytes steps (asked && are_none hs) h ∷ remarks p bytes steps asked hs
