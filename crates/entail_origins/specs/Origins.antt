-- Where a hypothesis of an entailment comes from: the last step on the way to the statement that gives it.
--
-- The point before a statement has what the steps to it give, as far as that isn't forgotten on the way. A later step gives a
-- predicate anew, so the last one counts. An assignment and a guard give theirs only where it is over variables that are stable
-- there, which isn't looked at here.
use Rattle.std.specs.Prelude.{ℕ, List, [], ◌∷◌, ◌++◌, Option, Some, None, option_map, if◌then◌else◌}
use Rattle.std.specs.Option.{option_or}
use Rattle.cov_expr.specs.declared.expr.Op.TheVariants.{Eq}
use Rattle.cov_expr.specs.Term.{Term, var, neg, bin}
use Rattle.cov_expr.specs.Trees.{same}
use Rattle.cov_ast.specs.Declarations.{lock_at}
use Rattle.cov_ast.specs.Plain.{Plain}
use Rattle.cov_ast.specs.Syntax.{State, Stm}
use Rattle.statement_parts.specs.Parts.{either, left_guard, Nested, none, parts, Store, turn}
use Rattle.statement_paths.specs.Paths.{Step, passed, yes, no, head, place_of}
use Rattle.entail_origins.specs.declared.hypothesis_origin.Origin.{Origin}
use Rattle.entail_origins.specs.declared.hypothesis_origin.HypothesisSource.{HypothesisSource}
use Rattle.entail_origins.specs.declared.hypothesis_origin.HypothesisSource.TheVariants as by

-- What a step may give --------------------------------------------------------------------------------------------

-- a predicate that a step may give, with what in the step does
pub record Given : Type 0 where
  pub source : HypothesisSource
  pub term : Term

abbrev pub given : HypothesisSource → Term → Given
given source e = record { source = source; term = e }

-- predicates that one source gives
abbrev pub each : HypothesisSource → List Term → List Given
each source [] = []
each source (e ∷ es) = given source e ∷ each source es

-- the invariant of a lock, if it has one
abbrev pub by_invariant : (l : ℕ) → Option Term → List Given
by_invariant l None = []
by_invariant l (Some e) = given (by.Invariant l) e ∷ []

-- a guard that doesn't hold behind a loop
abbrev pub by_left : Option Term → List Given
by_left None = []
by_left (Some e) = given by.LoopLeft (neg e) ∷ []

-- what gives the predicates of a state, by the blocks of the statement that has it
abbrev pub state_source : Nested → HypothesisSource
state_source none = by.Noted
state_source (turn b) = by.LoopState
state_source (either a b) = by.Join

-- what is stated holds behind, and of a loop its guard doesn't
abbrev pub given_stated : Nested → (guard : Option Term) → Option State → List Given
given_stated nested guard None = []
given_stated nested guard (Some j) = by_left (left_guard nested guard) ++ each (state_source nested) j.preds

-- of what is stored, of a lock that is taken, or else
abbrev pub given_or : Plain → Option Store → (taken : Option ℕ) → (later : List Given) → List Given
given_or p (Some k) taken later = given by.Assigned (bin Eq (var k.variable) k.value) ∷ []
given_or p None (Some l) later = by_invariant l (lock_at p l).inv
given_or p None None later = later

-- what a statement may give to the point behind it
abbrev pub given_after_statement : Plain → Stm → List Given
given_after_statement p s = given_or p (parts s).store (parts s).taken (given_stated (parts s).nested (parts s).guard (parts s).state)

-- what a step may give to the point at its end
abbrev pub given_by : Plain → Step → List Given
given_by p (passed at s) = given_after_statement p s
given_by p (yes at e) = given by.GuardHolds e ∷ []
given_by p (no at e) = given by.GuardFails (neg e) ∷ []
given_by p (head at inv) = each by.LoopState inv.preds

-- The origin of a hypothesis -----------------------------------------------------------------------------------

-- the source of the first that equals a hypothesis
abbrev pub first_given : List Given → (hypothesis : Term) → Option HypothesisSource
first_given [] h = None
first_given (g ∷ gs) h = if same g.term h then Some g.source else first_given gs h

abbrev pub at_place : (at : ℕ) → HypothesisSource → Origin
at_place at source = record { source = source; at = at }

-- the origin in one step, if that gives the hypothesis
abbrev pub origin_at : Plain → Step → (hypothesis : Term) → Option Origin
origin_at p s h = option_map (at_place (place_of s)) (first_given (given_by p s) h)

-- the origin behind steps: in the last of them that gives the hypothesis
abbrev pub origin : Plain → List Step → (hypothesis : Term) → Option Origin
origin p [] h = None
origin p (s ∷ ss) h = option_or (origin p ss h) (origin_at p s h)
