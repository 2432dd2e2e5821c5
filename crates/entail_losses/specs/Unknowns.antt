-- Why nothing is known at a point of a variable of the goal, as far as the last step tells that says something of it, or that forgets what was known.
--
-- Steps give predicates by the rules for statements. An equation and a guard are known only where each of their variables is stable there; a state, which is
-- that of a branch, of a loop or of a note, keeps what it lists and nothing else; a store forgets each predicate with its variable, and a lock that is given
-- back each with a variable that isn't stable behind that. Of several predicates that mention the variable the last that is given counts. A state that lists none tells
-- something only where one is known in front of it, or where its blocks say something of the variable: else what was told in front of it is told behind it.
use Rattle.std.specs.Prelude.{ℕ, ◌==◌, ◌&&◌, nat_lt, List, [], ◌∷◌, ◌++◌, length, Bool, false, not, if◌then◌else◌, Option, Some, None}
use Rattle.cov_expr.specs.declared.expr.Op.TheVariants.{Eq}
use Rattle.cov_expr.specs.Term.{Term, var, neg, bin}
use Rattle.cov_expr.specs.Trees.{mentions, occurrences, vars}
use Rattle.cov_ast.specs.Declarations.{lists, lock_at}
use Rattle.cov_ast.specs.LocksAlong.{no_locks}
use Rattle.cov_ast.specs.Plain.{Plain}
use Rattle.cov_ast.specs.Syntax.{Lock, State, Stm}
use Rattle.cov_ast.specs.Tables.{first_outside, has}
use Rattle.entail_origins.specs.GivenViews.{given_term}
use Rattle.entail_origins.specs.Origins.{at_place, state_source}
use Rattle.entail_origins.specs.declared.hypothesis_origin.Origin.{Origin}
use Rattle.entail_origins.specs.declared.hypothesis_origin.HypothesisSource.{HypothesisSource}
use Rattle.entail_origins.specs.declared.hypothesis_origin.HypothesisSource.TheVariants as source
use Rattle.entail_losses.specs.About.{is_statement_about, is_mentioned}
use Rattle.entail_losses.specs.LeftOut.{kind_of_state, state_at}
use Rattle.entail_losses.specs.declared.left_out_states.StateAt.{StateAt}
use Rattle.entail_losses.specs.declared.left_out_states.StateKind.{StateKind}
use Rattle.entail_losses.specs.declared.left_out_states.StateKind.TheVariants.{Inv}
use Rattle.entail_losses.specs.declared.unknown_reasons.Fact as declared_fact
use Rattle.entail_losses.specs.declared.unknown_reasons.Loss.{Loss}
use Rattle.entail_losses.specs.declared.unknown_reasons.Loss.TheVariants.{Stored, Returned}
use Rattle.entail_losses.specs.declared.unknown_reasons.Reason as declared
use Rattle.entail_losses.specs.declared.unknown_reasons.Reason.TheVariants as by
use Rattle.entail_losses.specs.declared.unknown_variables.TheConstants.{MOST_TOLD}
use Rattle.point_law.specs.Terms.{each_variable}
use Rattle.statement_parts.specs.Parts.{either, left_guard, Nested, none, parts, Store, turn}
use Rattle.statement_paths.specs.LocksHeld.{held_after}
use Rattle.statement_paths.specs.Paths.{Step, passed, yes, no, head}
use Rattle.statement_paths.specs.VariableSets as sets

-- Reasons ------------------------------------------------------------------------------------------------------

-- a predicate, with what gives it
pub record Fact : Type 0 where
  pub origin : Origin
  pub term : Term

-- What the last step that counts tells of a variable, with the place of its statement.
pub data Reason : Type 0 where
  -- none counts
  unmentioned : Reason
  -- an assignment to it of a value over itself
  own : (at : ℕ) → Reason
  -- an assignment to it that gives no equation, since this variable isn't stable there
  no_equation : (at y : ℕ) → Reason
  -- a guard that mentions it and gives no predicate, for the same reason
  no_guard : (at y : ℕ) → Reason
  -- a state that lists no predicate that mentions it
  unlisted : StateAt → Reason
  -- a lock that it is under, and whose invariant doesn't mention it
  taken : (at l : ℕ) → Reason
  -- something gives a predicate that mentions it, which is known since
  known : Fact → Reason
  -- the same, and it is forgotten since
  forgotten : Fact → Loss → Reason

abbrev pub fact_at : (at : ℕ) → HypothesisSource → Term → Fact
fact_at at source e = record { origin = at_place at source; term = e }

-- the equation that an assignment gives
abbrev pub equation : (at x : ℕ) → (value : Term) → Fact
equation at x e = fact_at at source.Assigned (bin Eq (var x) e)

-- where something is known already, that counts
abbrev pub unless_known : (so_far other : Reason) → Reason
unless_known (known f) other = known f
unless_known so_far other = other

-- behind a state that lists nothing of the variable: it keeps no predicate that was known
abbrev pub behind_state : StateKind → (at : ℕ) → (so_far : Reason) → Reason
behind_state kind at (known f) = unlisted (state_at kind at)
behind_state kind at so_far = so_far

-- What a step tells --------------------------------------------------------------------------------------------

-- a predicate that is known where each of its variables is stable, with what is told where one isn't
abbrev pub by_stability : Option ℕ → Fact → (otherwise : ℕ → Reason) → Reason
by_stability None f otherwise = known f
by_stability (Some y) f otherwise = otherwise y

-- behind a store to this variable what mentions it is forgotten
abbrev pub after_store : (at x : ℕ) → (so_far : Reason) → Reason
after_store at x (known f) = if mentions f.term x then forgotten f (Stored at x) else known f
after_store at x so_far = so_far

-- behind the return of a lock, if one is given back, what isn't over these variables is, which are stable then
abbrev pub after_return : (stable : List Bool) → (at : ℕ) → (returned : Option ℕ) → (so_far : Reason) → Reason
after_return stable at None so_far = so_far
after_return stable at (Some l) (known f) = if each_variable (has stable) f.term then known f else forgotten f (Returned at l)
after_return stable at (Some l) so_far = so_far

-- the first of some predicates that mentions it
abbrev pub first_about : (x : ℕ) → List Term → Option Term
first_about x [] = None
first_about x (e ∷ es) = if mentions e x then Some e else first_about x es

abbrev pub listed_or : Option Term → HypothesisSource → (at : ℕ) → (otherwise : Reason) → Reason
listed_or None source at otherwise = otherwise
listed_or (Some e) source at otherwise = known (fact_at at source e)

-- of a variable
module _ (x : ℕ) where
  -- a state, with what is told where it lists nothing of it
  abbrev pub after_state : HypothesisSource → (at : ℕ) → State → (otherwise : Reason) → Reason
  after_state source at j otherwise = listed_or (first_about x j.preds) source at otherwise

  -- behind the blocks of a statement whose state lists nothing of it
  abbrev pub behind_blocks : Plain → StateKind → (at : ℕ) → Stm → (so_far : Reason) → Reason
  behind_blocks p kind at s so_far = if is_statement_about p x s then unlisted (state_at kind at) else behind_state kind at so_far

  -- behind a statement whose state lists nothing of it, by its blocks
  abbrev pub unless_listed : Plain → Nested → (at : ℕ) → Stm → (so_far : Reason) → Reason
  unless_listed p none at s so_far = behind_state (kind_of_state none) at so_far
  unless_listed p (turn b) at s so_far = behind_blocks p (kind_of_state (turn b)) at s so_far
  unless_listed p (either a b) at s so_far = behind_blocks p (kind_of_state (either a b)) at s so_far

  -- whether a guard that mentions it was looked at where it wasn't stable
  abbrev pub is_tested_before : (so_far : Reason) → Bool
  is_tested_before (no_guard at y) = y == x
  is_tested_before so_far = false

  -- a lock that is taken: its invariant, or that it has none that mentions a variable under it, unless a guard in front of the lock did
  abbrev pub if_listed : Lock → (at l : ℕ) → (so_far : Reason) → Reason
  if_listed k at l so_far = if lists k x && not (is_tested_before so_far) then taken at l else so_far

  abbrev pub by_invariant : Option Term → (at l : ℕ) → (otherwise : Reason) → Reason
  by_invariant None at l otherwise = otherwise
  by_invariant (Some e) at l otherwise = if mentions e x then known (fact_at at (source.Invariant l) e) else otherwise

  abbrev pub after_lock : Lock → (at l : ℕ) → (so_far : Reason) → Reason
  after_lock k at l so_far = by_invariant k.inv at l (if_listed k at l so_far)

  -- a lock that is taken, if one is
  abbrev pub after_taken : Plain → (at : ℕ) → (taken : Option ℕ) → (so_far : Reason) → Reason
  after_taken p at None so_far = so_far
  after_taken p at (Some l) so_far = after_lock (lock_at p l) at l so_far

  -- where these are stable behind the step, and in front of it too, unless it takes a lock or gives one back
  module _ (stable : List Bool) where
    -- an assignment to it
    abbrev pub after_own : (at : ℕ) → (value : Term) → Reason
    after_own at e = if mentions e x then own at else by_stability (first_outside stable (occurrences (bin Eq (var x) e))) (equation at x e) (no_equation at)

    -- whether an assignment to another variable gives an equation that mentions it
    abbrev pub is_equation_about : (y : ℕ) → (value : Term) → Bool
    is_equation_about y e = mentions e x && not (mentions e y) && each_variable (has stable) (bin Eq (var y) e)

    -- an assignment to another variable
    abbrev pub after_other : (at y : ℕ) → (value : Term) → (so_far : Reason) → Reason
    after_other at y e so_far = if is_equation_about y e then known (equation at y e) else after_store at y so_far

    abbrev pub after_assignment : (at y : ℕ) → (value : Term) → (so_far : Reason) → Reason
    after_assignment at y e so_far = if y == x then after_own at e else after_other at y e so_far

    -- of a guard whose first variable that isn't stable is this one: the variable itself, where it isn't stable
    abbrev pub unstable_first : (y : ℕ) → ℕ
    unstable_first y = if has stable x then y else x

    -- a guard, or its negation
    abbrev pub after_guard : (at : ℕ) → HypothesisSource → (guard : Term) → (so_far : Reason) → Reason
    after_guard at source e so_far =
        if mentions e x then by_stability (first_outside stable (occurrences e)) (fact_at at source e) (λ y. unless_known so_far (no_guard at (unstable_first y))) else so_far

    -- a guard that doesn't hold behind a loop
    abbrev pub after_left : (at : ℕ) → (guard : Option Term) → (so_far : Reason) → Reason
    after_left at None so_far = so_far
    after_left at (Some e) so_far = after_guard at source.LoopLeft (neg e) so_far

    -- a store, if there is one
    abbrev pub after_any_store : (at : ℕ) → Option Store → (so_far : Reason) → Reason
    after_any_store at None so_far = so_far
    after_any_store at (Some k) so_far = after_assignment at k.variable k.value so_far

    module _ (p : Plain) where
      -- a statement with these blocks, if it states something: of a loop, also that its guard doesn't hold
      abbrev pub after_stated : Nested → (guard : Option Term) → (at : ℕ) → Stm → Option State → (so_far : Reason) → Reason
      after_stated nested guard at s None so_far = so_far
      after_stated nested guard at s (Some j) so_far =
          after_left at (left_guard nested guard) (after_state (state_source nested) at j (unless_listed p nested at s so_far))

      -- what is stored, taken and given back counts, and then what is stated
      abbrev pub after_statement : (at : ℕ) → Stm → (so_far : Reason) → Reason
      after_statement at s so_far =
          after_stated (parts s).nested (parts s).guard at s (parts s).state
          (after_return stable at (parts s).returned (after_taken p at (parts s).taken (after_any_store at (parts s).store so_far)))

      abbrev pub after_step : Step → (so_far : Reason) → Reason
      after_step (passed at s) so_far = after_statement at s so_far
      after_step (yes at e) so_far = after_guard at source.GuardHolds e so_far
      after_step (no at e) so_far = after_guard at source.GuardFails (neg e) so_far
      after_step (head at inv) so_far = after_state source.LoopState at inv (behind_state Inv at so_far)

-- of a variable, in a thread
module _ (p : Plain) (t : ℕ) (x : ℕ) where
  -- behind further steps, in front of which these locks are held
  abbrev pub after_steps : (held : List Bool) → List Step → (so_far : Reason) → Reason
  after_steps held [] so_far = so_far
  after_steps held (s ∷ ss) so_far = after_steps (held_after s held) ss (after_step x (sets.stable p t (held_after s held)) p s so_far)

  -- behind steps from the start of the thread
  abbrev pub reason : List Step → Reason
  reason steps = after_steps (no_locks p) steps unmentioned

-- Of a goal ----------------------------------------------------------------------------------------------------

-- of a point with these hypotheses
module _ (hyps : List Term) where
  -- variables, and one more, if no hypothesis mentions it; of more than a few the others aren't told of
  abbrev pub with_unknown : (found : List ℕ) → (x : ℕ) → List ℕ
  with_unknown found x = if nat_lt (length found) MOST_TOLD && not (is_mentioned hyps x) then found ++ x ∷ [] else found

  abbrev pub with_unknowns : (found : List ℕ) → (xs : List ℕ) → List ℕ
  with_unknowns found [] = found
  with_unknowns found (x ∷ xs) = with_unknowns (with_unknown found x) xs

  -- the variables of a goal that no hypothesis mentions, by first occurrence
  abbrev pub unknowns : (goal : Term) → List ℕ
  unknowns goal = with_unknowns [] (vars goal)

-- What the code has --------------------------------------------------------------------------------------------

abbrev pub fact : declared_fact.Fact → Fact
fact f = record { origin = f.origin; term = given_term f.term }

abbrev pub seen : declared.Reason → Reason
seen by.Unmentioned = unmentioned
seen (by.Own at) = own at
seen (by.NoEquation at y) = no_equation at y
seen (by.NoGuard at y) = no_guard at y
seen (by.Unlisted s) = unlisted s
seen (by.Taken at l) = taken at l
seen (by.Known f) = known (fact f)
seen (by.Forgotten f loss) = forgotten (fact f) loss
