-- The search for a counterexample: variable after variable is bound, and a binding is taken back that makes a hypothesis 0, or the goal a word other than 0.
use Rattle.std.specs.Prelude.{ℕ, zero, suc, ◌+◌, ◌-◌, ◌/◌, ◌==◌, nat_le, List, [], ◌∷◌, ◌++◌, Bool, false, not, ◌&&◌, Option, Some, None, if◌then◌else◌}
use Rattle.std.specs.List.{list_any}
use Rattle.cov_expr.specs.Term.{Term}
use Rattle.cov_expr.specs.Trees.{nodes}
use Rattle.entail_counter.specs.declared.binding.Binding.{Binding}
use Rattle.entail_counter.specs.declared.search.TheConstants.{MOST_VISITED, MOST_BINDINGS}
use Rattle.entail_counter.specs.Candidates.{candidates, common}
use Rattle.entail_counter.specs.Free.{chosen}
use Rattle.entail_counter.specs.Known.{known}

-- whether a value is settled and is 0, and whether it is settled and is another word
abbrev pub is_zero : Option ℕ → Bool
is_zero None = false
is_zero (Some v) = v == 0

abbrev pub is_other : Option ℕ → Bool
is_other None = false
is_other (Some v) = not (v == 0)

-- whether bindings leave it open that all hypotheses hold and the goal doesn't
abbrev pub may_break : List Term → Term → List Binding → Bool
may_break hyps goal m = not (is_other (known goal m)) && not (list_any (λ h. is_zero (known h m)) hyps)

-- what a search comes to, and how many trials are left
pub record Outcome : Type 0 where
  pub found : Option (List Binding)
  pub left : ℕ

abbrev pub without : (left : ℕ) → Outcome
without left = record { found = None; left = left }

abbrev pub with_memory : List Binding → (left : ℕ) → Outcome
with_memory m left = record { found = Some m; left = left }

-- bindings, where no variable is free
abbrev pub if_settled : Option ℕ → List Binding → Option (List Binding)
if_settled None m = Some m
if_settled (Some x) m = None

-- the first, where it comes to something, or else the other, with the trials that are left
abbrev pub first : (found : Option (List Binding)) → (left : ℕ) → (ℕ → Outcome) → Outcome
first None left other = other left
first (Some m) left other = with_memory m left

abbrev pub binding : (x v : ℕ) → Binding
binding x v = record { variable = x; value = v }

module _ (hyps : List Term) (goal : Term) (more : List ℕ) where
  -- one binding more, where a trial is left
  abbrev pub tried : (List Binding → ℕ → Outcome) → Binding → List Binding → (left : ℕ) → Outcome
  tried next b m left =
      if left == 0 then without left
      else if may_break hyps goal (m ++ b ∷ []) then next (m ++ b ∷ []) (left - 1) else without (left - 1)

  -- each value of a variable
  abbrev pub each : (List Binding → ℕ → Outcome) → ℕ → List ℕ → List Binding → (left : ℕ) → Outcome
  each next x [] m left = without left
  each next x (v ∷ vs) m left =
      first (tried next (binding x v) m left).found (tried next (binding x v) m left).left (each next x vs m)

  -- where no variable is free, the bindings; else each value of the one that is chosen
  abbrev pub onward : (List Binding → ℕ → Outcome) → Option ℕ → List Binding → (left : ℕ) → Outcome
  onward next None m left = with_memory m left
  onward next (Some x) m left = each next x (candidates hyps goal more x m) m left

  -- with so many bindings more, at most
  abbrev pub search : ℕ → List Binding → (left : ℕ) → Outcome
  search zero m left = record { found = if_settled (chosen hyps goal m) m; left = left }
  search (suc d) m left = onward (search d) (chosen hyps goal m) m left

-- How many trials there are: so many that together they visit at most `MOST_VISITED` nodes; none where the expressions have more.
abbrev pub total : List Term → ℕ
total [] = 0
total (e ∷ es) = nodes e + total es

abbrev pub trials : List Term → Term → ℕ
trials hyps goal = if nat_le (nodes goal + total hyps) MOST_VISITED then MOST_VISITED / (nodes goal + total hyps + 1) else 0

abbrev pub searched : List Term → Term → Option (List Binding)
searched hyps goal = (search hyps goal (common hyps goal) MOST_BINDINGS [] (trials hyps goal)).found
