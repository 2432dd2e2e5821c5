-- Counterexamples to entailments: memories in which all hypotheses hold and the goal doesn't, and which of them a search comes to.
use Rattle.std.specs.Prelude.{◌≡◌, ℕ, zero, suc, ◌^◌, nat_lt, List, [], ◌∷◌, get_or, Bool, not, ◌&&◌, Option, Some, None, if◌then◌else◌}
use Rattle.std.specs.List.{list_any, list_all}
use Rattle.cov_expr.specs.Entailment.{AllHold}
use Rattle.cov_expr.specs.Term.{Term, value}
use Rattle.cov_expr.specs.Words.{AreWords}
use Rattle.entail_counter.specs.declared.binding.Binding.{Binding}
use Rattle.entail_counter.specs.Known.{bound, known}
use Rattle.entail_counter.specs.Searching.{is_zero, is_other, searched}

-- In a memory of words all hypotheses hold, and the goal doesn't.
pub record IsCounterexample (hyps : List Term) (goal : Term) (m : List ℕ) : Type 0 where
  pub words : AreWords m
  pub hold : AllHold hyps m
  pub fails : value goal m ≡ 0

-- a memory with a word in the place of a variable, made longer by zeros where that takes it
abbrev pub put : (x v : ℕ) → List ℕ → List ℕ
put zero v [] = v ∷ []
put zero v (w ∷ ws) = v ∷ ws
put (suc x) v [] = 0 ∷ put x v []
put (suc x) v (w ∷ ws) = w ∷ put x v ws

-- the memory of bindings, in which each variable that isn't bound is 0
abbrev pub memory : List Binding → List ℕ
memory [] = []
memory (b ∷ bs) = put b.variable b.value (memory bs)

-- A memory has the values that bindings say.
abbrev pub HasBindings : List Binding → List ℕ → Type 0
HasBindings m n = (x v : ℕ) → bound m x ≡ Some v → get_or n x 0 ≡ v

-- whether bindings are of words, and settle that all hypotheses hold and that the goal doesn't
abbrev pub are_words : List Binding → Bool
are_words m = list_all (λ b. nat_lt b.value (2 ^ 32)) m

abbrev pub does_break : List Term → Term → List Binding → Bool
does_break hyps goal m = is_zero (known goal m) && not (list_any (λ h. not (is_other (known h m))) hyps)

abbrev pub only_breaking : List Term → Term → Option (List Binding) → Option (List Binding)
only_breaking hyps goal None = None
only_breaking hyps goal (Some m) = if are_words m && does_break hyps goal m then Some m else None

-- What a search comes to, as bindings of all variables that occur. None says nothing of the entailment.
unfoldable pub counterexample : List Term → Term → Option (List Binding)
counterexample hyps goal = only_breaking hyps goal (searched hyps goal)
