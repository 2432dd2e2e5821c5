-- The values that a search tries for a variable, at most `MOST_VALUES`: those at which the sides of a comparison are equal, where sums and differences give
-- them, then 0, 1 and the numbers that occur, all but this 0 and 1 with the words next to them; and last the greatest word, so that it comes where no other does.
use Rattle.std.specs.Prelude.{ℕ, ◌-◌, ◌==◌, nat_le, List, [], ◌∷◌, ◌++◌, length, Bool, true, false, ◌||◌, Option, Some, None, if◌then◌else◌}
use Rattle.cov_expr.specs.declared.expr.Op.{Op}
use Rattle.cov_expr.specs.declared.expr.Op.TheVariants.{Add, Eq, Ne, Lt, Le}
use Rattle.cov_expr.specs.Term.{Term, const, var, neg, bin, apply}
use Rattle.cov_expr.specs.Trees.{has_number}
use Rattle.entail_counter.specs.declared.binding.Binding.{Binding}
use Rattle.entail_counter.specs.declared.candidates.TheConstants.{MOST_VALUES}
use Rattle.entail_counter.specs.Lines.{crossing, line}

-- Lists of values ----------------------------------------------------------------------------------------------

-- one more, where it is new and there are fewer than the most
abbrev pub added : List ℕ → ℕ → List ℕ
added vs v = if nat_le MOST_VALUES (length vs) || has_number vs v then vs else vs ++ v ∷ []

abbrev pub all_added : List ℕ → List ℕ → List ℕ
all_added vs [] = vs
all_added vs (w ∷ ws) = all_added (added vs w) ws

-- with the word before one, where there is one
abbrev pub with_before : List ℕ → ℕ → List ℕ
with_before vs v = if v == 0 then vs else added vs (v - 1)

-- with a word, the next one and the one before
abbrev pub with_near : List ℕ → ℕ → List ℕ
with_near vs v = with_before (added (added vs v) (apply Add v 1)) v

abbrev pub with_any : List ℕ → Option ℕ → List ℕ
with_any vs None = vs
with_any vs (Some v) = with_near vs v

-- Candidates ---------------------------------------------------------------------------------------------------

abbrev pub is_comparison : Op → Bool
is_comparison Eq = true
is_comparison Ne = true
is_comparison Lt = true
is_comparison Le = true
is_comparison op = false

-- with those next to where the sides of a comparison are equal
abbrev pub with_equal : ℕ → List Binding → List ℕ → Term → Term → List ℕ
with_equal x m vs a b = with_any vs (crossing (line x m a) (line x m b))

-- with those next to where the sides of a comparison in an expression are equal
abbrev pub with_tight : ℕ → List Binding → List ℕ → Term → List ℕ
with_tight x m vs (const k) = vs
with_tight x m vs (var y) = vs
with_tight x m vs (neg e) = with_tight x m vs e
with_tight x m vs (bin op a b) = if is_comparison op then with_equal x m vs a b else with_tight x m (with_tight x m vs a) b

abbrev pub with_all_tight : ℕ → List Binding → List ℕ → List Term → List ℕ
with_all_tight x m vs [] = vs
with_all_tight x m vs (e ∷ es) = with_all_tight x m (with_tight x m vs e) es

-- with those next to the numbers in an expression
abbrev pub with_numbers : List ℕ → Term → List ℕ
with_numbers vs (const k) = with_near vs k
with_numbers vs (var x) = vs
with_numbers vs (neg e) = with_numbers vs e
with_numbers vs (bin op a b) = with_numbers (with_numbers vs a) b

abbrev pub with_all_numbers : List ℕ → List Term → List ℕ
with_all_numbers vs [] = vs
with_all_numbers vs (e ∷ es) = with_all_numbers (with_numbers vs e) es

-- of every variable: 0, 1, those next to the numbers, and the greatest word
abbrev pub common : List Term → Term → List ℕ
common hyps goal = added (with_all_numbers (with_numbers (added (added [] 0) 1) goal) hyps) 4294967295

-- of one variable, those of every variable last
abbrev pub candidates : List Term → Term → List ℕ → ℕ → List Binding → List ℕ
candidates hyps goal more x m = all_added (with_all_tight x m (with_tight x m [] goal) hyps) more
