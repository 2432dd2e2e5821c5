-- Which variable a search binds next: that of the first expression in which one alone is free, or else the first of the first in which several are.
use Rattle.std.specs.Prelude.{ℕ, ◌==◌, List, [], ◌∷◌, Option, Some, None, if◌then◌else◌}
use Rattle.cov_expr.specs.Term.{Term, const, var, neg, bin}
use Rattle.entail_counter.specs.declared.binding.Binding.{Binding}
use Rattle.entail_counter.specs.declared.free.Unbound.{Unbound}
use Rattle.entail_counter.specs.declared.free.Unbound.TheVariants.{Settled, One, Several}
use Rattle.entail_counter.specs.Known.{bound}

-- of a variable
abbrev pub of_variable : ℕ → Option ℕ → Unbound
of_variable x None = One x
of_variable x (Some v) = Settled

-- of two parts
abbrev pub joined : Unbound → Unbound → Unbound
joined Settled f = f
joined (One x) Settled = One x
joined (One x) (One y) = if x == y then One x else Several x
joined (One x) (Several y) = Several x
joined (Several x) f = Several x

-- which variables of an expression are free: none, one, or several, of which it is the first
abbrev pub free : Term → List Binding → Unbound
free (const k) m = Settled
free (var x) m = of_variable x (bound m x)
free (neg e) m = free e m
free (bin op a b) m = joined (free a m) (free b m)

-- of two expressions that in which one is free before that in which several are, and the first where they are alike; one in which none is doesn't count
abbrev pub fewer : Unbound → Unbound → Unbound
fewer Settled f = f
fewer (One x) f = One x
fewer (Several x) (One y) = One y
fewer (Several x) f = Several x

abbrev pub fewest : Unbound → List Term → List Binding → Unbound
fewest f [] m = f
fewest f (e ∷ es) m = fewest (fewer f (free e m)) es m

abbrev pub variable_of : Unbound → Option ℕ
variable_of Settled = None
variable_of (One x) = Some x
variable_of (Several x) = Some x

-- the variable to be bound, if one is free
abbrev pub chosen : List Term → Term → List Binding → Option ℕ
chosen hyps goal m = variable_of (fewest (free goal m) hyps m)
