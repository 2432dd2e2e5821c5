-- What bindings settle: the values of variables, and of expressions.
use Rattle.std.specs.Prelude.{ℕ, ◌==◌, List, [], ◌∷◌, not, Option, Some, None, if◌then◌else◌}
use Rattle.cov_expr.specs.declared.expr.Op.{Op}
use Rattle.cov_expr.specs.declared.expr.Op.TheVariants.{Both, Either}
use Rattle.cov_expr.specs.Term.{Term, const, var, neg, bin, apply, flag, is_set}
use Rattle.entail_counter.specs.declared.binding.Binding.{Binding}

-- the value of a variable, if one is bound
abbrev pub bound : List Binding → ℕ → Option ℕ
bound [] x = None
bound (b ∷ bs) x = if b.variable == x then Some b.value else bound bs x

-- what `!` gives
abbrev pub negated : Option ℕ → Option ℕ
negated None = None
negated (Some a) = Some (flag (not (is_set a)))

-- what an operator gives where one operand alone is settled: of `&&` and `||` that may settle the whole
abbrev pub decided : Op → ℕ → Option ℕ
decided Both a = if a == 0 then Some 0 else None
decided Either a = if a == 0 then None else Some 1
decided op a = None

-- what an operator gives
abbrev pub combined : Op → Option ℕ → Option ℕ → Option ℕ
combined op (Some a) (Some b) = Some (apply op a b)
combined op (Some a) None = decided op a
combined op None (Some b) = decided op b
combined op None None = None

-- the value of an expression, if the bindings settle it
abbrev pub known : Term → List Binding → Option ℕ
known (const k) m = Some k
known (var x) m = bound m x
known (neg e) m = negated (known e m)
known (bin op a b) m = combined op (known a m) (known b m)
