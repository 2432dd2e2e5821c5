-- What an expression is as a function of one variable, where sums and differences make it one that can be solved.
use Rattle.std.specs.Prelude.{ℕ, ◌==◌, not, List, Option, Some, None, if◌then◌else◌}
use Rattle.cov_expr.specs.declared.expr.Op.{Op}
use Rattle.cov_expr.specs.declared.expr.Op.TheVariants.{Add, Sub}
use Rattle.cov_expr.specs.Term.{Term, const, var, neg, bin, apply, flag, is_set}
use Rattle.entail_counter.specs.declared.binding.Binding.{Binding}
use Rattle.entail_counter.specs.declared.line.Line.{Line}
use Rattle.entail_counter.specs.declared.line.Line.TheVariants.{Constant, Rising, Falling, Other}
use Rattle.entail_counter.specs.Known.{bound}

-- of another variable, by its value
abbrev pub of_value : Option ℕ → Line
of_value None = Other
of_value (Some v) = Constant v

abbrev pub negated : Line → Line
negated (Constant v) = Constant (flag (not (is_set v)))
negated l = Other

-- a sum
abbrev pub added : Line → Line → Line
added (Constant v) (Constant w) = Constant (apply Add v w)
added (Constant v) (Rising c) = Rising (apply Add v c)
added (Constant v) (Falling c) = Falling (apply Add v c)
added (Rising c) (Constant w) = Rising (apply Add c w)
added (Falling c) (Constant w) = Falling (apply Add c w)
added l k = Other

-- a difference
abbrev pub taken : Line → Line → Line
taken (Constant v) (Constant w) = Constant (apply Sub v w)
taken (Constant v) (Rising c) = Falling (apply Sub v c)
taken (Constant v) (Falling c) = Rising (apply Sub v c)
taken (Rising c) (Constant w) = Rising (apply Sub c w)
taken (Falling c) (Constant w) = Falling (apply Sub c w)
taken l k = Other

-- what another operator gives
abbrev pub applied : Op → Line → Line → Line
applied op (Constant v) (Constant w) = Constant (apply op v w)
applied op l k = Other

abbrev pub combined : Op → Line → Line → Line
combined Add l k = added l k
combined Sub l k = taken l k
combined op l k = applied op l k

-- of a variable x: a word, x + c, c - x, or something else, as far as other variables are bound
abbrev pub line : ℕ → List Binding → Term → Line
line x m (const k) = Constant k
line x m (var y) = if y == x then Rising 0 else of_value (bound m y)
line x m (neg e) = negated (line x m e)
line x m (bin op a b) = combined op (line x m a) (line x m b)

-- the value of the variable for which two are equal, where one of them is a word
abbrev pub crossing : Line → Line → Option ℕ
crossing (Rising c) (Constant w) = Some (apply Sub w c)
crossing (Falling c) (Constant w) = Some (apply Sub c w)
crossing (Constant v) (Rising c) = Some (apply Sub v c)
crossing (Constant v) (Falling c) = Some (apply Sub c v)
crossing l k = None
