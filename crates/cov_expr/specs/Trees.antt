-- Expressions as trees: when two are equal, their parts, their measures, and substitution.
use Rattle.std.specs.Prelude.{ℕ, ◌+◌, max, ◌==◌, ◌&&◌, ◌||◌, List, [], ◌∷◌, ◌++◌, Bool, true, false, if◌then◌else◌}
use Rattle.std.specs.List.{list_any}
use Rattle.cov_expr.specs.declared.expr.Op.{Op}
use Rattle.cov_expr.specs.declared.expr.Op.TheVariants.{Add, Sub, Mul, And, Or, Xor, Eq, Ne, Lt, Le, Both, Either}
use Rattle.cov_expr.specs.Term.{Term, const, var, neg, bin}

-- a number for each operator
abbrev pub op_number : Op → ℕ
op_number Add = 0
op_number Sub = 1
op_number Mul = 2
op_number And = 3
op_number Or = 4
op_number Xor = 5
op_number Eq = 6
op_number Ne = 7
op_number Lt = 8
op_number Le = 9
op_number Both = 10
op_number Either = 11

-- whether two trees are equal
abbrev pub same : Term → Term → Bool
same (const j) (const k) = j == k
same (var x) (var y) = x == y
same (neg a) (neg b) = same a b
same (bin o a b) (bin q c d) = (op_number o == op_number q) && same a c && same b d
same _ _ = false

-- Parts --------------------------------------------------------------------------------------------------------

-- the parts that `&&` joins, of a whole expression from left to right
abbrev pub conjuncts : Term → List Term
conjuncts (bin Both a b) = conjuncts a ++ conjuncts b
conjuncts e = e ∷ []

abbrev pub has_term : List Term → Term → Bool
has_term es e = list_any (λ f. same f e) es

abbrev pub has_conjunct : Term → Term → Bool
has_conjunct e c = has_term (conjuncts e) c

-- every occurrence of a variable, from left to right
abbrev pub occurrences : Term → List ℕ
occurrences (const k) = []
occurrences (var x) = x ∷ []
occurrences (neg e) = occurrences e
occurrences (bin op a b) = occurrences a ++ occurrences b

abbrev pub has_number : List ℕ → ℕ → Bool
has_number xs x = list_any (λ y. y == x) xs

-- numbers behind others, each that isn't there yet
abbrev pub add_new : List ℕ → List ℕ → List ℕ
add_new xs [] = xs
add_new xs (y ∷ ys) = add_new (if has_number xs y then xs else xs ++ y ∷ []) ys

-- the variables, each once, by first occurrence
abbrev pub vars : Term → List ℕ
vars e = add_new [] (occurrences e)

abbrev pub mentions : Term → ℕ → Bool
mentions (const k) x = false
mentions (var y) x = y == x
mentions (neg e) x = mentions e x
mentions (bin op a b) x = mentions a x || mentions b x

-- whether there is no variable
abbrev pub is_closed : Term → Bool
is_closed (const k) = true
is_closed (var x) = false
is_closed (neg e) = is_closed e
is_closed (bin op a b) = is_closed a && is_closed b

-- Measures -----------------------------------------------------------------------------------------------------

-- how many registers the evaluation takes: an operand is kept while the other is evaluated
abbrev pub width : Term → ℕ
width (const k) = 1
width (var x) = 1
width (neg e) = max (width e) 2
width (bin op a b) = max (width a) (width b + 1)

abbrev pub height : Term → ℕ
height (const k) = 1
height (var x) = 1
height (neg e) = height e + 1
height (bin op a b) = max (height a) (height b) + 1

-- leaves and operations
abbrev pub nodes : Term → ℕ
nodes (const k) = 1
nodes (var x) = 1
nodes (neg e) = nodes e + 1
nodes (bin op a b) = nodes a + nodes b + 1

-- Substitution -------------------------------------------------------------------------------------------------

-- with a part in the place of each occurrence of a variable
abbrev pub subst : Term → ℕ → Term → Term
subst (const k) x part = const k
subst (var y) x part = if y == x then part else var y
subst (neg e) x part = neg (subst e x part)
subst (bin op a b) x part = bin op (subst a x part) (subst b x part)
