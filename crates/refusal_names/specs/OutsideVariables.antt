-- Variables outside of a set: of an expression, of the first of some expressions that has one, and of a class.
use Rattle.std.specs.Prelude.{ℕ, ◌||◌, List, [], ◌∷◌, Bool, if◌then◌else◌, Option, Some, None}
use Rattle.cov_expr.specs.Term.{Term}
use Rattle.cov_expr.specs.Trees.{occurrences}
use Rattle.cov_ast.specs.Declarations.{class_of}
use Rattle.cov_ast.specs.Plain.{Plain}
use Rattle.cov_ast.specs.Tables.{has, first_outside}

-- those of a list, in its order
abbrev pub all_outside : (set : List Bool) → List ℕ → List ℕ
all_outside set [] = []
all_outside set (x ∷ xs) = if has set x then all_outside set xs else x ∷ all_outside set xs

-- the first occurrence in an expression
abbrev pub outside : (set : List Bool) → Term → Option ℕ
outside set e = first_outside set (occurrences e)

-- an expression with a variable of it, if there is one; else what comes later
abbrev pub found_or : Term → Option ℕ → (later : Option (Term × ℕ)) → Option (Term × ℕ)
found_or e None later = later
found_or e (Some x) later = Some (e, x)

-- the first of expressions that has a variable outside of a set, with its first one
abbrev pub first_with_outside : (set : List Bool) → List Term → Option (Term × ℕ)
first_with_outside set [] = None
first_with_outside set (e ∷ es) = found_or e (outside set e) (first_with_outside set es)

-- a variable with a control of it, if there is one; else what comes later
abbrev pub control_or : (y : ℕ) → Option ℕ → (later : Option (ℕ × ℕ)) → Option (ℕ × ℕ)
control_or y None later = later
control_or y (Some c) later = Some (y, c)

-- the first of variables that is neither stable nor a control, and has a control that isn't stable, with the first one
abbrev pub first_unstable_class : Plain → (stable controls : List Bool) → List ℕ → Option (ℕ × ℕ)
first_unstable_class p stable controls [] = None
first_unstable_class p stable controls (y ∷ ys) =
    if has stable y || has controls y then first_unstable_class p stable controls ys
    else control_or y (outside stable (class_of p y)) (first_unstable_class p stable controls ys)
