-- What the views of declarations keep.
use Rattle.std.proofs.Common.{◌≡◌, ℕ, ◌<◌, List, length, map, get_or, ap, sym, ◌∙◌}
use Rattle.std.proofs.lemmas.List.{get_or-map}
use Rattle.cov_ast.specs.declared.decl.VarDecl.{VarDecl}
use Rattle.cov_ast.specs.Declarations.{no_var}
use Rattle.cov_ast.specs.View as view

-- the name of a variable
pub var_name : (vars : List VarDecl) (x : ℕ) (v : VarDecl) → x < length vars → v ≡ get_or vars x v → v.name ≡ (get_or (map view.var vars) x no_var).name
var_name vars x v h is = ap (λ w. w.name) is ∙ sym (ap (λ w. w.name) (get_or-map view.var vars x v no_var h))
