-- Of which program the code keeps what it keeps of variables.
use Rattle.std.specs.Prelude.{◌≡◌, map, Some, option_map}
use Rattle.cov_expr.specs.Term.{const}
use Rattle.cov_expr.specs.View.{term}
use Rattle.cov_ast.specs.Plain.{Plain}
use Rattle.cov_ast.specs.Declarations.{class_of}
use Rattle.point_law.specs.Point.{controls_of, vars_of}
use Rattle.typing_state.specs.declared.variables.Variables.{Variables}

-- This is what a program declares of its variables.
pub record AreVariables (p : Plain) (v : Variables) : Type 0 where
  pub controls : v.controls ≡ controls_of p
  pub classes : map (λ q. term q.value) v.classes ≡ map (class_of p) (vars_of p)
  pub class_types : map (option_map term) v.class_types ≡ map (λ x. Some (class_of p x)) (vars_of p)
  pub nothing : term v.nothing.value ≡ const 0
