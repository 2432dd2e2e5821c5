-- The rule of classes: a control, a variable on which the class of another depends, is itself declared low (W3).
use Rattle.std.specs.Prelude.{ℕ, List, map}
use Rattle.std.specs.List.{flat_map}
use Rattle.cov_expr.specs.Trees.{vars}
use Rattle.cov_ast.specs.Syntax.{Var, Program}
use Rattle.cov_ast.specs.Plain.{plain, class_term}
use Rattle.cov_ast.specs.Declarations.{name_of, is_plain_low}
use Rattle.cov_ast.specs.Obligations.{Obligation, declared_obligation}
use Rattle.cov_ast.specs.declared.refusal.Rule.TheVariants.{W3}
use Rattle.cov_ast.specs.declared.refusal.Detail.TheVariants.{One}

module _ (p : Program) where
  abbrev pub control_obligation : Var → ℕ → Obligation
  control_obligation v c = declared_obligation W3 v.at (One (name_of (plain p) c)) (is_plain_low (plain p) c)

  -- the controls of a variable, by first occurrence in its class
  abbrev pub control_obligations : Var → List Obligation
  control_obligations v = map (control_obligation v) (vars (class_term v.class))

  abbrev pub policy_obligations : List Obligation
  policy_obligations = flat_map control_obligations p.vars
