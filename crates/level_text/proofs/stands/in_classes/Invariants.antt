use Rattle.std.proofs.Common.{◌≡◌, drop, map}
use Rattle.std.specs.List.{list_any}
use Rattle.cov_expr.specs.Trees.{mentions}
use Rattle.cov_ast.specs.Plain.{class_term}
use Rattle.cov_ast.specs.View as view
use Rattle.level_text.proofs.stands.in_classes.Given as goal

abbrev pub invariant-loop-var : goal.invariant-loop-var
invariant-loop-var l = list_any (λ v. mentions (class_term v.class) l.m) (map view.var (drop l.var-index l.vars)) ≡ list_any (λ v. mentions (class_term v.class) l.m) (map view.var l.vars)
