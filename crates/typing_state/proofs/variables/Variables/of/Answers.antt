use Rattle.std.proofs.Common.{◌∙◌, Some, ap, map}
use Rattle.cov_expr.specs.View.{term}
use Rattle.cov_expr.proofs.View.{term-Const}
use Rattle.cov_ast.specs.Plain.{plain}
use Rattle.cov_ast.specs.View as view
use Rattle.typing_state.proofs.VariableLaws.{some_classes}
use Rattle.typing_state.proofs.variables.Variables.of.Goals as goal

pub returns : goal.returns
returns c = record {
  controls = c.control_set.ensures;
  classes = ap (map (λ q. term q.value)) c.classes.view_is ∙ c.in_ok-classes.ensures;
  class_types = c.in_ok-class_types.ensures ∙ ap (map (λ q. Some (term q.value))) c.as_slice.ensures
      ∙ some_classes (λ q. term q.value) c.in_ok-classes.classes (plain (view.program c.args.p.now)) c.in_ok-classes.ensures;
  nothing = ap term c.in_ok-shared.ensures ∙ term-Const 0;
}
