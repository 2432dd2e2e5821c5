use Rattle.std.proofs.Common.{◌∙◌, ap}
use Rattle.cov_expr.specs.declared.limits.TheConstants.{MOST_VARIABLES}
use Rattle.cov_ast.specs.Plain.{plain}
use Rattle.cov_ast.specs.View as view
use Rattle.flow_model.specs.FirstDifference.{holders_of}
use Rattle.flow_model.specs.Inside.{with_assumed}
use Rattle.flow_model.proofs.Marking.{compared_marked}
use Rattle.flow_model.proofs.agreement.var_apart.Goals as goal

pub returns : goal.returns
returns c =
    let p = plain (view.program c.args.p.now) in
    c.marked_apart.ensures
    ∙ compared_marked p MOST_VARIABLES c.requires.formed.limits.variables c.args.m1.now c.args.m2.now (holders_of c.args.h1.now)
    c.mark_controls.new.marks c.mark_assumed.new.marks c.mark_controls.ensures
    (c.mark_assumed.ensures ∙ ap (λ m. with_assumed m p.threads) c.mark_held.ensures)
