use Rattle.cov_ast.specs.Plain.{plain}
use Rattle.cov_ast.specs.Tables.{has}
use Rattle.cov_ast.specs.View as view
use Rattle.entail_origins.specs.Questions.{is_shown_by}
use Rattle.entail_origins.specs.declared.kinds.Question.TheVariants as q
use Rattle.entail_origins.proofs.Ranges.{range_more}
use Rattle.entail_origins.proofs.assignments.add_each_controlled.Goals as goal

pub loop-y-preserved : goal.loop-y-preserved
loop-y-preserved c =
    range_more q.Controlled (is_shown_by (plain (view.program c.args.p.now)) (has c.args.hidden.now) c.args.x) c.args.made.now c.loop-y.made
    c.add_controlled_by.new.made c.loop-y.y c.loop-y.invariant c.in_ok-add_controlled_by.ensures
