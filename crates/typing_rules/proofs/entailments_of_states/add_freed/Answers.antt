use Rattle.std.proofs.Common.{not}
use Rattle.cov_ast.specs.Declarations.{is_control}
use Rattle.cov_ast.specs.Plain.{plain}
use Rattle.cov_ast.specs.View as view
use Rattle.typing_law.specs.Entailments.{freed_value}
use Rattle.typing_rules.specs.Listed.{entailments_of}
use Rattle.typing_rules.proofs.ListedLaws.{passed_more, passed_all}
use Rattle.typing_rules.proofs.entailments_of_states.add_freed.Goals as goal

pub loop-x-preserved : goal.loop-x-preserved
loop-x-preserved c t a kept =
    let p = plain (view.program c.args.p.now) in
    passed_more (freed_value p t a) (λ x. not (is_control p x)) (entailments_of a.preds c.loop-x.entailments) (entailments_of a.preds c.add_freed_value.new.entailments)
    c.args.hidden.now c.loop-x.x-index 0 _ c.loop-x-test.true (c.in_ok-add_freed_value.ensures t a kept) (c.loop-x.invariant t a kept)

pub returns : goal.returns
returns c t a kept =
    let p = plain (view.program c.args.p.now) in
    passed_all (freed_value p t a) (λ x. not (is_control p x)) (entailments_of a.preds c.loop-x.entailments)
    c.args.hidden.now c.loop-x.x-index _ c.loop-x-test.false (c.loop-x.invariant t a kept)
