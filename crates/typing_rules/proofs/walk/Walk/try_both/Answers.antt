use Rattle.std.proofs.Common.{map, arith}
use Rattle.cov_ast.specs.View as view
use Rattle.typing_law.specs.Entailments.{state_follows}
use Rattle.typing_law.proofs.Bounds.{few_entailments_state}
use Rattle.typing_rules.proofs.walk.Walk.try_both.Goals as goal

pub try_state-requires-2-clause-few : goal.try_state-requires-2-clause-few
try_state-requires-2-clause-few c =
    let a = c.requires.yes.at in
    omega (arith, (c.in_ok-first.ensures a c.requires.yes.keeps).few, few_entailments_state a (view.state c.args.join.now), c.requires.few)

pub overflow_add-from : goal.overflow_add-from
overflow_add-from c =
    let a = c.requires.yes.at in
    omega (arith, (c.in_ok-first.ensures a c.requires.yes.keeps).few, few_entailments_state a (view.state c.args.join.now), c.requires.few)

pub and-requires : goal.and-requires
and-requires c =
    let a = c.requires.yes.at in
    let b = c.requires.no.at in
    let j = view.state c.args.join.now in
    omega (
      arith,
      (c.in_ok-first.ensures a c.requires.yes.keeps).few,
      few_entailments_state a j,
      (c.in_ok-second.ensures b c.requires.no.keeps).few,
      few_entailments_state b j,
      c.requires.few,
    )

pub returns : goal.returns
returns c =
    let j = view.state c.args.join.now in
    λ a k b kb.
    c.and.ensures c.args.self.now.purpose c.args.at (map view.proof c.args.proofs.now) c.args.from (state_follows a j) (state_follows b j) c.args.kept.now c.try_state.new.kept
    c.try_state-2.new.kept (c.in_ok-first.ensures a k) (c.in_ok-second.ensures b kb)
