use Rattle.std.proofs.Common.{map, option_map, subst}
use Rattle.cov_expr.specs.View.{term}
use Rattle.typing_state.specs.Next.{AreDone}
use Rattle.typing_state.proofs.VariableLaws.{class_free, class_mentions}
use Rattle.typing_state.proofs.NextLaws.{done_further}
use Rattle.typing_state.proofs.variables.Variables.next_controlled.Goals as goal

pub returns-clause-further : goal.returns-clause-further
returns-clause-further c = done_further _ c.args.from c.next_mentioning.result c.next_mentioning.ensures.done

pub returns-clause-done : goal.returns-clause-done
returns-clause-done c p are =
    subst (λ f. AreDone f c.args.from 256 c.next_mentioning.result) (λ i y. class_free p (map (option_map term) c.args.self.now.class_types) are.class_types c.args.x y i) c.next_mentioning.ensures.done

pub returns-clause-controlled : goal.returns-clause-controlled
returns-clause-controlled c p are =
    class_mentions p (map (option_map term) c.args.self.now.class_types) are.class_types c.args.x c.next_mentioning.result c.next_mentioning.ensures.mentioning
