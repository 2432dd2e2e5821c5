use Rattle.std.proofs.Common.{ap, map}
use Rattle.cov_expr.specs.View.{term}
use Rattle.typing_state.specs.Keys.{key}
use Rattle.typing_state.proofs.KeyedLaws.{each_once}
use Rattle.typing_state.proofs.predicates.Predicates.tell_once.Goals as goal

pub returns : goal.returns
returns c =
    each_once (map key (map term c.self.inside.list)) (map term c.args.self.now) (ap (λ es. map key (map term es)) c.self.view_is) c.self.invariant.0
