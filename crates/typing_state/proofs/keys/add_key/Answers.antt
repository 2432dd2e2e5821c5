use Rattle.std.proofs.Common.{◌≡◌, ◌∙◌, ap, map, not, refl, subst}
use Rattle.std.specs.Prelude.{IfSome}
use Rattle.cov_expr.specs.View.{term}
use Rattle.typing_state.specs.Keys.{key}
use Rattle.typing_state.proofs.KeyedLaws.{keyed_found}
use Rattle.typing_state.proofs.keys.add_key.Goals as goal

pub returns-in_ok-insert-in-Some-clause-added : goal.returns-in_ok-insert-in-Some-clause-added
returns-in_ok-insert-in-Some-clause-added c =
    let list = c.args.list.now in
    let keyed = subst (λ o. IfSome o (λ s. s.keys ≡ map key (map term list))) c.in-Some.is c.requires in
    c.in_ok-insert-in-Some.ensures.added ∙ ap not (keyed_found c.in-Some.set.keys list keyed list (term c.args.e.now) c.in_ok-key-in-Some.key refl c.in_ok-key-in-Some.ensures)
