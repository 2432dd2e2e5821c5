use Rattle.std.proofs.Common.{◌≡◌, ◌∙◌, ap, is_some, map, refl, subst}
use Rattle.std.specs.Prelude.{IfSome}
use Rattle.cov_expr.specs.Trees.{same}
use Rattle.cov_expr.specs.View.{term}
use Rattle.typing_state.specs.Keys.{key}
use Rattle.typing_state.proofs.OnceLaws.{found_is_there}
use Rattle.typing_state.proofs.KeyedLaws.{keyed_found, keyed_position}
use Rattle.typing_state.proofs.keys.index_in.Goals as goal

pub returns-in_ok-key-in-Some-clause-index : goal.returns-in_ok-key-in-Some-clause-index
returns-in_ok-key-in-Some-clause-index c =
    let list = c.args.list.now in
    let keyed = subst (λ o. IfSome o (λ s. s.keys ≡ map key (map term list))) c.in-Some.is c.requires in
    c.get_index_of.ensures.index ∙ keyed_position c.in-Some.set.keys list keyed list (term c.args.e.now) c.in_ok-key-in-Some.key refl c.in_ok-key-in-Some.ensures

pub returns-in_ok-key-in-Some-clause-found : goal.returns-in_ok-key-in-Some-clause-found
returns-in_ok-key-in-Some-clause-found c =
    let list = c.args.list.now in
    let keyed = subst (λ o. IfSome o (λ s. s.keys ≡ map key (map term list))) c.in-Some.is c.requires in
    c.get_index_of.ensures.found ∙ keyed_found c.in-Some.set.keys list keyed list (term c.args.e.now) c.in_ok-key-in-Some.key refl c.in_ok-key-in-Some.ensures

pub returns-in-None-clause-found : goal.returns-in-None-clause-found
returns-in-None-clause-found c =
    ap is_some c.index_among.ensures ∙ found_is_there (λ f. same f (term c.args.e.now)) (map term c.args.list.now)
