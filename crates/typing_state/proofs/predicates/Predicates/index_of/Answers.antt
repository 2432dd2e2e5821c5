use Rattle.std.proofs.Common.{◌≡◌, ◌∙◌, is_some, map, position, subst}
use Rattle.std.specs.Prelude.{IfOk}
use Rattle.cov_expr.specs.Trees.{has_term, same}
use Rattle.cov_expr.specs.View.{term}
use Rattle.typing_state.proofs.predicates.Predicates.index_of.Goals as goal

pub returns-clause-index : goal.returns-clause-index
returns-clause-index c =
    subst (λ l. IfOk c.index_in.result (λ index. index ≡ position (λ f. same f (term c.args.e.now)) (map term l))) (c.as_slice.ensures ∙ c.self.view_is) c.index_in.ensures.index

pub returns-clause-found : goal.returns-clause-found
returns-clause-found c =
    subst (λ l. IfOk c.index_in.result (λ index. is_some index ≡ has_term (map term l) (term c.args.e.now))) (c.as_slice.ensures ∙ c.self.view_is) c.index_in.ensures.found
