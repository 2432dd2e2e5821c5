use Rattle.std.proofs.Common.{◌∙◌, ◌<◌, ap, sym, map, get_or, length, option_map, None}
use Rattle.std.proofs.lemmas.Bool.{ltb-true}
use Rattle.cov_expr.specs.View.{term}
use Rattle.typing_state.specs.Groups.{is_free}
use Rattle.typing_state.proofs.SharedLaws.{type_at}
use Rattle.typing_state.proofs.types.Types.is_free.Goals as goal

pub returns-in-Some : goal.returns-in-Some
returns-in-Some c =
    let z = c.args.z in
    let known = c.self.inside.known in
    let look = rw c.as_slice.ensures at c.in-Some.ensures.lookup in
    let inside : z < length known = ltb-true z (length known) (sym look.0) in
    c.is_free.ensures ∙ ap (λ q. is_free c.args.x (option_map (λ q. term q.value) q)) look.1
    ∙ ap (is_free c.args.x) (sym (type_at (λ q. q.value) known z c.in-Some.q.now inside) ∙ ap (λ qs. get_or (map (option_map term) qs) z None) c.self.view_is)
